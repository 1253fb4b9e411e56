-- The cases of encodings and of local names. Of several cases the first one that fits holds.
use Rattle.std.specs.Prelude.{ℕ, List, Bool, not, ◌&&◌, ◌||◌, drop, codes, if◌then◌else◌}
use Rattle.itanium_syntax.specs.declared.encodings.EncodingEnd.{EncodingEnd}
use Rattle.itanium_syntax.specs.declared.encodings.EncodingEnd.TheVariants.{AfterName, AtE}
use Rattle.abi_scalars.specs.Bytes.{begins, begins_digit}
use Rattle.itanium_syntax.specs.Cases.{EncodingCase, SpecialEncoding, NameEncoding, FullEncoding}
use Rattle.itanium_syntax.specs.Cases.{ReturnCase, NoReturnType, SomeReturnType, EncodingParamsCase}
use Rattle.itanium_syntax.specs.Cases.{NoEncodingParams, SomeEncodingParams, EntityCase, StringLiteralEntity}
use Rattle.itanium_syntax.specs.Cases.{DefaultArgumentEntity, NameEntity, UnreadableEntity}

-- a <special-name> is next
abbrev pub begins_special : List ℕ → Bool
begins_special bytes = begins (codes "T") bytes || begins (codes "G") bytes

-- an <encoding> of a name: the name alone, where it ends right after it
abbrev pub name_encoding_case : EncodingEnd → EncodingCase
name_encoding_case AfterName = NameEncoding
name_encoding_case AtE = FullEncoding

-- <encoding>: a special name, or one of a name
abbrev pub encoding_case : EncodingEnd → List ℕ → EncodingCase
encoding_case end bytes = if begins_special bytes then SpecialEncoding else name_encoding_case end

-- the return type in an encoding, or none: a template has one, unless it is a constructor, destructor or conversion, or
-- its name is all of the encoding
abbrev pub return_case : Bool → Bool → List ℕ → ReturnCase
return_case templ ctor bytes =
    if templ && not ctor && not (begins (codes "E") bytes) then SomeReturnType else NoReturnType

-- the parameters of an encoding, or its E
abbrev pub encoding_params_case : List ℕ → EncodingParamsCase
encoding_params_case bytes = if begins (codes "E") bytes then NoEncodingParams else SomeEncodingParams

-- what follows the encoding of a <local-name>: its E, and s for a string literal, d for a default argument, or a name
abbrev pub entity_case : List ℕ → EntityCase
entity_case bytes =
    if begins (codes "Es") bytes then StringLiteralEntity else
    if begins (codes "Ed") bytes && (begins (codes "_") (drop 2 bytes) || begins_digit (drop 2 bytes))
    then DefaultArgumentEntity else
    if begins (codes "E") bytes then NameEntity else UnreadableEntity
