-- The cases of types (Itanium C++ ABI 5.1.5). Of several cases the first one that fits holds.
use Prim.Native.String.{String}
use Rattle.std.specs.Prelude.{ℕ, List, [], ◌∷◌, Bool, ◌&&◌, ◌||◌, nat_lt, length, drop, codes, if◌then◌else◌, Option, Some, None}
use Rattle.demangle_quals.specs.declared.quals.Quals.{Quals}
use Rattle.demangle_quals.specs.declared.quals.Pointer.TheVariants as Pointer
use Rattle.demangle_quals.specs.declared.quals.Reference.{Reference}
use Rattle.demangle_quals.specs.declared.quals.Reference.TheVariants.{Left, Right}
use Rattle.abi_scalars.specs.Bytes.{letter, is, begins, begins_one_of, past_letter}
use Rattle.itanium_syntax.specs.Cases.{TypeCase, BuiltinType, ExpansionType, VendorType, ArrayType, FunctionType}
use Rattle.itanium_syntax.specs.Cases.{PointerToMemberType, PointerType, CvType, ElaboratedType, TemplateParamType, SubstitutionType}
use Rattle.itanium_syntax.specs.Cases.{UnreadableType, NameType, CvCase, CvFunction, CvOther, FunctionCase, ExternFunction}
use Rattle.itanium_syntax.specs.Cases.{PlainFunction, ParamsCase, NoParams, SomeParams, TypeListCase, EndOfTypes, NextType}

-- each <builtin-type> of one letter, and what it prints
abbrev pub letter_texts : List (String × String)
letter_texts =
    ("v", "void") ∷ ("w", "wchar_t") ∷ ("b", "bool") ∷ ("c", "char") ∷ ("a", "signed char") ∷
    ("h", "unsigned char") ∷ ("s", "short") ∷ ("t", "unsigned short") ∷ ("i", "int") ∷ ("j", "unsigned int") ∷
    ("l", "long") ∷ ("m", "unsigned long") ∷ ("x", "long long") ∷ ("y", "unsigned long long") ∷ ("n", "__int128") ∷
    ("o", "unsigned __int128") ∷ ("f", "float") ∷ ("d", "double") ∷ ("e", "long double") ∷ ("g", "__float128") ∷
    ("z", "...") ∷ []

-- each <builtin-type> of D and a letter, by that letter, and what it prints
abbrev pub two_letter_texts : List (String × String)
two_letter_texts =
    ("s", "char16_t") ∷ ("i", "char32_t") ∷ ("u", "char8_t") ∷ ("n", "std::nullptr_t") ∷ ("a", "auto") ∷
    ("c", "decltype(auto)") ∷ ("h", "half") ∷ ("d", "decimal64") ∷ ("e", "decimal128") ∷ ("f", "decimal32") ∷ []

-- what a letter in a table prints: nothing for one that isn't there
abbrev pub text_in : List (String × String) → ℕ → List ℕ
text_in [] letter = []
text_in ((name, text) ∷ table) letter = if is name letter then codes text else text_in table letter

-- the text of a <builtin-type>
abbrev pub builtin_text : List ℕ → List ℕ
builtin_text [] = []
builtin_text (first ∷ []) = text_in letter_texts first
builtin_text (first ∷ second ∷ bytes) =
    if is "D" first then text_in two_letter_texts second else text_in letter_texts first

-- a <builtin-type> is next: a letter, or D and a letter, with a text
abbrev pub is_builtin : List ℕ → Bool
is_builtin bytes = nat_lt 0 (length (builtin_text bytes))

-- what is after a <builtin-type>
abbrev pub past_builtin : List ℕ → List ℕ
past_builtin bytes = if begins (codes "D") bytes then drop 2 bytes else drop 1 bytes

-- <type>
abbrev pub type_case : List ℕ → TypeCase
type_case bytes =
    if is_builtin bytes then BuiltinType else
    if begins (codes "Dp") bytes then ExpansionType else
    if begins (codes "u") bytes then VendorType else
    if begins (codes "A") bytes then ArrayType else
    if begins (codes "F") bytes then FunctionType else
    if begins (codes "M") bytes then PointerToMemberType else
    if begins (codes "P") bytes then PointerType Pointer.Star else
    if begins (codes "R") bytes then PointerType Pointer.Left else
    if begins (codes "O") bytes then PointerType Pointer.Right else
    if begins_one_of (codes "rVK") bytes then CvType else
    if begins (codes "T") bytes && begins_one_of (codes "sue") (drop 1 bytes) then ElaboratedType else
    if begins (codes "T") bytes then TemplateParamType else
    if begins (codes "St") bytes then NameType else
    if begins (codes "S") bytes then SubstitutionType else
    if begins (codes "U") bytes then UnreadableType else NameType

-- <CV-qualifiers> ::= [r] [V] [K]. A reference after them is read by `with_reference`
abbrev pub cv_quals : List ℕ → Quals
cv_quals bytes =
    let after_restrict = past_letter (letter "r") bytes in
    let after_volatile = past_letter (letter "V") after_restrict in
    record {
      constant = begins (codes "K") after_volatile;
      volatile = begins (codes "V") after_restrict;
      restrict = begins (codes "r") bytes;
      reference = None;
    }

-- what is after <CV-qualifiers>
abbrev pub past_cv : List ℕ → List ℕ
past_cv bytes = past_letter (letter "K") (past_letter (letter "V") (past_letter (letter "r") bytes))

-- <ref-qualifier> ::= R | O, where one stands in front
abbrev pub reference_of : List ℕ → Option Reference
reference_of bytes =
    if begins (codes "R") bytes then Some Left else
    if begins (codes "O") bytes then Some Right else None

-- the qualifiers with the reference that stands in front
abbrev pub with_reference : Quals → List ℕ → Quals
with_reference quals bytes = record quals { reference = reference_of bytes }

-- past the R or O
abbrev pub past_reference : List ℕ → List ℕ
past_reference bytes = if begins (codes "R") bytes || begins (codes "O") bytes then drop 1 bytes else bytes

-- what qualifiers stand in front of: a function type takes them in
abbrev pub cv_case : List ℕ → CvCase
cv_case bytes = if begins (codes "F") bytes then CvFunction else CvOther

-- <function-type>: FY isn't read
abbrev pub function_case : List ℕ → FunctionCase
function_case bytes = if begins (codes "FY") bytes then ExternFunction else PlainFunction

-- `v` right before the E stands for no parameters
abbrev pub params_case : List ℕ → ParamsCase
params_case bytes = if begins (codes "vE") bytes then NoParams else SomeParams

-- types go up to an E, those of a <function-type> also to a <ref-qualifier> in front of it
abbrev pub type_list_case : Bool → List ℕ → TypeListCase
type_list_case in_function_type bytes =
    if begins (codes "E") bytes then EndOfTypes else
    if in_function_type && (begins (codes "RE") bytes || begins (codes "OE") bytes) then EndOfTypes else NextType

-- the word in front of an elaborated type's name, and a space
abbrev pub elaborated_text : List ℕ → List ℕ
elaborated_text bytes =
    if begins (codes "Ts") bytes then codes "struct " else
    if begins (codes "Tu") bytes then codes "union " else codes "enum "
