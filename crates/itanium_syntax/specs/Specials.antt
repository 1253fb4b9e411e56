-- The cases of special names. Of several cases the first one that fits holds.
use Rattle.std.specs.Prelude.{ℕ, List, [], Bool, ◌&&◌, ◌||◌, drop, codes, if◌then◌else◌}
use Rattle.abi_scalars.specs.Bytes.{begins, begins_one_of}
use Rattle.itanium_syntax.specs.Cases.{SpecialCase, TypeSpecial, NameSpecial, TemporarySpecial, ConstructionSpecial, ThunkSpecial, UnreadableSpecial}

-- T and one of these letters
abbrev pub begins_t_and : List ℕ → List ℕ → Bool
begins_t_and letters bytes = begins (codes "T") bytes && begins_one_of letters (drop 1 bytes)

-- <special-name>
abbrev pub special_case : List ℕ → SpecialCase
special_case bytes =
    if begins_t_and (codes "VTISF") bytes then TypeSpecial else
    if begins_t_and (codes "HW") bytes || begins (codes "GV") bytes then NameSpecial else
    if begins (codes "GR") bytes then TemporarySpecial else
    if begins (codes "TC") bytes then ConstructionSpecial else
    if begins_t_and (codes "hvc") bytes then ThunkSpecial else UnreadableSpecial

-- the words in front of the type or name of a `TypeSpecial` or `NameSpecial`
abbrev pub special_text : List ℕ → List ℕ
special_text bytes =
    if begins (codes "TV") bytes then codes "{vtable(" else
    if begins (codes "TT") bytes then codes "{vtt(" else
    if begins (codes "TI") bytes then codes "typeinfo for " else
    if begins (codes "TS") bytes then codes "typeinfo name for " else
    if begins (codes "TF") bytes then codes "typeinfo fn for " else
    if begins (codes "TH") bytes then codes "TLS init function for " else
    if begins (codes "TW") bytes then codes "TLS wrapper function for " else codes "guard variable for "

-- what closes it after its type or name
abbrev pub special_close : List ℕ → List ℕ
special_close bytes = if begins_t_and (codes "VT") bytes then codes ")}" else []
