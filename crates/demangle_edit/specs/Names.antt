-- The shapes of names.
use Rattle.std.specs.Prelude.{ℕ, List, [], ◌++◌, length, codes, decimal, Bool, true, false, if◌then◌else◌, nat_eq}
use Rattle.std.specs.List.{ends_with}
use Rattle.demangle_text.specs.declared.pieces.Place.TheVariants.{Start}
use Rattle.demangle_text.specs.Shape.{Shape, Plain, text, flattened, inserted, appended, own_shape, flagged}
use Rattle.demangle_quals.specs.declared.quals.Quals.{Quals}
use Rattle.demangle_quals.specs.Quals.{words_text, reference_text, has_quals}
use Rattle.demangle_edit.specs.Lists.{params_text}

-- the leaf as a plain text, with its parent and `::` in front: base name and flags are the leaf's
abbrev pub qualified : Shape → Shape → Shape
qualified parent leaf = inserted Start (text parent ++ codes "::") (flattened leaf)

-- the entity of a default argument as a plain text, with its parent and `::{default arg#k}::` in front
abbrev pub default_arg_shape : Shape → ℕ → Shape → Shape
default_arg_shape parent number entity =
    inserted Start (text parent ++ (codes "::{default arg#" ++ (decimal number ++ codes "}::"))) (flattened entity)

-- the constructor of a parent, or its destructor: the base name is all after the `::`
abbrev pub qualified_ctor : Shape → Bool → Shape
qualified_ctor parent destructor =
    let before = text parent ++ codes "::" in
    let name = (if destructor then codes "~" else []) ++ text (own_shape parent) in
    record { form = Plain (before ++ name); own = (length before, length (before ++ name)); templ = false; ctor = true }

-- a space after a text that ends in `<`
abbrev pub angle_gap : List ℕ → List ℕ
angle_gap t = if ends_with nat_eq t (codes "<") then codes " " else []

-- the name as a plain text, with a list of template arguments after it
abbrev pub attached : Shape → Shape → Shape
attached name list =
    flagged true name.ctor (appended (angle_gap (text name) ++ text list) (flattened name))

-- the name of a function as a plain text, with parameters and qualifiers after it
abbrev pub encoding_shape : Shape → List Shape → Quals → Shape
encoding_shape name params quals = flagged false name.ctor (appended (params_text params quals) (flattened name))

-- the name as a plain text, with an ABI tag after it
abbrev pub tagged : Shape → List ℕ → Shape
tagged name tag = appended (codes "[abi:" ++ (tag ++ codes "]")) (flattened name)

-- the name as a plain text with its qualifiers after it, the words only where they are shown; without
-- qualifiers the name itself
abbrev pub with_name_qualifiers : Shape → Quals → Bool → Shape
with_name_qualifiers name quals shown =
    if has_quals quals
    then appended ((if shown then words_text quals else []) ++ reference_text quals.reference) (flattened name)
    else name
