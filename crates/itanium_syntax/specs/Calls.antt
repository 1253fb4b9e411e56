-- For the contracts of this crate alone: what its functions return that the grammar doesn't use.
use Prim.Native.String.{String}
use Rattle.std.specs.Prelude.{ℕ, List, [], ◌∷◌, Option, option_map}
use Rattle.itanium_syntax.specs.Cases.{TypeCase, CvType}
use Rattle.itanium_syntax.specs.Operators.{operator_in}

-- P, if the case is qualifiers
abbrev pub OnCv : TypeCase → Type 0 → Type 0
OnCv CvType P = P
OnCv other P = Unit {0}

-- each assignment of the table of operators, which is its end
abbrev pub assignments : List (String × String × ℕ)
assignments =
    ("aS", "=", 2) ∷ ("pL", "+=", 2) ∷ ("mI", "-=", 2) ∷ ("mL", "*=", 2) ∷ ("dV", "/=", 2) ∷ ("rM", "%=", 2) ∷
    ("aN", "&=", 2) ∷ ("oR", "|=", 2) ∷ ("eO", "^=", 2) ∷ ("lS", "<<=", 2) ∷ ("rS", ">>=", 2) ∷ []

-- what follows `operator` for a code that names an assignment
abbrev pub assignment_text : ℕ → ℕ → Option (List ℕ)
assignment_text first second = option_map (λ row. row.0) (operator_in assignments first second)
