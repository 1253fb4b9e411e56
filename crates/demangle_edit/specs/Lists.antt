-- Texts that follow one another.
use Rattle.std.specs.Prelude.{ℕ, List, [], ◌∷◌, ◌++◌, map, codes}
use Rattle.std.specs.List.{concat}
use Rattle.demangle_text.specs.Shape.{Shape, text, plain_shape}
use Rattle.demangle_quals.specs.declared.quals.Quals.{Quals}
use Rattle.demangle_quals.specs.Quals.{quals_text}
use Rattle.std.specs.Prelude.{decimal, if◌then◌else◌, nat_eq}
use Rattle.std.specs.List.{ends_with}

-- the texts, with a comma and a space between them
abbrev pub listed : List (List ℕ) → List ℕ
listed [] = []
listed (t ∷ []) = t
listed (t ∷ next ∷ rest) = t ++ (codes ", " ++ listed (next ∷ rest))

-- the parameters and the qualifiers of a function
abbrev pub params_text : List Shape → Quals → List ℕ
params_text params quals = codes "(" ++ (listed (map text params) ++ (codes ")" ++ quals_text quals))

-- the texts with nothing between them, as a plain shape
abbrev pub glued : List (List ℕ) → Shape
glued texts = plain_shape (concat texts)

-- <arguments> without a name: a space stands before the last `>` if the text so far ends in `>`
abbrev pub arguments_shape : List Shape → Shape
arguments_shape args =
    let opened = codes "<" ++ listed (map text args) in
    plain_shape (opened ++ (if ends_with nat_eq opened (codes ">") then codes " >" else codes ">"))

-- a pack of arguments
abbrev pub pack_shape : List Shape → Shape
pack_shape args = plain_shape (listed (map text args))

-- a lambda
abbrev pub lambda_shape : List Shape → ℕ → Shape
lambda_shape params number =
    plain_shape (codes "{lambda(" ++ (listed (map text params) ++ (codes ")#" ++ (decimal number ++ codes "}"))))
