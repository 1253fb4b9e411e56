-- A gap in a text that grows.
use Rattle.std.specs.Prelude.{◌≡◌, ℕ, List, ◌++◌, length}

-- the text is two others with n bytes between them
pub record HasGap (front back all : List ℕ) (n : ℕ) : Type 0 where
  pub gap : List ℕ
  pub long : length gap ≡ n
  pub parts : all ≡ front ++ (gap ++ back)
