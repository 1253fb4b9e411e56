-- Texts that are made of what is read.
use Rattle.std.specs.Prelude.{ℕ, List, ◌++◌, codes, bytes_eq, take, drop, if◌then◌else◌}

-- what is printed of a number: its `n` is a minus
abbrev pub number_printed : List ℕ → List ℕ
number_printed number = if bytes_eq (take 1 number) (codes "n") then codes "-" ++ drop 1 number else number
