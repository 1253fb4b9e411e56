-- Bytes that are ASCII.
use Rattle.std.specs.Prelude.{ℕ, ◌≤◌, ◌<◌, List, slice_index}

-- the bytes from one place up to another
abbrev pub AreAscii : List ℕ → ℕ → ℕ → Type 0
AreAscii bytes from to = (i : ℕ) → from ≤ i → i < to → slice_index bytes i < 128
