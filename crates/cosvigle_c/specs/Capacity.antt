-- What a call does with the memory that its caller gives for a text.
use Rattle.std.specs.Prelude.{◌≡◌, ℕ, ◌<◌, ◌≤◌, List, ◌++◌, length, drop}

-- the text stands at the front of that memory, what was after it stays, and its length is reported
pub record Fills (text old new : List ℕ) (needed : ℕ) : Type 0 where
  pub fits : length text ≤ length old
  pub written : new ≡ text ++ drop (length text) old
  pub reported : needed ≡ length text

-- the memory is too short for the text: it stays as it was, and the text's length is reported
pub record IsShort (text old new : List ℕ) (needed : ℕ) : Type 0 where
  pub short : length old < length text
  pub stays : new ≡ old
  pub reported : needed ≡ length text
