-- What a call appends.
use Rattle.std.specs.Prelude.{ℕ, ◌≡◌, ◌++◌, List, Result, Ok, Err}
use Rattle.std.specs.declared.alloc.AllocError.{AllocError}

-- the call appends the text; nothing is said where memory was refused
abbrev pub Prints : Result (Unit {0}) AllocError → List ℕ → List ℕ → List ℕ → Type 0
Prints (Ok u) old new text = new ≡ old ++ text
Prints (Err e) old new text = Unit {0}
