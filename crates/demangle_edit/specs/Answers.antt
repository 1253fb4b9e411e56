-- Results of edits that may return no piece.
use Rattle.std.specs.Prelude.{◌≡◌, Result, Ok, Err, Option, Some, None}
use Rattle.std.specs.declared.alloc.AllocError.{AllocError}
use Rattle.demangle_text.specs.declared.pieces.Piece.{Piece}
use Rattle.demangle_text.specs.declared.buffer.Buffer.{Buffer}
use Rattle.demangle_text.specs.Shape.{Shape}
use Rattle.demangle_text.specs.State.{IsLiving, shape}

-- a call answers a piece of the shape, or none where there is no shape
abbrev pub Answers : Result (Option Piece) AllocError → Buffer → Option Shape → Type 0
Answers (Ok (Some p)) new found = IsLiving new p × (found ≡ Some (shape new p))
Answers (Ok None) new found = found ≡ None
Answers (Err e) new found = Unit {0}

-- a fact for the piece that a call answers
abbrev pub IfFound : Result (Option Piece) AllocError → (Piece → Type 0) → Type 0
IfFound (Ok (Some p)) P = P p
IfFound (Ok None) P = Unit {0}
IfFound (Err e) P = Unit {0}

-- a fact for the answer of no piece
abbrev pub OnNone : Result (Option Piece) AllocError → Type 0 → Type 0
OnNone (Ok (Some p)) P = Unit {0}
OnNone (Ok None) P = P
OnNone (Err e) P = Unit {0}
