-- What is written of bytes, call by call.
use Rattle.std.proofs.Common.{◌≡◌, ℕ, List, ◌++◌, Option, take, drop, sym, ap, ◌∙◌, append_assoc}
use Rattle.std.proofs.lemmas.List.{take-append-drop}
use Rattle.std.proofs.KnownBytes.{Appends-trans}
use Rattle.std.specs.Io.KnownBytes.{Appends}
use Rattle.text_filter.specs.Progress.{WritesBytesUpTo}

-- a front of the rest was written too
pub more_written : (bytes rest left : List ℕ) (count : ℕ) (before mid after : Option (List ℕ))
    → WritesBytesUpTo bytes rest before mid → left ≡ drop count rest → Appends mid after (take count rest)
    → WritesBytesUpTo bytes left before after
more_written bytes rest left count before mid after so_far left_is more =
    record {
      front = so_far.front ++ take count rest;
      bytes_are = so_far.bytes_are ∙ ap (λ l. so_far.front ++ l) (sym (take-append-drop count rest))
          ∙ sym (append_assoc so_far.front (take count rest) (drop count rest)) ∙ ap
          (λ l. (so_far.front ++ take count rest) ++ l) (sym left_is);
      written = Appends-trans before mid after so_far.front (take count rest) so_far.written more;
    }
