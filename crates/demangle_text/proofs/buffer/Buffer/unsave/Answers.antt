use Rattle.std.proofs.Common.{◌≡◌, ◌-◌, ℕ, length, map, take, sym, ap, ◌∙◌}
use Rattle.std.proofs.lemmas.List.{take-map}
use Rattle.demangle_text.specs.Pieces.{Store}
use Rattle.demangle_text.specs.View.{store_of}
use Rattle.demangle_text.specs.State.{saved, shape}
use Rattle.demangle_text.proofs.buffer.Buffer.unsave.Goals as goal

pub returns-clause-saved : goal.returns-clause-saved
unfolding saved shape
returns-clause-saved c =
    let s = store_of c.self.inside in
    let n : c.saved_len-last.result - 1 ≡ length (map (shape s) s.saved_pieces) - 1 =
    ap (λ (k : ℕ). k - 1) (c.saved_len-last.ensures.value ∙ ap (λ (b : Store). length (saved b)) (sym c.self.view_is)) in
    rw (← c.self.view_is) (ap (map (shape s)) c.truncate.ensures.value ∙ sym (take-map (shape s) _ s.saved_pieces) ∙ ap (λ (k : ℕ). take k (map (shape s) s.saved_pieces)) n)
