-- The last scope begins at the last place.
use Rattle.std.proofs.Common.{◌≡◌, ◌-◌, ◌<◌, ℕ, List, Some, length, drop, option_map, slice_get, refl, sym, ap, ◌∙◌, subst, arith}
use Rattle.demangle_text.proofs.States.{internals}
use Rattle.std.proofs.lemmas.Grind.{common_steps}
use Rattle.std.proofs.lemmas.List.{length-drop}
use Rattle.std.proofs.lemmas.Option.{slice_get_past, get_or_from_slice_get, slice_get_within}
use Rattle.demangle_text.specs.State.{shape}
use Rattle.demangle_text.specs.View.{store_of}
use Rattle.demangle_text.proofs.Scopes.{slice_get_from, arg_within, arg_found, arg_lives}
use Rattle.demangle_text.proofs.buffer.Buffer.arg.Goals as goal

pub overflow_sub-len : goal.overflow_sub-len
overflow_sub-len c =
    let s = store_of c.self.inside in
    let from = c.in_ok-start.field-0.now in
    let last : slice_get s.scope_starts (length s.scope_starts - 1) ≡ Some from =
    subst (λ (xs : List ℕ). slice_get xs (length xs - 1) ≡ Some from) c.deref.ensures.value (sym c.in_ok-start.ensures.value) in
    let some : 0 < length s.scope_starts = omega (arith, slice_get_within s.scope_starts (length s.scope_starts - 1) from last) in
    let e = sym (get_or_from_slice_get s.scope_starts (length s.scope_starts - 1) from 0 last) in
    omega (arith, arg_within s c.args.i (length s.scope_starts) from refl some e c.self.invariant, c.len.ensures.value)

pub returns-then-i-len-clause-shape : goal.returns-then-i-len-clause-shape
returns-then-i-len-clause-shape c =
    let s = store_of c.self.inside in
    let from = c.in_ok-start.field-0.now in
    let last : slice_get s.scope_starts (length s.scope_starts - 1) ≡ Some from =
    subst (λ (xs : List ℕ). slice_get xs (length xs - 1) ≡ Some from) c.deref.ensures.value (sym c.in_ok-start.ensures.value) in
    let some : 0 < length s.scope_starts = omega (arith, slice_get_within s.scope_starts (length s.scope_starts - 1) from last) in
    let e = sym (get_or_from_slice_get s.scope_starts (length s.scope_starts - 1) from 0 last) in
    let found = c.get.ensures.value ∙ sym (slice_get_from from c.args.i s.arg_pieces) in
    rw (← c.self.view_is, found) (arg_found s c.args.i (length s.scope_starts) from refl some e)

pub returns-then-i-len-clause-living : goal.returns-then-i-len-clause-living
returns-then-i-len-clause-living c =
    let s = store_of c.self.inside in
    let from = c.in_ok-start.field-0.now in
    let last : slice_get s.scope_starts (length s.scope_starts - 1) ≡ Some from =
    subst (λ (xs : List ℕ). slice_get xs (length xs - 1) ≡ Some from) c.deref.ensures.value (sym c.in_ok-start.ensures.value) in
    let some : 0 < length s.scope_starts = omega (arith, slice_get_within s.scope_starts (length s.scope_starts - 1) from last) in
    let e = sym (get_or_from_slice_get s.scope_starts (length s.scope_starts - 1) from 0 last) in
    let found = c.get.ensures.value ∙ sym (slice_get_from from c.args.i s.arg_pieces) in
    rw (← c.self.view_is, found) (arg_lives s c.args.i (length s.scope_starts) from refl some e c.self.invariant)

pub returns-else-i-len-clause-shape : goal.returns-else-i-len-clause-shape
returns-else-i-len-clause-shape c =
    let s = store_of c.self.inside in
    let from = c.in_ok-start.field-0.now in
    let last : slice_get s.scope_starts (length s.scope_starts - 1) ≡ Some from =
    subst (λ (xs : List ℕ). slice_get xs (length xs - 1) ≡ Some from) c.deref.ensures.value (sym c.in_ok-start.ensures.value) in
    let some : 0 < length s.scope_starts = omega (arith, slice_get_within s.scope_starts (length s.scope_starts - 1) from last) in
    let e = sym (get_or_from_slice_get s.scope_starts (length s.scope_starts - 1) from 0 last) in
    let none = slice_get_past (drop from s.arg_pieces) c.args.i (omega (arith, c.len.ensures.value, length-drop from s.arg_pieces)) in
    rw (← c.self.view_is) (ap (option_map (shape s)) (sym none) ∙ arg_found s c.args.i (length s.scope_starts) from refl some e)

pub returns-in_err-start : goal.returns-in_err-start
unfolding internals
returns-in_err-start c = grind (arith, common_steps)
