-- What begins at the first place that goes, goes with it.
use Rattle.std.proofs.Common.{◌≡◌, ◌≤◌, length, refl, sym, ap, ◌∙◌, arith}
use Rattle.std.proofs.lemmas.List.{get_or_default, take_all}
use Rattle.demangle_text.specs.Pieces.{Store}
use Rattle.demangle_text.specs.View.{store_of}
use Rattle.demangle_text.specs.State.{scopes}
use Rattle.demangle_text.proofs.Scopes.{scopes-kept, IsStore-kept, length-starts, start_within}
use Rattle.demangle_text.proofs.buffer.Buffer.keep_scopes.Goals as goal

pub index-start-requires : goal.index-start-requires
index-start-requires c =
    let s = store_of c.self.inside in
    let all : c.scopes.result ≡ length s.scope_starts = length-starts s _ _ c.self.view_is c.scopes.ensures.value in
    omega arith

pub truncate-requires : goal.truncate-requires
truncate-requires c =
    let s = store_of c.self.inside in
    let all : c.scopes.result ≡ length s.scope_starts = length-starts s _ _ c.self.view_is c.scopes.ensures.value in
    let from = c.index-start.result.now in
    let e = c.index-start.ensures ∙ get_or_default s.scope_starts c.args.n from 0 (omega arith) in
    record { within = omega (arith, e, start_within s.scope_starts (length s.arg_pieces) c.args.n c.self.invariant.starts_fit (omega arith)) }

pub invariant_of-self : goal.invariant_of-self
invariant_of-self c =
    let s = store_of c.self.inside in
    let all : c.scopes.result ≡ length s.scope_starts = length-starts s _ _ c.self.view_is c.scopes.ensures.value in
    let from = c.index-start.result.now in
    let e = c.index-start.ensures ∙ get_or_default s.scope_starts c.args.n from 0 (omega arith) in
    IsStore-kept s _ refl refl refl c.self.invariant c.args.n from (omega arith) e refl c.truncate.ensures.value c.truncate-then-n-scopes.ensures.items

pub returns-then-n-scopes-clause-scopes : goal.returns-then-n-scopes-clause-scopes
returns-then-n-scopes-clause-scopes c =
    let s = store_of c.self.inside in
    let all : c.scopes.result ≡ length s.scope_starts = length-starts s _ _ c.self.view_is c.scopes.ensures.value in
    let from = c.index-start.result.now in
    let e = c.index-start.ensures ∙ get_or_default s.scope_starts c.args.n from 0 (omega arith) in
    rw (← c.self.view_is) (scopes-kept s _ refl refl refl c.self.invariant c.args.n from (omega arith) e c.truncate.ensures.value c.truncate-then-n-scopes.ensures.items)

pub returns-else-n-scopes-clause-scopes : goal.returns-else-n-scopes-clause-scopes
returns-else-n-scopes-clause-scopes c =
    let s = store_of c.self.inside in
    let all : length (scopes s) ≤ c.args.n = omega (arith, ap (λ (b : Store). length (scopes b)) (sym c.self.view_is)) in
    rw (← c.self.view_is) (sym (take_all c.args.n (scopes s) all))
