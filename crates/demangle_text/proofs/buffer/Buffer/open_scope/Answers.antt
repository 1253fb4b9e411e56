-- A place at the end of the arguments.
use Rattle.std.proofs.Common.{◌≡◌, ℕ, [], ◌∷◌, ◌++◌, length, refl, ap, ◌∙◌, arith}
use Rattle.demangle_text.specs.View.{store_of}
use Rattle.demangle_text.proofs.Scopes.{scopes-open, IsStore-open}
use Rattle.demangle_text.proofs.buffer.Buffer.open_scope.Goals as goal

pub invariant_of-self-2 : goal.invariant_of-self-2
invariant_of-self-2 c =
    let s = store_of c.self.inside in
    let all : c.len-start.result ≡ length s.arg_pieces = omega arith in
    let e = c.in_ok-push.ensures.items ∙ ap (λ (n : ℕ). s.scope_starts ++ n ∷ []) all in
    IsStore-open s _ refl refl refl c.self.invariant refl refl e

pub returns-clause-scopes : goal.returns-clause-scopes
returns-clause-scopes c =
    let s = store_of c.self.inside in
    let all : c.len-start.result ≡ length s.arg_pieces = omega arith in
    let e = c.in_ok-push.ensures.items ∙ ap (λ (n : ℕ). s.scope_starts ++ n ∷ []) all in
    rw (← c.self.view_is) (scopes-open s _ refl refl refl refl e)
