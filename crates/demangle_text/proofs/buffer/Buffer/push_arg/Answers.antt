-- An argument after all others.
use Rattle.std.proofs.Common.{◌<◌, length, refl, sym, subst, ap, arith}
use Rattle.demangle_text.proofs.States.{internals}
use Rattle.demangle_text.specs.Pieces.{Store}
use Rattle.demangle_text.specs.View.{store_of}
use Rattle.demangle_text.specs.State.{IsLiving, scopes}
use Rattle.demangle_text.proofs.Scopes.{scopes-arg, IsStore-arg}
use Rattle.demangle_text.proofs.buffer.Buffer.push_arg.Goals as goal

pub invariant_of-self-2 : goal.invariant_of-self-2
invariant_of-self-2 c =
    let s = store_of c.self.inside in
    let lies = subst (λ (b : Store). IsLiving b c.args.piece) (sym c.self.view_is) c.requires.living in
    IsStore-arg s _ refl refl refl c.self.invariant c.args.piece lies refl c.in-Ok.ensures.ok refl

pub returns-clause-scopes : goal.returns-clause-scopes
returns-clause-scopes c =
    let s = store_of c.self.inside in
    let some : 0 < length (scopes s) = omega (arith, ap (λ (b : Store). length (scopes b)) c.self.view_is) in
    rw (← c.self.view_is) (scopes-arg s _ refl refl refl c.self.invariant c.args.piece c.in-Ok.ensures.ok refl some)

pub invariant_of-self : goal.invariant_of-self
invariant_of-self c = grind arith

pub returns-clause-kept : goal.returns-clause-kept
unfolding internals
returns-clause-kept c = grind arith
