-- The bytes fill a gap for them.
use Rattle.std.proofs.Common.{◌≡◌, ◌++◌, length, take, drop, refl, arith}
use Rattle.demangle_text.specs.View.{store_of}
use Rattle.demangle_text.specs.Gaps.{IsGap}
use Rattle.demangle_text.proofs.Gaps.{IsGap-same, IsStore-filled, IsEdit-filled, length-gap, one-put}
use Rattle.demangle_text.proofs.buffer.Buffer.insert_at.Goals as goal

pub put-requires : goal.put-requires
put-requires c =
    let b = c.args.self.now in
    let at = c.args.at in
    let k = length c.args.bytes.now in
    let g = IsGap-same b _ (store_of c.self.inside) at k c.self.view_is c.in-Ok.ensures.gap in
    let n = length-gap b.output_text c.self.inside.output at k c.requires.within g.gap in
    record { within = omega (arith, n, c.requires.within) }

gap : (c : goal.After-put) → IsGap c.args.self.now (store_of c.self.inside) c.args.at (length c.args.bytes.now)
gap c =
    IsGap-same c.args.self.now _ (store_of c.self.inside) c.args.at (length c.args.bytes.now) c.self.view_is
    c.in-Ok.ensures.gap

output : (c : goal.After-put) → c.put.new.self
    ≡ take c.args.at c.args.self.now.output_text ++ (c.args.bytes.now ++ drop c.args.at c.args.self.now.output_text)
output c =
    one-put c.args.self.now.output_text c.self.inside.output c.args.bytes.now c.put.new.self c.args.at c.requires.within
    (gap c).gap c.put.ensures.value

pub invariant_of-self : goal.invariant_of-self
invariant_of-self c =
    IsStore-filled c.args.self.now (store_of c.self.inside) c.args.at (length c.args.bytes.now) (gap c) _ _ refl (output c)

pub returns-clause-edit : goal.returns-clause-edit
returns-clause-edit c =
    IsEdit-filled c.args.self.now (store_of c.self.inside) c.args.at (length c.args.bytes.now) (gap c) _ _ refl (output c)

pub returns-clause-output : goal.returns-clause-output
returns-clause-output c = output c
