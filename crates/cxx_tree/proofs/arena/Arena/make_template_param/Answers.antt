use Rattle.std.proofs.Common.{arith}
use Rattle.cxx_tree.specs.Stored.{IsBelow, IsDeclarationBelow}
use Rattle.cxx_tree.proofs.Making.{listing-below}
use Rattle.cxx_tree.proofs.arena.Arena.make_template_param.Goals as goal

pub push-requires : goal.push-requires
unfolding IsBelow IsDeclarationBelow
push-requires c =
    let a = c.args.self.now in
    let b = c.constraint_parts.new.self in
    let made = c.in_ok-parts.ensures in
    let both = listing-below a b c.args.declarations c.in_ok-parts.parts made.grows made.size c.requires.declarations made.below in
    record { below = (omega (arith, c.requires.n, made.size), both.0, both.1) }
