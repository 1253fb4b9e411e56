use Rattle.std.proofs.Common.{arith}
use Rattle.cxx_tree.specs.Stored.{IsBelow}
use Rattle.cxx_tree.proofs.Making.{listing-below}
use Rattle.cxx_tree.proofs.arena.Arena.make_function_type.Goals as goal

pub push-requires : goal.push-requires
unfolding IsBelow
push-requires c =
    let a = c.args.self.now in
    let b = c.exception_parts.new.self in
    let made = c.in_ok-parts.ensures in
    let both = listing-below a b c.args.params c.in_ok-parts.parts made.grows made.size c.requires.params made.below in
    record { below = (omega (arith, c.requires.ret, made.size), both.0, both.1) }
