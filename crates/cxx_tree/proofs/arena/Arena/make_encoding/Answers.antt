use Rattle.std.proofs.Common.{arith}
use Rattle.cxx_tree.specs.Stored.{size, IsBelow}
use Rattle.cxx_tree.proofs.Forest.{IsOptionBelow-more}
use Rattle.cxx_tree.proofs.Making.{listing-below}
use Rattle.cxx_tree.proofs.arena.Arena.make_encoding.Goals as goal

pub push-requires : goal.push-requires
unfolding IsBelow
push-requires c =
    let a = c.args.self.now in
    let b = c.clause_parts.new.self in
    let made = c.in_ok-parts.ensures in
    let both = listing-below a b c.args.params c.in_ok-parts.parts made.grows made.size c.requires.params made.below in
    record { below = (IsOptionBelow-more (size a) (size b) (omega (arith, made.size)) c.args.ret c.requires.ret, omega (arith, c.requires.n, made.size), both.0, both.1) }
