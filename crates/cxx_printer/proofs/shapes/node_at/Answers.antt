use Rattle.std.proofs.Common.{[], sym, ap, arith}
use Rattle.std.proofs.lemmas.List.{append-nil}
use Rattle.cxx_tree.proofs.Forest.{IsBelow-more}
use Rattle.cxx_tree.specs.Stored.{size, Extends}
use Rattle.cxx_printer.specs.Asked.{height}
use Rattle.cxx_printer.proofs.shapes.node_at.Goals as goal

pub returns : goal.returns
returns c =
    let h = c.args.arena.now.held in
    let same : Extends h h = (([], sym (append-nil h.lists)), ([], sym (append-nil h.parts)), ([], sym (append-nil h.texts))) in
    record {
      tree = c.node.ensures.tree;
      height = ap height c.node.ensures.tree;
      within = IsBelow-more h h same c.args.i (size c.args.arena.now) (omega (arith, c.requires)) c.node.result.now c.node.ensures.below;
    }
