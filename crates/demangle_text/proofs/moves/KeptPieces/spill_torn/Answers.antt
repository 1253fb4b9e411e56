use Rattle.std.proofs.Common.{refl, ◌∙◌}
use Rattle.demangle_text.proofs.States.{All-extends, shapes-extends, Extends-trans}
use Rattle.demangle_text.proofs.moves.KeptPieces.spill_torn.Goals as goal

pub returns-in-Err-clause-spilled : goal.returns-in-Err-clause-spilled
returns-in-Err-clause-spilled c =
    let e = c.spill_torn_of.ensures in
    record {
      spill = e.spill;
      saved_lie = e.lie;
      args_lie = All-extends c.args.output.now _ _ e.spill _ c.requires.args;
      saved_shapes = e.shapes;
      args_shapes = shapes-extends c.args.output.now _ _ e.spill _ c.requires.args;
      args_long = refl;
    }

pub spill_torn_of-requires-2 : goal.spill_torn_of-requires-2
spill_torn_of-requires-2 c = record { lie = All-extends c.args.output.now _ _ c.spill_torn_of.ensures.spill _ c.requires.args }

pub returns-clause-spilled : goal.returns-clause-spilled
returns-clause-spilled c =
    let e = c.spill_torn_of.ensures in
    let d = c.spill_torn_of-2.ensures in
    record {
      spill = Extends-trans _ _ _ e.spill d.spill;
      saved_lie = All-extends c.args.output.now _ _ d.spill _ e.lie;
      args_lie = d.lie;
      saved_shapes = shapes-extends c.args.output.now _ _ d.spill _ e.lie ∙ e.shapes;
      args_shapes = d.shapes ∙ shapes-extends c.args.output.now _ _ e.spill _ c.requires.args;
      args_long = d.long;
    }
