use Rattle.demangle_text.proofs.Laws.{JoinsInPlace-named}
use Rattle.demangle_edit.proofs.names.attach_template_args.Goals as goal

-- two pieces that stand one after the other stay there
pub returns-clause-in_place : goal.returns-clause-in_place
returns-clause-in_place c =
    JoinsInPlace-named _ _ _ _ _ c.with_flags.result c.in-Ok.ensures.in_place c.with_flags.ensures.stands
