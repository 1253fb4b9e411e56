use Rattle.demangle_edit.proofs.Members.{members}
use Rattle.std.proofs.Common.{arith}
use Rattle.std.proofs.lemmas.Grind.{elements}
use Rattle.demangle_edit.proofs.types.cut_declarator.Goals as goal

pub returns-clause-front : goal.returns-clause-front
returns-clause-front c = grind (arith, members)

pub returns-clause-after : goal.returns-clause-after
returns-clause-after c = grind (arith, members)

pub own_at-front-requires : goal.own_at-front-requires
own_at-front-requires c = grind (arith, elements)

pub own_at-after-requires : goal.own_at-after-requires
own_at-after-requires c = grind (arith, elements)
