use Rattle.std.proofs.Common.{List, sym, subst}
use Rattle.cxx_tree.specs.Phrases.{call}
use Rattle.cxx_tree.specs.Stored.{stands}
use Rattle.cxx_tree.specs.Tree.{Tree}
use Rattle.cxx_grammar.specs.Rows.{make_behind, converted, typed_init_list}
use Rattle.cxx_reader.specs.declared.reader.Reader.{Reader}
use Rattle.cxx_reader.specs.Outcome.{state, Gives}
use Rattle.cxx_reader.proofs.Kept.{gives_made}
use Rattle.cxx_reader.proofs.Lists.{grows-then, pending-then}
use Rattle.cxx_reader.proofs.reader.Reader.typed_init_list_node.Goals as goal

pub returns-clause-reads : goal.returns-clause-reads
unfolding stands
returns-clause-reads c =
    let old = c.args.self.now in
    let mid = c.split_from.new.self in
    let split = c.in-Ok.ensures {u = tt} in
    let after : Reader = record { rest = mid.rest; arena = c.make_init_list.new.self; replaced = mid.replaced; invented = mid.invented; level = mid.level; alloc = mid.alloc } in
    subst (λ (ts : List Tree). Gives c.make_init_list.result after (make_behind typed_init_list ts (state old))) (sym split.split.1)
    (gives_made c.make_init_list.result after mid.arena _ (state old) c.make_init_list.ensures.makes (sym split.state))

pub returns-clause-grows : goal.returns-clause-grows
returns-clause-grows c =
    grows-then c.make_init_list.result c.args.self.now.arena c.split_from.new.self.arena c.make_init_list.new.self _ (c.in-Ok.ensures {u = tt}).grows c.make_init_list.ensures.makes

pub returns-clause-pending : goal.returns-clause-pending
returns-clause-pending c =
    pending-then c.make_init_list.result c.args.self.now.arena c.split_from.new.self.arena c.make_init_list.new.self c.args.from _ (c.in-Ok.ensures {u = tt}).pending c.make_init_list.ensures.makes
