use Rattle.std.proofs.Common.{ℕ, List, refl, subst, Option}
use Rattle.std.specs.Prelude.{option_map}
use Rattle.cxx_tree.specs.Phrases.{vendor_qualified}
use Rattle.cxx_tree.specs.Stored.{stands}
use Rattle.cxx_tree.specs.Tree.{Tree, Trees}
use Rattle.cxx_grammar.specs.Parses.{make}
use Rattle.cxx_grammar.specs.State.{State}
use Rattle.cxx_reader.specs.declared.reader.Reader.{Reader}
use Rattle.cxx_reader.specs.Outcome.{state, list_trees, Gives}
use Rattle.cxx_reader.proofs.Bound.{some-below, some-trees}
use Rattle.cxx_reader.proofs.Kept.{gives_made}
use Rattle.cxx_reader.proofs.reader.Reader.make_vendor_qualified.Goals as goal

pub make_vendor_qualified-requires-clause-args : goal.make_vendor_qualified-requires-clause-args
make_vendor_qualified-requires-clause-args c =
    some-below c.args.self.now.arena c.text.new.self.arena c.text.ensures.keeps.grows c.args.args c.requires.args

pub returns-clause-reads : goal.returns-clause-reads
unfolding stands list_trees
returns-clause-reads c =
    let r = c.text.new.self in
    let old = c.args.self.now in
    let after : Reader = record { rest = r.rest; arena = c.make_vendor_qualified.new.self; replaced = r.replaced; invented = r.invented; level = r.level; alloc = r.alloc } in
    let gives = Gives c.make_vendor_qualified.result after in
    let grows = c.text.ensures.keeps.grows in
    let made = gives_made c.make_vendor_qualified.result after _ _ _ c.make_vendor_qualified.ensures.makes refl in
    subst (λ (u : State). gives (make (vendor_qualified (stands old.arena c.args.t) c.args.qualifier.now (option_map (list_trees old.arena) c.args.args)) u)) c.text.ensures.state
    (subst (λ (o : Option Trees). gives (make (vendor_qualified (stands old.arena c.args.t) c.args.qualifier.now o) (state r))) (some-trees old.arena r.arena grows c.args.args c.requires.args)
    (subst (λ (t : Tree). gives (make (vendor_qualified t c.args.qualifier.now (option_map (list_trees r.arena) c.args.args)) (state r))) (grows.same c.args.t c.requires.t)
    (subst (λ (q : List ℕ). gives (make (vendor_qualified (stands r.arena c.args.t) q (option_map (list_trees r.arena) c.args.args)) (state r))) (c.in-Ok.ensures {u = tt}).text.1 made)))
