use Rattle.std.proofs.Common.{◌≡◌, refl, sym, subst}
use Rattle.cxx_tree.specs.declared.bind.Others.TheVariants.{Keep}
use Rattle.cxx_tree.specs.Tree.{Trees}
use Rattle.cxx_tree.specs.Stored.{stands}
use Rattle.cxx_grammar.specs.Binds.{bind_declared}
use Rattle.cxx_grammar.specs.Declarations.{make_template}
use Rattle.cxx_reader.specs.Outcome.{state, declared_at, list_trees, Gives}
use Rattle.cxx_reader.proofs.Bound.{list_below-keeps, list_trees-grow}
use Rattle.cxx_reader.proofs.reader.Reader.make_template.Goals as goal

pub bind_declared-requires-clause-declarations : goal.bind_declared-requires-clause-declarations
bind_declared-requires-clause-declarations c =
    list_below-keeps c.args.self.now.arena c.make_template_param.new.self.arena c.args.inside.declarations (c.in-Ok.ensures {u = tt}).keeps.grows c.requires.inside.0

pub returns-clause-reads : goal.returns-clause-reads
returns-clause-reads c =
    let old = c.args.self.now in
    let mid = c.make_template_param.new.self in
    let made = c.in-Ok.ensures {u = tt} in
    let t = stands mid.arena c.in-Ok.value in
    let ds = c.args.inside.declarations in
    let level = c.args.level in
    let gives = Gives c.bind_declared.result c.bind_declared.new.self in
    let is : make_template level (stands old.arena c.args.name) (declared_at old.arena c.args.inside) (state old) ≡ bind_declared level Keep (list_trees old.arena ds) t (state mid) = rw made.reads.1 refl in
    subst gives (sym is) (subst (λ (ts : Trees). gives (bind_declared level Keep ts t (state mid))) (list_trees-grow old.arena mid.arena made.keeps.grows ds c.requires.inside.0) c.bind_declared.ensures.reads)
