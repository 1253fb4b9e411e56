use Rattle.std.proofs.Common.{ℕ, ◌≡◌, refl, sym, subst, Some}
use Rattle.cxx_tree.specs.declared.bind.Others.TheVariants.{Auto}
use Rattle.cxx_tree.specs.Kept.{KeepsNodes}
use Rattle.cxx_tree.specs.Tree.{Trees}
use Rattle.cxx_tree.specs.Stored.{Store, stands}
use Rattle.cxx_grammar.specs.Parses.{make}
use Rattle.cxx_grammar.specs.Binds.{bind_declared}
use Rattle.cxx_grammar.specs.Unnamed.{closure_tree, parse_closure_end}
use Rattle.cxx_reader.specs.Outcome.{state, list_trees, signature_at, Gives}
use Rattle.cxx_reader.proofs.Bound.{list_below-keeps, list_trees-grow}
use Rattle.cxx_reader.proofs.reader.Reader.read_closure_end.Goals as goal

pub bind_declared-requires-clause-declarations : goal.bind_declared-requires-clause-declarations
bind_declared-requires-clause-declarations c =
    let b = c.make_counted.new.self.arena in
    list_below-keeps c.args.self.now.arena b c.args.signature.declarations (subst (λ (x : Store). KeepsNodes x b) c.read_count.ensures.arena (c.in-Ok-make_counted.ensures {u = tt}).keeps.grows) c.requires.signature.0.0

pub returns-clause-reads : goal.returns-clause-reads
returns-clause-reads c =
    let old = c.args.self.now in
    let m = c.read_count.new.self in
    let b = c.make_counted.new.self in
    let l = c.args.signature in
    let level = c.args.level in
    let digits = c.in-Ok.value.now in
    let t = stands b.arena c.in-Ok-make_counted.value in
    let made = c.in-Ok-make_counted.ensures {u = tt} in
    let gives = Gives c.bind_declared.result c.bind_declared.new.self in
    let same = c.read_count.ensures.arena in
    let parsed : make (closure_tree (signature_at old.arena l) digits) (state m) ≡ Some (t, state b) =
    subst (λ (x : Store). make (closure_tree (signature_at x l) digits) (state m) ≡ Some (t, state b)) same made.reads.1 in
    let grows = subst (λ (x : Store). KeepsNodes x b.arena) same made.keeps.grows in
    let is : parse_closure_end level (signature_at old.arena l) (state old) ≡ bind_declared level Auto (list_trees old.arena l.declarations) t (state b) = rw ((c.in-Ok.ensures {u = tt}).reads, parsed) refl in
    subst gives (sym is) (subst (λ (ts : Trees). gives (bind_declared level Auto ts t (state b))) (list_trees-grow old.arena b.arena grows l.declarations c.requires.signature.0.0) c.bind_declared.ensures.reads)
