use Rattle.std.proofs.Common.{ℕ, List, subst}
use Rattle.std.specs.Prelude.{option_map}
use Rattle.cxx_tree.specs.Phrases.{closure}
use Rattle.cxx_tree.specs.Stored.{stands, text_at}
use Rattle.cxx_grammar.specs.Ordinals.{ordinal_of}
use Rattle.cxx_grammar.specs.Parses.{make}
use Rattle.cxx_grammar.specs.State.{State}
use Rattle.cxx_grammar.specs.Unnamed.{Lambda, closure_tree}
use Rattle.cxx_reader.specs.Outcome.{state, list_trees, signature_at, Gives}
use Rattle.cxx_reader.proofs.Binders.{signature-below, signature-grows}
use Rattle.cxx_reader.proofs.Kept.{Keeps-after}
use Rattle.cxx_reader.proofs.reader.Reader.make_counted.Goals as goal

pub make_closure-requires-clause-signature : goal.make_closure-requires-clause-signature
make_closure-requires-clause-signature c =
    signature-below c.args.self.now.arena c.make_count.new.self.arena c.make_count.ensures.keeps.grows c.args.signature c.requires.signature

pub returns-clause-reads : goal.returns-clause-reads
returns-clause-reads c =
    let a = c.args.self.now.arena in
    let m = c.make_count.new.self in
    let b = m.arena in
    let l = c.args.signature in
    let count = c.in-Ok.value in
    let copied = (c.in-Ok.ensures {u = tt}).count.1 in
    let gives = Gives c.make_closure.result c.make_closure.new.self in
    let digits = c.args.digits.now in
    subst (λ (s : State). gives (make (closure_tree (signature_at a l) digits) s)) c.make_count.ensures.state
    (subst (λ (k : Lambda). gives (make (closure_tree k digits) (state m))) (signature-grows a b c.make_count.ensures.keeps.grows l c.requires.signature)
    (subst (λ (w : List ℕ). gives (make (closure (list_trees b l.declarations) (option_map (stands b) l.before) (list_trees b l.params) (option_map (stands b) l.behind) w (ordinal_of digits)) (state m))) copied.0
    (subst (λ (w : List ℕ). gives (make (closure (list_trees b l.declarations) (option_map (stands b) l.before) (list_trees b l.params) (option_map (stands b) l.behind) (text_at b.held count.text) w) (state m))) copied.1
    c.make_closure.ensures.reads)))

pub returns-clause-keeps : goal.returns-clause-keeps
returns-clause-keeps c =
    Keeps-after c.make_closure.result c.args.self.now c.make_count.new.self c.make_closure.new.self c.make_count.ensures.keeps c.make_closure.ensures.keeps
