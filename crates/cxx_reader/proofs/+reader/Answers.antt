use Rattle.std.proofs.Common.{ℕ, ◌≡◌, ◌≤◌, List, [], ◌∷◌, ◌++◌, drop, take, ◌∙◌, length, sym, ap, subst, arith, rules, refl, Some, None, Ok, Err, true, false, Bool}
use Rattle.std.specs.List.{AllByRecursion}
use Rattle.cxx_tree.specs.Tree.{Tree, Trees}
use Rattle.cxx_tree.specs.Kept.{KeepsNodes, IsNode}
use Rattle.cxx_tree.specs.Stored.{Store, stands, trees_from_list}
use Rattle.cxx_tree.proofs.Grown.{nodes-taken, nodes-trans, saved-taken}
use Rattle.cxx_grammar.specs.State.{State, LearnedName}
use Rattle.cxx_grammar.specs.Binds.{bind_encoding}
use Rattle.cxx_grammar.specs.Encodings.{first_param, has_return, make_function, parse_function, parse_named_encoding, parse_return}
use Rattle.cxx_grammar.specs.declared.rows.End.TheVariants as end
use Rattle.cxx_grammar.specs.declared.rows.Item.{Item}
use Rattle.cxx_grammar.specs.declared.rows.Item.TheVariants as item
use Rattle.cxx_grammar.specs.Parses.{◌>>=◌, skip, make, item_more}
use Rattle.cxx_grammar.specs.Rows.{ends, tree_as, parse_items, list_after, rest_after, parse_some_params, parse_params}
use Rattle.cxx_grammar.specs.Names.{parse_components}
use Rattle.cxx_grammar.specs.Expressions.{new_len, parse_new, parse_requires, parse_subobject, parse_to_underscore}
use Rattle.cxx_tree.specs.Texts.{number_printed}
use Rattle.cxx_grammar.specs.Symbol.{productions}
use Rattle.cxx_reader.specs.declared.reader.Reader.{Reader}
use Rattle.cxx_reader.specs.Rows.{row_at}
use Rattle.cxx_reader.specs.Outcome.{invented_at, state, trees_behind, IsNamed, IsSignature, IsDeclared, named_at, place_at, signature_at, declared_at, list_trees, Gives, GivesNamed, GivesFrom, KeepsFront}
use Rattle.cxx_reader.proofs.Kept.{gives_made, named_stays, Keeps-trans, Keeps-arena, Moves-of, Moves-skip, Moves-front, Moves-trans, Moves-after}
use Rattle.cxx_reader.proofs.Turns.{steps_more, steps_end, row_more, row_end}
use Rattle.cxx_reader.proofs.Lists.{function_keeps, begins_some, Moves-then, KeepsFront-arena, rest_end, rest_stop, place_stop, place_gives, scopes_stop, scopes_end, Pushed, none-yet, none-below, one-more, close_gives, close_moves, pushed, KeepsFront-trans, collected, item_stop, items_stop, next_item, no_item, row_none, row_read, row_stop, list_stop, listed_gives, list_moves, list_keeps, components_stop, components_end}
use Rattle.cxx_reader.proofs.Binders.{behind-grows, declarations_stop, declarations_end, node-below, node-grows}
use Rattle.cxx_reader.proofs.Bound.{some-below, some-stands, some-trees, list_below-keeps, list_trees-grow}
use Rattle.cxx_reader.proofs.Sources.{source_named}
use Rattle.cxx_grammar.specs.Types.{parse_other_qualified}
use Rattle.cxx_tree.specs.Phrases.{new_expression, prefixed, requirement, requires_expression, subobject, vendor_qualified}
use Rattle.cxx_tree.specs.declared.kinds.Prec.TheVariants.{Primary}
use Rattle.cxx_grammar.specs.Unnamed.{parse_lambda_params, parse_lambda_sig}
use Rattle.cxx_grammar.specs.Declarations.{declarations_after, parse_some_declared}
use Rattle.cxx_grammar.specs.Requirements.{parse_nested_requirement}
use Rattle.std.specs.Prelude.{Bool, Option, option_map, codes}
use Rattle.cxx_reader.proofs.+reader.Goals as goal

pub rows::collect-returns-in-Err-clause-reads : goal.rows::collect-returns-in-Err-clause-reads
rows::collect-returns-in-Err-clause-reads t c =
    item_stop c.in-Err.error c.args.from c.read_tree.new.reader (tree_as (productions c.args.depth) c.args.item) (trees_behind c.args.from c.args.reader.now.arena) (state c.args.reader.now) (c.in-Err.ensures {u = tt}).reads

pub rows::collect-returns-clause-reads : goal.rows::collect-returns-clause-reads
rows::collect-returns-clause-reads t c =
    let mid = c.read_tree.new.reader in
    let read = c.in-Ok.ensures {u = tt} in
    let after : Reader = record { rest = mid.rest; arena = c.add.new.self; replaced = mid.replaced; invented = mid.invented; level = mid.level; alloc = mid.alloc } in
    collected c.add.result c.args.reader.now mid after c.in-Ok.value c.args.from (tree_as (productions c.args.depth) c.args.item) c.add.ensures.memory read.moves.keeps c.add.ensures.same c.add.ensures.saved c.add.ensures.pending refl refl refl refl read.reads
    c.requires.within c.requires.nodes

pub rows::read_items-returns-in-Err-clause-reads : goal.rows::read_items-returns-in-Err-clause-reads
rows::read_items-returns-in-Err-clause-reads t c =
    items_stop c.in-Err.error c.args.from c.collect.new.reader c.loop-item.invariant.reads (search rules) (c.in-Err.ensures {u = tt}).reads

pub rows::read_items-loop-item-preserved : goal.rows::read_items-loop-item-preserved
rows::read_items-loop-item-preserved t c =
    let so_far = c.loop-item.invariant in
    let read = c.in-Ok.ensures {u = tt} in
    record {
      reads = steps_more so_far.reads (search rules) read.reads.1 read.takes;
      below = read.reads.0;
      keeps = KeepsFront-trans c.args.from c.args.reader.now c.loop-item.reader c.collect.new.reader so_far.keeps read.keeps;
    }

pub rows::read_items-returns-clause-reads : goal.rows::read_items-returns-clause-reads
rows::read_items-returns-clause-reads t c =
    let so_far = c.loop-item.invariant in (so_far.below, steps_end so_far.reads (search rules))

pub rows::read_row_items-returns-in-Err-clause-reads : goal.rows::read_row_items-returns-in-Err-clause-reads
rows::read_row_items-returns-in-Err-clause-reads t c =
    row_stop c.in-Err.error c.args.from c.read_item.new.reader (next_item c.args.items.now _ c.loop-item.item-index c.loop-item-test.true c.loop-item.invariant.reads) (c.in-Err.ensures {u = tt}).reads

pub rows::read_row_items-loop-item-preserved : goal.rows::read_row_items-loop-item-preserved
rows::read_row_items-loop-item-preserved t c =
    let so_far = c.loop-item.invariant in
    let read = c.in-Ok.ensures {u = tt} in
    record {
      reads = row_more (next_item c.args.items.now _ c.loop-item.item-index c.loop-item-test.true so_far.reads) read.reads.1;
      below = read.reads.0;
      keeps = KeepsFront-trans c.args.from c.args.reader.now c.loop-item.reader c.read_item.new.reader so_far.keeps read.keeps;
    }

pub rows::read_row_items-returns-clause-reads : goal.rows::read_row_items-returns-clause-reads
rows::read_row_items-returns-clause-reads t c =
    let so_far = c.loop-item.invariant in (so_far.below, row_end (no_item c.args.items.now c.loop-item.item-index (omega (arith, c.loop-item-test.false)) so_far.reads))

pub rows::read_row-returns-in-Err-clause-reads : goal.rows::read_row-returns-in-Err-clause-reads
rows::read_row-returns-in-Err-clause-reads t c =
    let p = productions c.args.depth in
    let row = row_at c.args.row in
    let after = c.read_row_items.new.reader in
    let from = c.pending_len-from.result in
    row_none c.in-Err.error from after p row (state c.args.reader.now)
    (subst (λ (u : State). GivesFrom (Err c.in-Err.error) from after (parse_items p [] row.items u)) c.skip.ensures.state
    (subst (λ (ts : List Tree). GivesFrom (Err c.in-Err.error) from after (parse_items p ts row.items (state c.skip.new.self)))
    (none-yet c.skip.new.self.arena from c.pending_len-from.ensures.value) (c.in-Err.ensures {u = tt}).reads))

pub rows::read_row-returns-clause-reads : goal.rows::read_row-returns-clause-reads
rows::read_row-returns-clause-reads t c =
    let p = productions c.args.depth in
    let row = row_at c.args.row in
    let mid = c.read_row_items.new.reader in
    let from = c.pending_len-from.result in
    let parsed : parse_items p [] row.items (skip row.skip (state c.args.reader.now)) ≡ Some (trees_behind from mid.arena, state mid) =
    subst (λ (u : State). parse_items p [] row.items u ≡ Some (trees_behind from mid.arena, state mid)) c.skip.ensures.state
    (subst (λ (ts : List Tree). parse_items p ts row.items (state c.skip.new.self) ≡ Some (trees_behind from mid.arena, state mid))
    (none-yet c.skip.new.self.arena from c.pending_len-from.ensures.value) (c.in-Ok.ensures {u = tt}).reads.1) in
    subst (Gives c.make_row.result c.make_row.new.self) (sym (row_read p row (state c.args.reader.now) (state mid) (trees_behind from mid.arena) parsed)) c.make_row.ensures.reads

pub rows::read_list-returns-in-Err-clause-reads : goal.rows::read_list-returns-in-Err-clause-reads
rows::read_list-returns-in-Err-clause-reads t c =
    let p = productions c.args.depth in
    let after = c.read_items.new.reader in
    let from = c.pending_len-from.result in
    list_stop c.in-Err.error from after p c.args.n c.args.item (state c.args.reader.now)
    (subst (λ (u : State). GivesFrom (Err c.in-Err.error) from after (list_after p c.args.item end.E [] u)) c.skip.ensures.state
    (subst (λ (ts : List Tree). GivesFrom (Err c.in-Err.error) from after (list_after p c.args.item end.E ts (state c.skip.new.self)))
    (none-yet c.skip.new.self.arena from c.pending_len-from.ensures.value) (c.in-Err.ensures {u = tt}).reads))

pub rows::read_list-returns-clause-reads : goal.rows::read_list-returns-clause-reads
unfolding ends
rows::read_list-returns-clause-reads t c =
    let p = productions c.args.depth in
    let mid = c.read_items.new.reader in
    let r = c.skip-2.new.self in
    let read = c.in-Ok.ensures {u = tt} in
    let from = c.pending_len-from.result in
    let back = sym c.skip-2.ensures.arena in
    let after : Reader = record { rest = r.rest; arena = c.list_from.new.self; replaced = r.replaced; invented = r.invented; level = r.level; alloc = r.alloc } in
    let parsed : list_after p c.args.item end.E [] (skip c.args.n (state c.args.reader.now)) ≡ Some (trees_behind from r.arena, state mid) =
    subst (λ (u : State). list_after p c.args.item end.E [] u ≡ Some (trees_behind from r.arena, state mid)) c.skip.ensures.state
    (subst (λ (ts : List Tree). list_after p c.args.item end.E ts (state c.skip.new.self) ≡ Some (trees_behind from r.arena, state mid)) (none-yet c.skip.new.self.arena from c.pending_len-from.ensures.value)
    (subst (λ (x : Store). list_after p c.args.item end.E (trees_behind from c.skip.new.self.arena) (state c.skip.new.self) ≡ Some (trees_behind from x, state mid)) back read.reads.1)) in
    close_gives c.list_from.result after r.arena from p c.args.n c.args.item (state c.args.reader.now) (state mid) parsed read.end c.list_from.ensures.list c.list_from.ensures.below (nodes-taken from r.arena c.list_from.new.self c.list_from.ensures.grows)
    (subst (λ (x : Store). AllByRecursion (IsNode x) (drop from x.pending)) back read.reads.0)
    (ap (λ (l : List Tree). record { rest = r.rest.now; saved = l; replaced = r.replaced; invented = invented_at r.invented; level = r.level }) (c.list_from.ensures.grows.saved ∙ saved-taken from r.arena) ∙ c.skip-2.ensures.state)
    c.list_from.ensures.memory

pub rows::read_list-returns-clause-moves : goal.rows::read_list-returns-clause-moves
unfolding ends
rows::read_list-returns-clause-moves t c =
    let r = c.skip-2.new.self in
    let read = c.in-Ok.ensures {u = tt} in
    let from = c.pending_len-from.result in
    let after : Reader = record { rest = r.rest; arena = c.list_from.new.self; replaced = r.replaced; invented = r.invented; level = r.level; alloc = r.alloc } in
    close_moves c.list_from.result c.args.reader.now c.skip.new.self c.read_items.new.reader after from c.skip.ensures.arena (omega (arith, c.skip.ensures.takes)) read.keeps c.pending_len-from.ensures.value (begins_some 69 c.read_items.new.reader.rest.now read.end)
    (subst (λ (x : Store). KeepsNodes x c.list_from.new.self) c.skip-2.ensures.arena (nodes-taken from r.arena c.list_from.new.self c.list_from.ensures.grows)) (c.list_from.ensures.grows.pending ∙ ap (λ (x : Store). take from x.pending) c.skip-2.ensures.arena) c.skip-2.ensures.takes

pub names::read_components-returns-in-Err-clause-reads : goal.names::read_components-returns-in-Err-clause-reads
names::read_components-returns-in-Err-clause-reads t c =
    subst (λ (a : Store). GivesNamed (Err c.in-Err.error) c.read_next.new.reader (parse_components (productions c.args.depth) (named_at a c.args.name) (state c.args.reader.now))) c.skip_letter.ensures.arena
    (components_stop c.in-Err.error c.read_next.new.reader (productions c.args.depth) _ _ _ _ c.skip_letter.ensures.reads c.loop-reader.invariant.reads (search rules) (c.in-Err.ensures {u = tt}).reads)

pub names::read_components-loop-reader-preserved : goal.names::read_components-loop-reader-preserved
names::read_components-loop-reader-preserved t c =
    let so_far = c.loop-reader.invariant in
    let read = c.in-Ok.ensures {u = tt} in
    record {
      reads = steps_more so_far.reads (search rules) read.reads.1 read.moves.takes;
      named = read.reads.0;
      keeps = Keeps-trans c.args.reader.now c.loop-reader.reader c.read_next.new.reader so_far.keeps read.moves.keeps;
    }

pub names::read_components-returns-clause-reads : goal.names::read_components-returns-clause-reads
names::read_components-returns-clause-reads t c =
    let inv = c.loop-reader.invariant in
    let last = c.loop-reader.last in
    let back = sym c.skip.ensures.arena in (
      subst (λ (x : Store). IsNamed x last) back inv.named,
      subst (λ (a : Store). parse_components (productions c.args.depth) (named_at a c.args.name) (state c.args.reader.now) ≡ Some (named_at c.loop-reader.reader.arena last, skip 1 (state c.loop-reader.reader))) c.skip_letter.ensures.arena
          (components_end (productions c.args.depth) _ _ _ _ c.skip_letter.ensures.reads inv.reads (sym c.begins.ensures.value ∙ c.loop-reader-test.false))
          ∙ ap (λ (x : Store). Some (named_at x last, skip 1 (state c.loop-reader.reader))) back
          ∙ ap (λ (s : State). Some (named_at c.skip.new.self.arena last, s)) (sym c.skip.ensures.state),
    )

pub names::read_unowned_name-returns-then-begins_source-clause-reads : goal.names::read_unowned_name-returns-then-begins_source-clause-reads
unfolding place_at
names::read_unowned_name-returns-then-begins_source-clause-reads t c =
    let s = state c.args.reader.now in
    let a = c.args.reader.now.arena in
    let is = source_named (productions c.args.depth) (place_at a c.args.place) s (ap (option_map (stands a)) c.requires.unowned) (sym c.begins_source.ensures.value ∙ c.if-begins_source.true) in
    subst (GivesNamed c.read_source_at.result c.read_source_at.new.self) (sym is) c.read_source_at.ensures.reads

pub names::read_inherited_ctor-returns-clause-moves : goal.names::read_inherited_ctor-returns-clause-moves
names::read_inherited_ctor-returns-clause-moves t c =
    let old = c.args.reader.now in
    let skipped = Keeps-arena old c.skip.new.self c.skip.ensures.arena (omega (arith, c.skip.ensures.takes)) in
    let class = Keeps-trans old c.skip.new.self c.class_of.new.self skipped (c.in-Ok.ensures {u = tt}).keeps in
    let name = Moves-front old c.class_of.new.self c.read_name.new.reader class (c.in-Ok-read_name.ensures {u = tt}).moves in
    Moves-after c.make_ctor.result old c.read_name.new.reader c.make_ctor.new.self name c.make_ctor.ensures.keeps

pub compounds::read_member_pointer-returns-clause-moves : goal.compounds::read_member_pointer-returns-clause-moves
compounds::read_member_pointer-returns-clause-moves t c =
    let old = c.args.reader.now in
    let class = Moves-skip old c.skip.new.self c.read_type.new.reader c.skip.ensures.arena (omega (arith, c.skip.ensures.takes)) (c.in-Ok.ensures {u = tt}).moves in
    let member = Moves-trans old c.read_type.new.reader c.read_type-2.new.reader class (c.in-Ok-read_type.ensures {u = tt}).moves.keeps in
    Moves-after c.make_saved.result old c.read_type-2.new.reader c.make_saved.new.self member c.make_saved.ensures.keeps

pub declarations::read_value_param-returns-clause-moves : goal.declarations::read_value_param-returns-clause-moves
declarations::read_value_param-returns-clause-moves t c =
    let old = c.args.reader.now in
    let a = c.skip.new.self in
    let b = c.invent_value.new.self in
    let front = Keeps-trans old a b (Keeps-arena old a c.skip.ensures.arena (omega (arith, c.skip.ensures.takes))) (c.in-Ok.ensures {u = tt}).keeps in
    Moves-after c.make.result old c.read_type.new.reader c.make.new.self (Moves-front old b c.read_type.new.reader front (c.in-Ok-read_type.ensures {u = tt}).moves) c.make.ensures.keeps

pub rows::read_some_params-returns-clause-reads : goal.rows::read_some_params-returns-clause-reads
unfolding ends tree_as
rows::read_some_params-returns-clause-reads t c =
    let p = productions c.args.depth in
    let old = c.args.reader.now in
    let mid = c.read_tree.new.reader in
    let i = c.in-Ok.value in
    let read = c.in-Ok.ensures {u = tt} in
    let from = c.pending_len-from.result in
    let is = c.pending_len-from.ensures.value in
    let start : Reader = record { rest = mid.rest; arena = c.add.new.self; replaced = mid.replaced; invented = mid.invented; level = mid.level; alloc = mid.alloc } in
    let one : Pushed (tree_as p c.args.first (state old)) old start i =
    pushed old mid start i read.moves.keeps c.add.ensures.same c.add.ensures.saved (c.in-Ok-add.ensures {u = tt}).pending refl refl refl refl read.reads in
    let trees : trees_behind from start.arena ≡ stands start.arena i ∷ [] =
    one-more old.arena start.arena from i one.grows (none-below old.arena from is) (omega (arith, is)) one.pending ∙ ap (λ (ts : List Tree). ts ++ stands start.arena i ∷ []) (none-yet old.arena from is) in
    let parsed : parse_some_params p c.args.first c.args.end (state old) ≡ list_after p item.Type c.args.end (stands start.arena i ∷ []) (state start) = rw one.parsed refl in
    let gives = GivesFrom c.read_items.result from c.read_items.new.reader in
    subst (λ (n : ℕ). GivesFrom c.read_items.result n c.read_items.new.reader (parse_some_params p c.args.first c.args.end (state old))) is
    (subst gives (sym parsed) (subst (λ (ts : List Tree). gives (list_after p item.Type c.args.end ts (state start))) trees c.read_items.ensures.reads))

pub encodings::read_function-make_function-requires-clause-enable_if : goal.encodings::read_function-make_function-requires-clause-enable_if
encodings::read_function-make_function-requires-clause-enable_if t c =
    let a = c.read_enable_if.new.reader.arena in
    let b = c.read_return_type.new.reader.arena in
    let d = c.read_params.new.reader.arena in
    let e = c.read_constraint.new.reader.arena in
    let later = nodes-trans b d e (c.in-Ok-read_params.ensures {u = tt}).keeps.grows (c.in-Ok-read_constraint.ensures {u = tt}).keeps.grows in
    some-below a e (nodes-trans a b e (c.in-Ok-read_return_type.ensures {u = tt}).keeps.grows later) c.in-Ok.value (c.in-Ok.ensures {u = tt}).reads.0

pub encodings::read_function-returns-clause-reads : goal.encodings::read_function-returns-clause-reads
unfolding stands named_at
encodings::read_function-returns-clause-reads t c =
    let p = productions c.args.depth in
    let old = c.args.reader.now in
    let s = state old in
    let a = c.read_enable_if.new.reader in
    let b = c.read_return_type.new.reader in
    let d = c.read_params.new.reader in
    let e = c.read_constraint.new.reader in
    let name = c.args.name in
    let conditions = c.in-Ok.value in
    let ret = c.in-Ok-read_return_type.value in
    let enabled = c.in-Ok.ensures {u = tt} in
    let returned = c.in-Ok-read_return_type.ensures {u = tt} in
    let read = c.in-Ok-read_params.ensures {u = tt} in
    let constrained = c.in-Ok-read_constraint.ensures {u = tt} in
    let from = c.pending_len-from.result in
    let is = c.pending_len-from.ensures.value in
    let n = named_at old.arena name in
    let ret_read : parse_return p (has_return n.info) (state a) ≡ Some (option_map (stands b.arena) ret, state b) =
    subst (λ (is_there : Bool). parse_return p is_there (state a) ≡ Some (option_map (stands b.arena) ret, state b)) c.has_return.ensures.value returned.reads.1 in
    let params_read : parse_params p (first_param n.info) end.Encoding (state b) ≡ Some (trees_behind from d.arena, state d) =
    subst (λ (first : Item). parse_params p first end.Encoding (state b) ≡ Some (trees_behind from d.arena, state d)) c.first_param.ensures.value
    (subst (λ (k : ℕ). parse_params p c.first_param.result end.Encoding (state b) ≡ Some (trees_behind k d.arena, state d)) (sym is) read.reads.1) in
    let below : AllByRecursion (IsNode d.arena) (drop from d.arena.pending) = subst (λ (k : ℕ). AllByRecursion (IsNode d.arena) (drop k d.arena.pending)) (sym is) read.reads.0 in
    let conditions_at = option_map (list_trees a.arena) conditions in
    let params = trees_behind from d.arena in
    let written = option_map (stands e.arena) c.in-Ok-read_constraint.value in
    let is_read : parse_function p n s ≡ make_function (option_map (stands b.arena) ret) n params conditions_at written (state e) = rw (enabled.reads.1, ret_read, params_read, constrained.reads.1) refl in
    let last = constrained.keeps.grows in
    let be = nodes-trans b.arena d.arena e.arena read.keeps.grows last in
    let ae = nodes-trans a.arena b.arena e.arena returned.keeps.grows be in
    let oe = nodes-trans old.arena a.arena e.arena enabled.keeps.grows ae in
    let gives = Gives c.make_function.result c.make_function.new.self in
    subst gives (sym is_read)
    (subst (λ (r : Option Tree). gives (make_function r n params conditions_at written (state e))) (some-stands b.arena e.arena be ret returned.reads.0)
    (subst (λ (m : LearnedName). gives (make_function (option_map (stands e.arena) ret) m params conditions_at written (state e))) (named_stays old.arena e.arena name oe c.requires.named)
    (subst (λ (o : Option Trees). gives (make_function (option_map (stands e.arena) ret) (named_at e.arena name) params o written (state e))) (some-trees a.arena e.arena ae conditions enabled.reads.0)
    (subst (λ (ts : List Tree). gives (make_function (option_map (stands e.arena) ret) (named_at e.arena name) ts (option_map (list_trees e.arena) conditions) written (state e))) (behind-grows d.arena e.arena from last constrained.keeps.pending below) c.make_function.ensures.reads))))

pub encodings::read_function-returns-clause-keeps : goal.encodings::read_function-returns-clause-keeps
encodings::read_function-returns-clause-keeps t c =
    let old = c.args.reader.now in
    let a = c.read_enable_if.new.reader in
    let b = c.read_return_type.new.reader in
    let d = c.read_params.new.reader in
    let front = Keeps-trans old a b (c.in-Ok.ensures {u = tt}).keeps (c.in-Ok-read_return_type.ensures {u = tt}).keeps in
    let is = c.pending_len-from.ensures.value in
    let kept = subst (λ (n : ℕ). KeepsFront n b d) (sym is) (c.in-Ok-read_params.ensures {u = tt}).keeps in
    function_keeps c.make_function.result old b d c.read_constraint.new.reader c.make_function.new.self c.pending_len-from.result front is kept
    (c.in-Ok-read_constraint.ensures {u = tt}).keeps c.make_function.ensures.grows c.make_function.ensures.pending c.make_function.ensures.rest

pub encodings::read_named-returns-clause-reads : goal.encodings::read_named-returns-clause-reads
encodings::read_named-returns-clause-reads t c =
    let s = state c.args.reader.now in
    let mid = c.read_name.new.reader in
    let end = c.read_inside.new.reader in
    let read = c.in-Ok.ensures {u = tt} in
    let signed = c.in-Ok-read_inside.ensures {u = tt} in
    let name = c.in-Ok.value in
    let t = stands end.arena c.in-Ok-read_inside.value in
    let same : named_at end.arena name ≡ named_at mid.arena name = named_stays mid.arena end.arena name signed.keeps.grows read.reads.0 in
    let is : parse_named_encoding (productions c.args.depth) s ≡ bind_encoding (named_at mid.arena name) t (state end) = rw (read.reads.1, signed.reads.1) refl in
    subst (Gives c.bind.result c.bind.new.self) (sym is)
    (subst (λ (n : LearnedName). Gives c.bind.result c.bind.new.self (bind_encoding n t (state end))) same c.bind.ensures.reads)

pub vendors::read_other_qualified-make_vendor_qualified-requires-clause-args : goal.vendors::read_other_qualified-make_vendor_qualified-requires-clause-args
vendors::read_other_qualified-make_vendor_qualified-requires-clause-args t c =
    some-below c.read_vendor_args.new.reader.arena c.read_qualified_type.new.reader.arena (c.in-Ok-read_qualified_type.ensures {u = tt}).moves.keeps.grows c.in-Ok.value (c.in-Ok.ensures {u = tt}).reads.0

pub vendors::read_other_qualified-returns-clause-reads : goal.vendors::read_other_qualified-returns-clause-reads
vendors::read_other_qualified-returns-clause-reads t c =
    let p = productions c.args.depth in
    let s = state c.args.reader.now in
    let mid = c.read_vendor_args.new.reader in
    let end = c.read_qualified_type.new.reader in
    let args = c.in-Ok.value in
    let read = c.in-Ok.ensures {u = tt} in
    let inner = c.in-Ok-read_qualified_type.ensures {u = tt} in
    let t = stands end.arena c.in-Ok-read_qualified_type.value in
    let same = some-trees mid.arena end.arena inner.moves.keeps.grows args read.reads.0 in
    let is : parse_other_qualified p c.args.is_bare c.args.qualifier.now s ≡ make (vendor_qualified t c.args.qualifier.now (option_map (list_trees mid.arena) args)) (state end) = rw (read.reads.1, inner.reads.1) refl in
    subst (Gives c.make_vendor_qualified.result c.make_vendor_qualified.new.self) (sym is)
    (subst (λ (o : Option Trees). Gives c.make_vendor_qualified.result c.make_vendor_qualified.new.self (make (vendor_qualified t c.args.qualifier.now o) (state end))) same c.make_vendor_qualified.ensures.reads)

pub names::read_conversion-returns-clause-reads : goal.names::read_conversion-returns-clause-reads
unfolding stands
names::read_conversion-returns-clause-reads t c =
    let p = productions c.args.depth in
    let r = c.read_type.new.reader in
    let after : Reader = record { rest = r.rest; arena = c.make_prefixed.new.self; replaced = r.replaced; invented = r.invented; level = r.level; alloc = r.alloc } in
    subst (λ (u : State). Gives c.make_prefixed.result after ((p.type true >>= λ (t : Tree). make (prefixed (codes "operator ") (codes "operator ") t Primary)) u)) c.skip.ensures.state
    (rw (c.in-Ok.ensures {u = tt}).reads.1 (gives_made c.make_prefixed.result after _ _ _ c.make_prefixed.ensures.makes refl))

pub rows::read_rest-returns-in-Err-clause-reads : goal.rows::read_rest-returns-in-Err-clause-reads
rows::read_rest-returns-in-Err-clause-reads t c =
    rest_stop c.in-Err.error c.args.from c.read_items.new.reader (productions c.args.depth) c.args.item (trees_behind c.args.from c.args.reader.now.arena) (state c.args.reader.now) (c.in-Err.ensures {u = tt}).reads

pub rows::read_rest-returns-clause-reads : goal.rows::read_rest-returns-clause-reads
unfolding ends
rows::read_rest-returns-clause-reads t c =
    let p = productions c.args.depth in
    let old = c.args.reader.now in
    let mid = c.read_items.new.reader in
    let from = c.args.from in
    let read = c.in-Ok.ensures {u = tt} in
    let back = sym c.skip.ensures.arena in (
      subst (λ (x : Store). AllByRecursion (IsNode x) (drop from x.pending)) back read.reads.0,
      rest_end p c.args.item (trees_behind from old.arena) (trees_behind from mid.arena) (state old) (state mid) read.reads.1 read.end
          ∙ ap (λ (x : Store). Some (trees_behind from x, skip 1 (state mid))) back
          ∙ ap (λ (s : State). Some (trees_behind from c.skip.new.self.arena, s)) (sym c.skip.ensures.state),
    )

pub rows::read_rest-returns-clause-keeps : goal.rows::read_rest-returns-clause-keeps
rows::read_rest-returns-clause-keeps t c =
    KeepsFront-arena c.args.from c.args.reader.now c.read_items.new.reader c.skip.new.self (c.in-Ok.ensures {u = tt}).keeps c.skip.ensures.arena (omega (arith, c.skip.ensures.takes))

pub rows::read_operand_list-returns-clause-reads : goal.rows::read_operand_list-returns-clause-reads
rows::read_operand_list-returns-clause-reads t c =
    let p = productions c.args.depth in
    let gives = GivesFrom c.read_rest.result c.args.from c.read_rest.new.reader in
    subst (λ (u : State). gives (rest_after p item.Expression (trees_behind c.args.from c.args.reader.now.arena) u)) c.skip.ensures.state
    (subst (λ (x : Store). gives (rest_after p item.Expression (trees_behind c.args.from x) (state c.skip.new.self))) c.skip.ensures.arena c.read_rest.ensures.reads)

pub expressions::read_to_underscore-returns-in-Err-clause-reads : goal.expressions::read_to_underscore-returns-in-Err-clause-reads
expressions::read_to_underscore-returns-in-Err-clause-reads t c =
    let p = productions c.args.depth in
    let after = c.read_items.new.reader in
    let from = c.pending_len-from.result in
    place_stop c.in-Err.error from after p c.args.n c.args.item (state c.args.reader.now)
    (subst (λ (u : State). GivesFrom (Err c.in-Err.error) from after (list_after p c.args.item end.Underscore [] u)) c.skip.ensures.state
    (subst (λ (ts : List Tree). GivesFrom (Err c.in-Err.error) from after (list_after p c.args.item end.Underscore ts (state c.skip.new.self)))
    (none-yet c.skip.new.self.arena from c.pending_len-from.ensures.value) (c.in-Err.ensures {u = tt}).reads))

pub expressions::read_to_underscore-returns-clause-reads : goal.expressions::read_to_underscore-returns-clause-reads
unfolding ends
expressions::read_to_underscore-returns-clause-reads t c =
    let p = productions c.args.depth in
    let mid = c.read_items.new.reader in
    let r = c.skip-2.new.self in
    let read = c.in-Ok.ensures {u = tt} in
    let from = c.pending_len-from.result in
    let back = sym c.skip-2.ensures.arena in
    let after : Reader = record { rest = r.rest; arena = c.list_from.new.self; replaced = r.replaced; invented = r.invented; level = r.level; alloc = r.alloc } in
    let parsed : list_after p c.args.item end.Underscore [] (skip c.args.n (state c.args.reader.now)) ≡ Some (trees_behind from r.arena, state mid) =
    subst (λ (u : State). list_after p c.args.item end.Underscore [] u ≡ Some (trees_behind from r.arena, state mid)) c.skip.ensures.state
    (subst (λ (ts : List Tree). list_after p c.args.item end.Underscore ts (state c.skip.new.self) ≡ Some (trees_behind from r.arena, state mid)) (none-yet c.skip.new.self.arena from c.pending_len-from.ensures.value)
    (subst (λ (x : Store). list_after p c.args.item end.Underscore (trees_behind from c.skip.new.self.arena) (state c.skip.new.self) ≡ Some (trees_behind from x, state mid)) back read.reads.1)) in
    place_gives c.list_from.result after r.arena from p c.args.n c.args.item (state c.args.reader.now) (state mid) parsed read.end c.list_from.ensures.list c.list_from.ensures.below (nodes-taken from r.arena c.list_from.new.self c.list_from.ensures.grows)
    (subst (λ (x : Store). AllByRecursion (IsNode x) (drop from x.pending)) back read.reads.0)
    (ap (λ (l : List Tree). record { rest = r.rest.now; saved = l; replaced = r.replaced; invented = invented_at r.invented; level = r.level }) (c.list_from.ensures.grows.saved ∙ saved-taken from r.arena) ∙ c.skip-2.ensures.state)
    c.list_from.ensures.memory

pub expressions::read_to_underscore-returns-clause-moves : goal.expressions::read_to_underscore-returns-clause-moves
unfolding ends
expressions::read_to_underscore-returns-clause-moves t c =
    let r = c.skip-2.new.self in
    let read = c.in-Ok.ensures {u = tt} in
    let from = c.pending_len-from.result in
    let after : Reader = record { rest = r.rest; arena = c.list_from.new.self; replaced = r.replaced; invented = r.invented; level = r.level; alloc = r.alloc } in
    close_moves c.list_from.result c.args.reader.now c.skip.new.self c.read_items.new.reader after from c.skip.ensures.arena (omega (arith, c.skip.ensures.takes)) read.keeps c.pending_len-from.ensures.value (begins_some 95 c.read_items.new.reader.rest.now read.end)
    (subst (λ (x : Store). KeepsNodes x c.list_from.new.self) c.skip-2.ensures.arena (nodes-taken from r.arena c.list_from.new.self c.list_from.ensures.grows)) (c.list_from.ensures.grows.pending ∙ ap (λ (x : Store). take from x.pending) c.skip-2.ensures.arena) c.skip-2.ensures.takes

pub unresolved::read_scope_list-returns-in-Err-clause-reads : goal.unresolved::read_scope_list-returns-in-Err-clause-reads
unresolved::read_scope_list-returns-in-Err-clause-reads t c =
    scopes_stop c.in-Err.error c.read_next_scope.new.reader (productions c.args.depth) _ _ c.loop-reader.invariant.reads (search rules) (c.in-Err.ensures {u = tt}).reads

pub unresolved::read_scope_list-loop-reader-preserved : goal.unresolved::read_scope_list-loop-reader-preserved
unresolved::read_scope_list-loop-reader-preserved t c =
    let so_far = c.loop-reader.invariant in
    let read = c.in-Ok.ensures {u = tt} in
    record {
      reads = steps_more so_far.reads (search rules) read.reads.1 read.moves.takes;
      node = read.reads.0;
      keeps = Keeps-trans c.args.reader.now c.loop-reader.reader c.read_next_scope.new.reader so_far.keeps read.moves.keeps;
    }

pub unresolved::read_scope_list-returns-clause-reads : goal.unresolved::read_scope_list-returns-clause-reads
unresolved::read_scope_list-returns-clause-reads t c =
    let so_far = c.loop-reader.invariant in
    let scope = c.loop-reader.scope in
    let back = sym c.skip.ensures.arena in (
      subst (λ (x : Store). IsNode x scope) back so_far.node,
      scopes_end (productions c.args.depth) _ _ so_far.reads (sym c.begins.ensures.value ∙ c.loop-reader-test.false)
          ∙ ap (λ (x : Store). Some (stands x scope, skip 1 (state c.loop-reader.reader))) back
          ∙ ap (λ (s : State). Some (stands c.skip.new.self.arena scope, s)) (sym c.skip.ensures.state),
    )

pub expressions::read_new-make_new-requires-clause-places : goal.expressions::read_new-make_new-requires-clause-places
expressions::read_new-make_new-requires-clause-places t c =
    let a = c.read_to_underscore.new.reader.arena in
    let b = c.read_type.new.reader.arena in
    let d = c.read_initializer.new.reader.arena in
    list_below-keeps a d c.in-Ok.value (nodes-trans a b d (c.in-Ok-read_type.ensures {u = tt}).moves.keeps.grows (c.in-Ok-read_initializer.ensures {u = tt}).moves.keeps.grows) (c.in-Ok.ensures {u = tt}).reads.0

pub expressions::read_new-returns-clause-reads : goal.expressions::read_new-returns-clause-reads
unfolding stands
expressions::read_new-returns-clause-reads t c =
    let p = productions c.args.depth in
    let s = state c.args.reader.now in
    let a = c.read_to_underscore.new.reader in
    let b = c.read_type.new.reader in
    let d = c.read_initializer.new.reader in
    let places = c.in-Ok.value in
    let placed = c.in-Ok.ensures {u = tt} in
    let typed = c.in-Ok-read_type.ensures {u = tt} in
    let valued = c.in-Ok-read_initializer.ensures {u = tt} in
    let i = c.in-Ok-read_type.value in
    let values = list_trees d.arena c.in-Ok-read_initializer.value in
    let g = c.args.is_global in
    let r = c.args.is_array in
    let gives = Gives c.make_new.result c.make_new.new.self in
    let front : parse_to_underscore p (new_len g) item.Expression s ≡ Some (list_trees a.arena places, state a) =
    subst (λ (n : ℕ). parse_to_underscore p n item.Expression s ≡ Some (list_trees a.arena places, state a)) c.new_len.ensures.value placed.reads.1 in
    let is : parse_new p g r s ≡ make (new_expression (list_trees a.arena places) (stands b.arena i) values g r) (state d) = rw (front, typed.reads.1, valued.reads.1) refl in
    let grows = nodes-trans a.arena b.arena d.arena typed.moves.keeps.grows valued.moves.keeps.grows in
    subst gives (sym is)
    (subst (λ (ts : Trees). gives (make (new_expression ts (stands b.arena i) values g r) (state d))) (list_trees-grow a.arena d.arena grows places placed.reads.0)
    (subst (λ (u : Tree). gives (make (new_expression (list_trees d.arena places) u values g r) (state d))) (valued.moves.keeps.grows.same i typed.reads.0) c.make_new.ensures.reads))

pub expressions::read_new-returns-clause-moves : goal.expressions::read_new-returns-clause-moves
expressions::read_new-returns-clause-moves t c =
    let old = c.args.reader.now in
    let a = c.read_to_underscore.new.reader in
    let b = c.read_type.new.reader in
    let d = c.read_initializer.new.reader in
    let typed = Moves-trans old a b (c.in-Ok.ensures {u = tt}).moves (c.in-Ok-read_type.ensures {u = tt}).moves.keeps in
    Moves-after c.make_new.result old d c.make_new.new.self (Moves-trans old b d typed (c.in-Ok-read_initializer.ensures {u = tt}).moves.keeps) c.make_new.ensures.keeps

pub expressions::read_subobject-returns-clause-moves : goal.expressions::read_subobject-returns-clause-moves
expressions::read_subobject-returns-clause-moves t c =
    let old = c.args.reader.now in
    let a = c.read_type.new.reader in
    let b = c.read_expression.new.reader in
    let d = c.read_offset_end.new.self in
    let typed = Moves-skip old c.skip.new.self a c.skip.ensures.arena (omega (arith, c.skip.ensures.takes)) (c.in-Ok.ensures {u = tt}).moves in
    let operand = Moves-trans old a b typed (c.in-Ok-read_expression.ensures {u = tt}).moves.keeps in
    let offset = Moves-trans old b d operand (Keeps-arena b d c.read_offset_end.ensures.arena (c.in-Ok-read_offset_end.ensures {u = tt}).within) in
    Moves-after c.make_subobject.result old d c.make_subobject.new.self offset c.make_subobject.ensures.keeps

pub expressions::read_vendor_expression-returns-clause-moves : goal.expressions::read_vendor_expression-returns-clause-moves
expressions::read_vendor_expression-returns-clause-moves t c =
    let old = c.args.reader.now in
    let a = c.read_identifier.new.self in
    let b = c.make_function_name.new.self in
    let d = c.read_vendor_operands.new.reader in
    let same = c.read_identifier.ensures.arena ∙ c.skip.ensures.arena in
    let read = (c.in-Ok.ensures {u = tt}).takes in
    let name = Moves-of old a (Keeps-arena old a same (omega (arith, read, c.skip.ensures.takes))) (omega (arith, read, c.skip.ensures.takes)) in
    let made = Moves-trans old a b name (c.in-Ok-make_function_name.ensures {u = tt}).keeps in
    let operands = Moves-trans old b d made (c.in-Ok-read_vendor_operands.ensures {u = tt}).keeps in
    Moves-after c.make_call.result old d c.make_call.new.self operands c.make_call.ensures.keeps

pub expressions::read_subobject-make_subobject-requires-clause-t : goal.expressions::read_subobject-make_subobject-requires-clause-t
expressions::read_subobject-make_subobject-requires-clause-t t c =
    subst (λ (x : Store). IsNode x c.in-Ok.value) (sym c.read_offset_end.ensures.arena) (omega (arith, (c.in-Ok.ensures {u = tt}).reads.0, (c.in-Ok-read_expression.ensures {u = tt}).moves.keeps.grows.longer))

pub expressions::read_subobject-make_subobject-requires-clause-e : goal.expressions::read_subobject-make_subobject-requires-clause-e
expressions::read_subobject-make_subobject-requires-clause-e t c =
    subst (λ (x : Store). IsNode x c.in-Ok-read_expression.value) (sym c.read_offset_end.ensures.arena) (c.in-Ok-read_expression.ensures {u = tt}).reads.0

pub expressions::read_subobject-returns-clause-reads : goal.expressions::read_subobject-returns-clause-reads
unfolding stands
expressions::read_subobject-returns-clause-reads t c =
    let p = productions c.args.depth in
    let s = state c.args.reader.now in
    let a = c.read_type.new.reader in
    let b = c.read_expression.new.reader in
    let d = c.read_offset_end.new.self in
    let typed = c.in-Ok.ensures {u = tt} in
    let operand = c.in-Ok-read_expression.ensures {u = tt} in
    let i = c.in-Ok.value in
    let j = c.in-Ok-read_expression.value in
    let n = number_printed c.in-Ok-read_offset_end.value.now in
    let gives = Gives c.make_subobject.result c.make_subobject.new.self in
    let front : p.type false (skip 2 s) ≡ Some (stands a.arena i, state a) =
    subst (λ (u : State). p.type false u ≡ Some (stands a.arena i, state a)) c.skip.ensures.state typed.reads.1 in
    let is : parse_subobject p s ≡ make (subobject (stands a.arena i) (stands b.arena j) n) (state d) =
    rw (front, operand.reads.1, (c.in-Ok-read_offset_end.ensures {u = tt}).reads) refl in
    subst gives (sym is)
    (subst (λ (u : Tree). gives (make (subobject u (stands b.arena j) n) (state d))) (operand.moves.keeps.grows.same i typed.reads.0)
    (subst (λ (x : Store). gives (make (subobject (stands x i) (stands x j) n) (state d))) c.read_offset_end.ensures.arena c.make_subobject.ensures.reads))

pub unresolved::read_simple_scopes-returns-clause-moves : goal.unresolved::read_simple_scopes-returns-clause-moves
unresolved::read_simple_scopes-returns-clause-moves t c =
    let old = c.args.reader.now in
    let a = c.read_simple_id.new.reader in
    let b = c.make_global_if.new.self in
    let id = Moves-skip old c.skip.new.self a c.skip.ensures.arena (omega (arith, c.skip.ensures.takes)) (c.in-Ok.ensures {u = tt}).moves in
    let scope = Moves-trans old a b id (c.in-Ok-make_global_if.ensures {u = tt}).keeps in
    Moves-then c.read_scopes.result old b c.read_scopes.new.reader scope c.read_scopes.ensures.moves

pub declarations::read_declarations-returns-in-Err-clause-reads : goal.declarations::read_declarations-returns-in-Err-clause-reads
declarations::read_declarations-returns-in-Err-clause-reads t c =
    let p = productions c.args.depth in
    let after = c.collect_declarations.new.reader in
    let from = c.pending_len-from.result in
    declarations_stop c.in-Err.error from after p (state c.args.reader.now)
    (subst (λ (ts : List Tree). GivesFrom (Err c.in-Err.error) from after (declarations_after p ts (state c.args.reader.now)))
    (none-yet c.args.reader.now.arena from c.pending_len-from.ensures.value) (c.in-Err.ensures {u = tt}).reads)

pub declarations::read_declarations-returns-clause-reads : goal.declarations::read_declarations-returns-clause-reads
declarations::read_declarations-returns-clause-reads t c =
    let p = productions c.args.depth in
    let old = c.args.reader.now in
    let r = c.collect_declarations.new.reader in
    let from = c.pending_len-from.result in
    let read = c.in-Ok.ensures {u = tt} in
    let after : Reader = record { rest = r.rest; arena = c.list_from.new.self; replaced = r.replaced; invented = r.invented; level = r.level; alloc = r.alloc } in
    let parsed : declarations_after p [] (state old) ≡ Some (trees_behind from r.arena, state r) =
    subst (λ (ts : List Tree). declarations_after p ts (state old) ≡ Some (trees_behind from r.arena, state r)) (none-yet old.arena from c.pending_len-from.ensures.value) read.reads.1 in
    listed_gives c.list_from.result after r.arena from (state r) (declarations_end p (state old) (state r) (trees_behind from r.arena) parsed)
    c.list_from.ensures.list c.list_from.ensures.below (nodes-taken from r.arena c.list_from.new.self c.list_from.ensures.grows) read.reads.0
    (ap (λ (l : List Tree). record { rest = r.rest.now; saved = l; replaced = r.replaced; invented = invented_at r.invented; level = r.level }) (c.list_from.ensures.grows.saved ∙ saved-taken from r.arena))
    c.list_from.ensures.memory

pub declarations::read_declarations-returns-clause-keeps : goal.declarations::read_declarations-returns-clause-keeps
declarations::read_declarations-returns-clause-keeps t c =
    let r = c.collect_declarations.new.reader in
    let from = c.pending_len-from.result in
    let after : Reader = record { rest = r.rest; arena = c.list_from.new.self; replaced = r.replaced; invented = r.invented; level = r.level; alloc = r.alloc } in
    list_keeps c.list_from.result c.args.reader.now r after from c.pending_len-from.ensures.value (c.in-Ok.ensures {u = tt}).keeps
    (nodes-taken from r.arena c.list_from.new.self c.list_from.ensures.grows) c.list_from.ensures.grows.pending (omega arith)

pub declarations::collect_numbered-returns-in-Err-clause-reads : goal.declarations::collect_numbered-returns-in-Err-clause-reads
declarations::collect_numbered-returns-in-Err-clause-reads t c =
    let p = productions c.args.depth in
    let old = c.args.reader.now in
    let trees = trees_behind c.args.from old.arena in
    let after = c.read_declaration.new.reader in
    subst (λ (n : ℕ). GivesFrom (Err c.in-Err.error) c.args.from after (item_more (p.declaration n) trees (state old))) c.declared_count-number.ensures.value
    (item_stop c.in-Err.error c.args.from after (p.declaration c.declared_count-number.result) trees (state old) (c.in-Err.ensures {u = tt}).reads)

pub declarations::collect_numbered-returns-clause-reads : goal.declarations::collect_numbered-returns-clause-reads
declarations::collect_numbered-returns-clause-reads t c =
    let p = productions c.args.depth in
    let old = c.args.reader.now in
    let mid = c.read_declaration.new.reader in
    let read = c.in-Ok.ensures {u = tt} in
    let after : Reader = record { rest = mid.rest; arena = c.add.new.self; replaced = mid.replaced; invented = mid.invented; level = mid.level; alloc = mid.alloc } in
    subst (λ (n : ℕ). GivesFrom c.add.result c.args.from after (item_more (p.declaration n) (trees_behind c.args.from old.arena) (state old))) c.declared_count-number.ensures.value
    (collected c.add.result old mid after c.in-Ok.value c.args.from (p.declaration c.declared_count-number.result) c.add.ensures.memory read.moves.keeps c.add.ensures.same c.add.ensures.saved c.add.ensures.pending refl refl refl refl read.reads
    c.requires.within c.requires.nodes)

pub declarations::collect_declarations-returns-in-Err-clause-reads : goal.declarations::collect_declarations-returns-in-Err-clause-reads
declarations::collect_declarations-returns-in-Err-clause-reads t c =
    items_stop c.in-Err.error c.args.from c.collect_numbered.new.reader c.loop-reader.invariant.reads (search rules) (c.in-Err.ensures {u = tt}).reads

pub declarations::collect_declarations-loop-reader-preserved : goal.declarations::collect_declarations-loop-reader-preserved
declarations::collect_declarations-loop-reader-preserved t c =
    let so_far = c.loop-reader.invariant in
    let read = c.in-Ok.ensures {u = tt} in
    record {
      reads = steps_more so_far.reads (search rules) read.reads.1 read.takes;
      below = read.reads.0;
      keeps = KeepsFront-trans c.args.from c.args.reader.now c.loop-reader.reader c.collect_numbered.new.reader so_far.keeps read.keeps;
    }

pub unnamed::read_lambda_params-returns-clause-reads : goal.unnamed::read_lambda_params-returns-clause-reads
unnamed::read_lambda_params-returns-clause-reads t c =
    let p = productions c.args.depth in
    let old = c.args.reader.now in
    let r = c.read_params.new.reader in
    let from = c.pending_len-from.result in
    let is : from ≡ length old.arena.pending = c.pending_len-from.ensures.value in
    let read = subst (λ (n : ℕ). GivesFrom (Ok tt) n r (parse_params p item.Type end.Lambda (state old))) (sym is) (c.in-Ok.ensures {u = tt}).reads in
    let after : Reader = record { rest = r.rest; arena = c.list_from.new.self; replaced = r.replaced; invented = r.invented; level = r.level; alloc = r.alloc } in
    let parsed : parse_lambda_params p (state old) ≡ Some (trees_from_list (trees_behind from r.arena), state r) = rw read.1 refl in
    listed_gives c.list_from.result after r.arena from (state r) parsed
    c.list_from.ensures.list c.list_from.ensures.below (nodes-taken from r.arena c.list_from.new.self c.list_from.ensures.grows) read.0
    (ap (λ (l : List Tree). record { rest = r.rest.now; saved = l; replaced = r.replaced; invented = invented_at r.invented; level = r.level }) (c.list_from.ensures.grows.saved ∙ saved-taken from r.arena))
    c.list_from.ensures.memory

pub unnamed::read_lambda_params-returns-clause-keeps : goal.unnamed::read_lambda_params-returns-clause-keeps
unnamed::read_lambda_params-returns-clause-keeps t c =
    let old = c.args.reader.now in
    let r = c.read_params.new.reader in
    let from = c.pending_len-from.result in
    let is : from ≡ length old.arena.pending = c.pending_len-from.ensures.value in
    let after : Reader = record { rest = r.rest; arena = c.list_from.new.self; replaced = r.replaced; invented = r.invented; level = r.level; alloc = r.alloc } in
    list_keeps c.list_from.result old r after from is (subst (λ (n : ℕ). KeepsFront n old r) (sym is) (c.in-Ok.ensures {u = tt}).keeps)
    (nodes-taken from r.arena c.list_from.new.self c.list_from.ensures.grows) c.list_from.ensures.grows.pending (omega arith)

pub unnamed::read_lambda_sig-returns-clause-reads : goal.unnamed::read_lambda_sig-returns-clause-reads
unnamed::read_lambda_sig-returns-clause-reads t c =
    let p = productions c.args.depth in
    let s = state c.args.reader.now in
    let a = c.read_declarations.new.reader in
    let b = c.read_constraint.new.reader in
    let d = c.read_lambda_params.new.reader in
    let e = c.read_constraint-2.new.reader in
    let r = c.expect.new.self in
    let declarations = c.in-Ok.value in
    let before = c.in-Ok-read_constraint.value in
    let params = c.in-Ok-read_lambda_params.value in
    let behind = c.in-Ok-read_constraint-2.value in
    let one = (c.in-Ok.ensures {u = tt}) in
    let two = (c.in-Ok-read_constraint.ensures {u = tt}) in
    let three = (c.in-Ok-read_lambda_params.ensures {u = tt}) in
    let four = (c.in-Ok-read_constraint-2.ensures {u = tt}) in
    let de = four.keeps.grows in
    let be = nodes-trans b.arena d.arena e.arena three.keeps.grows de in
    let ae = nodes-trans a.arena b.arena e.arena two.keeps.grows be in
    let is : parse_lambda_sig p s ≡ Some (record { declarations = list_trees a.arena declarations; before = option_map (stands b.arena) before; params = list_trees d.arena params; behind = option_map (stands e.arena) behind }, state r) =
    rw (one.reads.1, two.reads.1, three.reads.1, four.reads.1, (c.in-Ok-expect.ensures {u = tt}).reads) refl in
    let below : IsSignature e.arena (record { declarations = declarations; before = before; params = params; behind = behind }) =
    ((list_below-keeps a.arena e.arena declarations ae one.reads.0, node-below b.arena e.arena be before two.reads.0), (list_below-keeps d.arena e.arena params de three.reads.0, four.reads.0)) in
    let same = sym c.expect.ensures.arena in (
      subst (λ (x : Store). IsSignature x (record { declarations = declarations; before = before; params = params; behind = behind })) same below,
      is ∙ ap (λ (ts : Trees). Some (record { declarations = ts; before = option_map (stands b.arena) before; params = list_trees d.arena params; behind = option_map (stands e.arena) behind }, state r)) (sym (list_trees-grow a.arena e.arena ae declarations one.reads.0))
          ∙ ap (λ (o : Option Tree). Some (record { declarations = list_trees e.arena declarations; before = o; params = list_trees d.arena params; behind = option_map (stands e.arena) behind }, state r)) (sym (node-grows b.arena e.arena be before two.reads.0))
          ∙ ap (λ (ts : Trees). Some (record { declarations = list_trees e.arena declarations; before = option_map (stands e.arena) before; params = ts; behind = option_map (stands e.arena) behind }, state r)) (sym (list_trees-grow d.arena e.arena de params three.reads.0))
          ∙ ap (λ (x : Store). Some (signature_at x (record { declarations = declarations; before = before; params = params; behind = behind }), state r)) same,
    )

pub unnamed::read_lambda_sig-returns-clause-moves : goal.unnamed::read_lambda_sig-returns-clause-moves
unnamed::read_lambda_sig-returns-clause-moves t c =
    let old = c.args.reader.now in
    let a = c.read_declarations.new.reader in
    let b = c.read_constraint.new.reader in
    let d = c.read_lambda_params.new.reader in
    let e = c.read_constraint-2.new.reader in
    let r = c.expect.new.self in
    let one = Keeps-trans old a b (c.in-Ok.ensures {u = tt}).keeps (c.in-Ok-read_constraint.ensures {u = tt}).keeps in
    let two = Keeps-trans b d e (c.in-Ok-read_lambda_params.ensures {u = tt}).keeps (c.in-Ok-read_constraint-2.ensures {u = tt}).keeps in
    let takes = (c.in-Ok-expect.ensures {u = tt}).takes in
    Moves-front old e r (Keeps-trans old b e one two) (Moves-of e r (Keeps-arena e r c.expect.ensures.arena (omega (arith, takes))) takes)

pub declarations::read_some_declared-returns-clause-reads : goal.declarations::read_some_declared-returns-clause-reads
declarations::read_some_declared-returns-clause-reads t c =
    let p = productions c.args.depth in
    let s = state c.args.reader.now in
    let a = c.read_declarations.new.reader in
    let b = c.read_constraint.new.reader in
    let r = c.expect.new.self in
    let declarations = c.in-Ok.value in
    let constraint = c.in-Ok-read_constraint.value in
    let one = c.in-Ok.ensures {u = tt} in
    let two = c.in-Ok-read_constraint.ensures {u = tt} in
    let is : parse_some_declared p s ≡ Some (record { declarations = list_trees a.arena declarations; constraint = option_map (stands b.arena) constraint }, state r) =
    rw (one.reads.1, two.reads.1, (c.in-Ok-expect.ensures {u = tt}).reads) refl in
    let below : IsDeclared b.arena (record { declarations = declarations; constraint = constraint }) = (list_below-keeps a.arena b.arena declarations two.keeps.grows one.reads.0, two.reads.0) in
    let same = sym c.expect.ensures.arena in (
      subst (λ (x : Store). IsDeclared x (record { declarations = declarations; constraint = constraint })) same below,
      is ∙ ap (λ (ts : Trees). Some (record { declarations = ts; constraint = option_map (stands b.arena) constraint }, state r)) (sym (list_trees-grow a.arena b.arena two.keeps.grows declarations one.reads.0))
          ∙ ap (λ (x : Store). Some (declared_at x (record { declarations = declarations; constraint = constraint }), state r)) same,
    )

pub declarations::read_some_declared-returns-clause-moves : goal.declarations::read_some_declared-returns-clause-moves
declarations::read_some_declared-returns-clause-moves t c =
    let old = c.args.reader.now in
    let a = c.read_declarations.new.reader in
    let b = c.read_constraint.new.reader in
    let r = c.expect.new.self in
    let one = Keeps-trans old a b (c.in-Ok.ensures {u = tt}).keeps (c.in-Ok-read_constraint.ensures {u = tt}).keeps in
    let takes = (c.in-Ok-expect.ensures {u = tt}).takes in
    Moves-front old b r one (Moves-of b r (Keeps-arena b r c.expect.ensures.arena (omega (arith, takes))) takes)

pub expressions::read_requires-make_requires-requires-clause-params : goal.expressions::read_requires-make_requires-requires-clause-params
expressions::read_requires-make_requires-requires-clause-params t c =
    list_below-keeps c.read_requires_params.new.reader.arena c.read_requirements.new.reader.arena c.in-Ok.value (c.in-Ok-read_requirements.ensures {u = tt}).moves.keeps.grows (c.in-Ok.ensures {u = tt}).reads.0

pub expressions::read_requires-returns-clause-reads : goal.expressions::read_requires-returns-clause-reads
expressions::read_requires-returns-clause-reads t c =
    let p = productions c.args.depth in
    let s = state c.args.reader.now in
    let a = c.read_requires_params.new.reader in
    let b = c.read_requirements.new.reader in
    let params = c.in-Ok.value in
    let one = c.in-Ok.ensures {u = tt} in
    let two = c.in-Ok-read_requirements.ensures {u = tt} in
    let requirements = list_trees b.arena c.in-Ok-read_requirements.value in
    let gives = Gives c.make_requires.result c.make_requires.new.self in
    let is : parse_requires p c.args.has_params s ≡ make (requires_expression (list_trees a.arena params) requirements) (state b) = rw (one.reads.1, two.reads.1) refl in
    subst gives (sym is) (subst (λ (ts : Trees). gives (make (requires_expression ts requirements) (state b))) (list_trees-grow a.arena b.arena two.moves.keeps.grows params one.reads.0) c.make_requires.ensures.reads)

pub declarations::collect_declarations-returns-clause-reads : goal.declarations::collect_declarations-returns-clause-reads
declarations::collect_declarations-returns-clause-reads t c =
    let so_far = c.loop-reader.invariant in (so_far.below, steps_end so_far.reads (search rules))

pub requirements::read_nested_requirement-returns-clause-reads : goal.requirements::read_nested_requirement-returns-clause-reads
unfolding stands
requirements::read_nested_requirement-returns-clause-reads t c =
    let p = productions c.args.depth in
    let s = state c.args.reader.now in
    let a = c.read_expression.new.reader in
    let e = stands a.arena c.in-Ok.value in
    let gives = Gives c.make_requirement.result c.make_requirement.new.self in
    let read : p.expression (skip 1 s) ≡ Some (e, state a) = subst (λ (u : State). p.expression u ≡ Some (e, state a)) c.skip.ensures.state (c.in-Ok.ensures {u = tt}).reads.1 in
    let is : parse_nested_requirement p s ≡ make (requirement (codes "requires") e) (state a) = rw read refl in
    subst gives (sym is) c.make_requirement.ensures.reads
