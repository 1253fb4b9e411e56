-- Of template arguments: what the parser reads, the grammar reads.
use Rattle.std.proofs.Common.{◌≡◌, ◌<◌, ℕ, zero, suc, ◌+◌, max, Bool, true, false, [], ◌∷◌, map, length, ◌∙◌, sym, arith, Some, codes}
use Rattle.std.proofs.lemmas.Option.{same_Some, option_and_then_some}
use Rattle.std.specs.Prelude.{option_map, List, Option, None, if◌then◌else◌, ◌++◌}
use Rattle.demangle_text.specs.Shape.{Shape, plain_shape}
use Rattle.itanium_syntax.specs.declared.context.Context.{Context}
use Rattle.itanium_syntax.specs.Context.{opens_scope, hiding_dots}
use Rattle.itanium_syntax.specs.Args.{argument_list_case}
use Rattle.itanium_syntax.proofs.Fronts.{after_drop, after-le}
use Rattle.itanium_grammar.specs.Tree.{Tree, shape_of}
use Rattle.itanium_grammar.specs.Grammar.{Position, within_list, skip, both, Args, ArgumentListAs, Pack}
use Rattle.itanium_grammar.specs.Grammar.{PackedAs, args, end_of_arguments, one_more_argument, pack, end_of_pack}
use Rattle.itanium_grammar.specs.Grammar.{one_more_packed}
use Rattle.itanium_grammar.proofs.Progress.{argument_takes}
use Rattle.itanium_grammar.proofs.Scopes.{argument_keeps}
use Rattle.itanium_grammar.specs.Cases.{ArgumentListCase, EndOfArguments, NextArgument}
use Rattle.itanium_reader.specs.Parser as parser
use Rattle.itanium_reader.specs.Parser.{ParserState, Turn, after_turn, loop, parse_loop, add_nowhere, ◌>>=◌}
use Rattle.itanium_reader.specs.Parser.{parse_argument, parse_primary, parse_encoding, parse_special, parse_name}
use Rattle.itanium_reader.specs.Parser.{next_item, argument_list_as, list_turn, parse_list, parse_packed, parse_args, parse_pack}
use Rattle.itanium_demangle.specs.Meaning.{state_at}
use Rattle.itanium_demangle.proofs.Shapes.{IsInside, end_argument-scopes, open_scope_if-scopes, open_scope_if-inside, inside_more}
use Rattle.itanium_demangle.proofs.Fitting.{met_passed, past_fitting}
use Rattle.itanium_demangle.proofs.Readings.{Within, PacksSound, ArgsSound, ArgumentsComplete, ArgumentsSound}
use Rattle.itanium_demangle.proofs.CompleteArgs.{list_met, pack_met, args_complete, packs_complete}
use Rattle.demangle_edit.specs.Built.{listed_more}

-- the arguments after what stands of a list, in n turns
abbrev TurnsSound : ℕ → ℕ → Type 0
TurnsSound d n = (x : Context) (o : Bool) (k : ℕ) (outer : List (List Tree)) (own : Option (List Tree)) (first : Bool) (front : Shape) (p : Position) (e m : ℕ) (y : Shape × ParserState)
    → IsInside o k outer own → length p.rest < n
    → loop (list_turn (parser.end_argument o k) (parse_argument d x)) n (first, front) (state_at (within_list outer own p) e m) ≡ Some y
    → Within (ArgumentListAs (argument_list_case p.rest) x outer own p) d

-- a pack's arguments after what stands of its list, in n turns
abbrev PackedSound : ℕ → ℕ → Type 0
PackedSound d n = (x : Context) (first : Bool) (front : Shape) (p : Position) (e m : ℕ) (y : Shape × ParserState) → length p.rest < n
    → loop (list_turn add_nowhere (parse_argument d x)) n (first, front) (state_at p e m) ≡ Some y → Within (PackedAs (argument_list_case p.rest) x p) d

module _ (d : ℕ) (each : ArgumentsSound d) where
  arguments_as_sound : (n : ℕ) → TurnsSound d n → (case : ArgumentListCase) (x : Context) (o : Bool) (k : ℕ) (outer : List (List Tree)) (own : Option (List Tree)) (first : Bool) (front : Shape) (p : Position) (e m : ℕ) (y : Shape × ParserState)
      → IsInside o k outer own → length p.rest < suc n
      → (argument_list_as case (parser.end_argument o k) (parse_argument d x) (first, front) (state_at (within_list outer own p) e m)
      >>= λ r. after_turn r.0 (loop (list_turn (parser.end_argument o k) (parse_argument d x)) n) r.1) ≡ Some y
      → Within (ArgumentListAs case x outer own p) d
  arguments_as_sound n again EndOfArguments x o k outer own first front p e m y inside enough is = record { tree = _; next = _; cost = _; reading = end_of_arguments; deep = omega arith }
  arguments_as_sound n again NextArgument x o k outer own first front p e m y inside enough is =
      let here = within_list outer own p in
      option_and_then_some _ (argument_list_as NextArgument (parser.end_argument o k) (parse_argument d x) (first, front) (state_at here e m)) y is (λ v turned rest.
      option_and_then_some _ (parse_argument d x (state_at here e m)) v turned (λ z arg made.
      let found = each x here e m z arg in
      let i = found.within in
      let shorter = (argument_takes i.reading).shorter in
      let stepped = past_fitting (listed_more first front z.0, parser.end_argument o k z.0 z.1) next_item v made in
      let there = rw (← same_Some _ _ stepped, found.is, end_argument-scopes own i.tree inside (argument_keeps i.reading)) at rest in
      let args = option_map (λ args. args ++ i.tree ∷ []) own in
      let r = again x o k outer args false (listed_more first front (shape_of i.tree)) i.next (e + i.cost.count) (max m i.cost.peak) y (inside_more i.tree inside) (omega arith) there in
      record {
        tree = i.tree ∷ r.tree;
        next = r.next;
        cost = both i.cost r.cost;
        reading = one_more_argument {r = r.next} {ts = r.tree} {d = r.cost} i.reading r.reading;
        deep = omega (arith, i.deep, r.deep);
      }))

  arguments_sound : (n : ℕ) → TurnsSound d n
  unfolding loop list_turn
  arguments_sound zero x o k outer own first front p e m y inside enough is = cc
  arguments_sound (suc n) x o k outer own first front p e m y inside enough is = arguments_as_sound n (arguments_sound n) (argument_list_case p.rest) x o k outer own first front p e m y inside enough is

  packed_as_sound : (n : ℕ) → PackedSound d n → (case : ArgumentListCase) (x : Context) (first : Bool) (front : Shape) (p : Position) (e m : ℕ) (y : Shape × ParserState)
      → length p.rest < suc n
      → (argument_list_as case add_nowhere (parse_argument d x) (first, front) (state_at p e m)
      >>= λ r. after_turn r.0 (loop (list_turn add_nowhere (parse_argument d x)) n) r.1) ≡ Some y
      → Within (PackedAs case x p) d
  packed_as_sound n again EndOfArguments x first front p e m y enough is = record { tree = _; next = _; cost = _; reading = end_of_pack; deep = omega arith }
  packed_as_sound n again NextArgument x first front p e m y enough is =
      option_and_then_some _ (argument_list_as NextArgument add_nowhere (parse_argument d x) (first, front) (state_at p e m)) y is (λ v turned rest.
      option_and_then_some _ (parse_argument d x (state_at p e m)) v turned (λ z arg made.
      let found = each x p e m z arg in
      let i = found.within in
      let shorter = (argument_takes i.reading).shorter in
      let stepped = past_fitting (listed_more first front z.0, z.1) next_item v made in
      let there = rw (← same_Some _ _ stepped, found.is) at rest in
      let r = again x false (listed_more first front (shape_of i.tree)) i.next (e + i.cost.count) (max m i.cost.peak) y (omega arith) there in
      record {
        tree = i.tree ∷ r.tree;
        next = r.next;
        cost = both i.cost r.cost;
        reading = one_more_packed {r = r.next} {ts = r.tree} {d = r.cost} i.reading r.reading;
        deep = omega (arith, i.deep, r.deep);
      }))

  packed_sound : (n : ℕ) → PackedSound d n
  unfolding loop list_turn
  packed_sound zero x first front p e m y enough is = cc
  packed_sound (suc n) x first front p e m y enough is = packed_as_sound n (packed_sound n) (argument_list_case p.rest) x first front p e m y enough is

pub args_sound : (d : ℕ) → ArgumentsComplete d → ArgumentsSound d → ArgsSound (suc d)
unfolding parse_args parse_argument parse_primary parse_encoding parse_special parse_name
args_sound d each_is each x of_name p e m y is =
    let opens = opens_scope of_name x in
    let own : Option (List Tree) = if opens then Some [] else None in
    let begun = within_list p.scopes own (skip 1 p) in
    let count = length (map (map shape_of) begun.scopes) in
    let within = after-le (after_drop 1 p.rest) in
    option_and_then_some _ (parse_list (parse_argument d x) opens (state_at p (e + 1) m)) y is (λ u read through.
    let there = rw (open_scope_if-scopes opens p.scopes) at read in
    option_and_then_some _ (parse_loop (list_turn (parser.end_argument opens count) (parse_argument d x)) (true, plain_shape (codes "<")) (state_at begun (e + 1) m)) u there
    (λ z list _.
    let r = arguments_sound d each _ x opens count p.scopes own true (plain_shape (codes "<")) (skip 1 p) (e + 1) m z (open_scope_if-inside opens p.scopes) (omega arith) list in
    let narrow = met_passed (list_met d each_is opens p r.reading r.deep (e + 1) m) read through in
    let w : Within (Args of_name x p) (suc d) = record { tree = _; next = _; cost = _; reading = args r.reading; deep = omega (arith, r.deep, narrow) } in
    record { within = w; is = same_Some _ _ (sym is ∙ args_complete d each_is x of_name _ _ _ _ w.reading w.deep e m) }))

pub packs_sound : (d : ℕ) → ArgumentsComplete d → ArgumentsSound d → PacksSound (suc d)
unfolding parse_pack parse_argument parse_primary parse_encoding parse_special parse_name
packs_sound d each_is each x p e m y is =
    let inside = hiding_dots x in
    option_and_then_some _ (parse_packed (parse_argument d inside) (state_at p (e + 1) m)) y is (λ u read through.
    option_and_then_some _ (parse_loop (list_turn add_nowhere (parse_argument d inside)) (true, plain_shape []) (state_at (skip 1 p) (e + 1) m)) u read
    (λ z list _.
    let r = packed_sound d each _ inside true (plain_shape []) (skip 1 p) (e + 1) m z (omega arith) list in
    let narrow = met_passed (pack_met d each_is p r.reading r.deep (e + 1) m) read through in
    let w : Within (Pack x p) (suc d) = record { tree = _; next = _; cost = _; reading = pack r.reading; deep = omega (arith, r.deep, narrow) } in
    record { within = w; is = same_Some _ _ (sym is ∙ packs_complete d each_is x _ _ _ _ w.reading w.deep e m) }))
