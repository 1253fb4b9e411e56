-- Of template arguments: what the grammar reads, the parser reads.
use Rattle.std.proofs.Common.{◌<◌, ◌≤◌, ℕ, zero, suc, ◌+◌, max, Bool, true, false, List, [], drop, map, length, refl, sym, ap, ◌∙◌, arith}
use Rattle.std.specs.Prelude.{codes, option_map, Option, Some, None, if◌then◌else◌, ◌∷◌, ◌++◌}
use Rattle.demangle_text.specs.Shape.{Shape, plain_shape, text_len}
use Rattle.demangle_edit.specs.Built.{listed_each, listed_more}
use Rattle.demangle_edit.proofs.Built.{arguments_alone, pack_built}
use Rattle.itanium_syntax.specs.declared.context.Context.{Context}
use Rattle.itanium_syntax.specs.Context.{opens_scope}
use Rattle.itanium_syntax.specs.Args.{argument_list_case}
use Rattle.itanium_syntax.proofs.Fronts.{after_drop, after-le}
use Rattle.itanium_grammar.specs.Tree.{Tree, shape_of, pack_of, trees}
use Rattle.itanium_grammar.specs.Grammar.{Position, Cost, skip, within_list, ArgumentListAs, PackedAs, args, end_of_arguments, one_more_argument, pack, end_of_pack, one_more_packed}
use Rattle.itanium_grammar.proofs.Progress.{argument_takes}
use Rattle.itanium_grammar.proofs.Scopes.{argument_keeps}
use Rattle.itanium_grammar.specs.Cases.{ArgumentListCase}
use Rattle.itanium_reader.specs.Parser.{after_turn, loop, end_argument, add_nowhere, ◌>>=◌, parse_argument}
use Rattle.itanium_reader.specs.Parser.{parse_primary, parse_encoding, parse_special, parse_name, next_item, argument_list_as}
use Rattle.itanium_reader.specs.Parser.{list_turn, parse_list, parse_packed, parse_args, parse_pack}
use Rattle.itanium_demangle.specs.Meaning.{state_at}
use Rattle.itanium_demangle.proofs.Shapes.{same_read, IsInside, end_argument-scopes, open_scope_if-scopes, open_scope_if-inside, inside_more, shape-pack_of}
use Rattle.itanium_demangle.specs.Readers.{shape_of_args}
use Rattle.itanium_demangle.proofs.Fitting.{Met, met, met_then, met_then_again, met_as, met_turn, met_fits}
use Rattle.itanium_demangle.proofs.Grows.{listed_more_item, listed_longer, closed_longer}
use Rattle.itanium_demangle.proofs.Readings.{Small, reached, ArgsComplete, PacksComplete, ArgumentsComplete}

-- arguments put onto a list, in n turns
abbrev TurnsMet : ℕ → ℕ → Type 0
TurnsMet d n = (x : Context) (o : Bool) (k : ℕ) (outer : List (List Tree)) (own : Option (List Tree)) (p q : Position) (list : List Tree) (c : Cost)
    → ArgumentListAs (argument_list_case p.rest) x outer own p list q c → IsInside o k outer own → Small d c
    → (e m : ℕ) (first : Bool) (front : Shape) → length p.rest < n
    → Met text_len (loop (list_turn (end_argument o k) (parse_argument d x)) n (first, front) (state_at (within_list outer own p) e m)) (reached (λ us. listed_each first front (map shape_of us)) list q c e m)

-- a pack's arguments put onto a list, in n turns
abbrev PackedMet : ℕ → ℕ → Type 0
PackedMet d n = (x : Context) (p q : Position) (list : List Tree) (c : Cost) → PackedAs (argument_list_case p.rest) x p list q c → Small d c
    → (e m : ℕ) (first : Bool) (front : Shape) → length p.rest < n
    → Met text_len (loop (list_turn add_nowhere (parse_argument d x)) n (first, front) (state_at p e m)) (reached (λ us. listed_each first front (map shape_of us)) list q c e m)

-- a turn gives no list that is shorter than its item
turn_longer : (first : Bool) (front item : Shape) (rest : List Shape) → text_len item ≤ text_len (listed_each false (listed_more first front item) rest)
turn_longer first front item rest =
    let here = listed_more_item first front item in
    let more = listed_longer false (listed_more first front item) rest in
    omega arith

module _ (d : ℕ) (each : ArgumentsComplete d) where
  arguments_as_met : (n : ℕ) → TurnsMet d n → {case : ArgumentListCase} {x : Context} {o : Bool} {k : ℕ} {outer : List (List Tree)} {own : Option (List Tree)} {p q : Position} {list : List Tree} {c : Cost}
      → ArgumentListAs case x outer own p list q c → IsInside o k outer own → Small d c
      → (e m : ℕ) (first : Bool) (front : Shape) → length p.rest < suc n
      → Met text_len (argument_list_as case (end_argument o k) (parse_argument d x) (first, front) (state_at (within_list outer own p) e m)
      >>= λ r. after_turn r.0 (loop (list_turn (end_argument o k) (parse_argument d x)) n) r.1)
      (reached (λ us. listed_each first front (map shape_of us)) list q c e m)
  arguments_as_met n again end_of_arguments inside deep e m first front enough = met (same_read refl refl refl (omega arith) (omega arith))
  arguments_as_met n again {o = o} {k = k} (one_more_argument {q = q} {t = t} {ts = ts} {c = c} {outer = outer} {own = own} a more) inside deep e m first front enough =
      let shorter = (argument_takes a).shorter in
      let list = listed_more first front (shape_of t) in
      let args = option_map (λ args. args ++ t ∷ []) own in
      let rest = again _ o k _ _ _ _ _ _ more (inside_more t inside) (omega arith) (e + c.count) (max m c.peak) false list (omega arith) in
      met_then_again _ _ (each _ _ _ _ _ a (omega arith) e m) (turn_longer first front (shape_of t) (map shape_of ts))
      (rw (end_argument-scopes own t inside (argument_keeps a))
      (met_turn list (state_at (within_list outer args q) (e + c.count) (max m c.peak)) next_item _ (listed_longer false list (map shape_of ts))
      (met_as rest (same_read refl refl refl (omega arith) (omega arith)))))

  arguments_met : (n : ℕ) → TurnsMet d n
  unfolding loop list_turn
  arguments_met zero x o k outer own p q list c a inside deep e m first front enough = absurd (omega arith)
  arguments_met (suc n) x o k outer own p q list c a inside deep e m first front enough = arguments_as_met n (arguments_met n) a inside deep e m first front enough

  packed_as_met : (n : ℕ) → PackedMet d n → {case : ArgumentListCase} {x : Context} {p q : Position} {list : List Tree} {c : Cost} → PackedAs case x p list q c → Small d c
      → (e m : ℕ) (first : Bool) (front : Shape) → length p.rest < suc n
      → Met text_len (argument_list_as case add_nowhere (parse_argument d x) (first, front) (state_at p e m)
      >>= λ r. after_turn r.0 (loop (list_turn add_nowhere (parse_argument d x)) n) r.1)
      (reached (λ us. listed_each first front (map shape_of us)) list q c e m)
  packed_as_met n again end_of_pack deep e m first front enough = met (same_read refl refl refl (omega arith) (omega arith))
  packed_as_met n again (one_more_packed {q = q} {t = t} {ts = ts} {c = c} a more) deep e m first front enough =
      let shorter = (argument_takes a).shorter in
      let list = listed_more first front (shape_of t) in
      let rest = again _ _ _ _ _ more (omega arith) (e + c.count) (max m c.peak) false list (omega arith) in
      met_then_again _ _ (each _ _ _ _ _ a (omega arith) e m) (turn_longer first front (shape_of t) (map shape_of ts))
      (met_turn list (state_at q (e + c.count) (max m c.peak)) next_item _ (listed_longer false list (map shape_of ts))
      (met_as rest (same_read refl refl refl (omega arith) (omega arith))))

  packed_met : (n : ℕ) → PackedMet d n
  unfolding loop list_turn
  packed_met zero x p q list c a deep e m first front enough = absurd (omega arith)
  packed_met (suc n) x p q list c a deep e m first front enough = packed_as_met n (packed_met n) a deep e m first front enough

  -- a list from its I to its E
  pub list_met : {x : Context} (o : Bool) (p : Position) {q : Position} {list : List Tree} {c : Cost}
      → ArgumentListAs (argument_list_case (drop 1 p.rest)) x p.scopes (if o then Some [] else None) (skip 1 p) list q c → Small d c
      → (e m : ℕ)
      → Met text_len (parse_list (parse_argument d x) o (state_at p e m)) (reached shape_of_args list q c e m)
  list_met o p {list = list} a deep e m =
      let within = after-le (after_drop 1 p.rest) in
      let begun = plain_shape (codes "<") in
      let built = arguments_alone (map shape_of list) in
      let closed = closed_longer (listed_each true begun (map shape_of list)) in
      let same_len = ap text_len built in
      rw (open_scope_if-scopes o p.scopes)
      (met_then _ (arguments_met (length (drop 1 p.rest) + 1) _ _ _ _ _ _ _ _ _ a (open_scope_if-inside o p.scopes) deep e m true begun (omega arith)) (omega arith)
      (met (same_read built refl refl refl refl)))

  -- a pack from its J to its E
  pub pack_met : {x : Context} (p : Position) {q : Position} {list : List Tree} {c : Cost} → PackedAs (argument_list_case (drop 1 p.rest)) x (skip 1 p) list q c → Small d c → (e m : ℕ)
      → Met text_len (parse_packed (parse_argument d x) (state_at p e m)) (reached shape_of (pack_of (trees list)) q c e m)
  pack_met p {list = list} a deep e m =
      let built = pack_built (map shape_of list) ∙ sym (shape-pack_of list) in
      let same_len = ap text_len built in
      met_then _ (packed_met (length (drop 1 p.rest) + 1) _ _ _ _ _ a deep e m true (plain_shape []) (omega arith)) (omega arith)
      (met (same_read built refl refl refl refl))

pub args_complete : (d : ℕ) → ArgumentsComplete d → ArgsComplete (suc d)
unfolding parse_args parse_argument parse_primary parse_encoding parse_special parse_name
args_complete d each x of_name p q list c (args a) deep e m =
    met_fits (met_as (list_met d each (opens_scope of_name x) p a (omega arith) (e + 1) m) (same_read refl refl refl (omega arith) refl)) (omega arith)

pub packs_complete : (d : ℕ) → ArgumentsComplete d → PacksComplete (suc d)
unfolding parse_pack parse_argument parse_primary parse_encoding parse_special parse_name
packs_complete d each x p q t c (pack a) deep e m =
    met_fits (met_as (pack_met d each p a (omega arith) (e + 1) m) (same_read refl refl refl (omega arith) refl)) (omega arith)
