-- Of lists that are built as they are read: what the grammar reads, the parser reads.
use Rattle.std.proofs.Common.{◌<◌, ℕ, zero, suc, ◌+◌, max, Bool, true, false, List, map, length, refl, arith}
use Rattle.demangle_text.specs.Shape.{Shape, text_len}
use Rattle.demangle_edit.specs.Built.{listed_each, listed_more}
use Rattle.itanium_syntax.specs.declared.context.Context.{Context}
use Rattle.itanium_syntax.specs.Types.{type_list_case}
use Rattle.itanium_grammar.specs.Tree.{Tree, shape_of}
use Rattle.itanium_grammar.specs.Grammar.{Position, Cost, ParamsAs, TypeListAs, no_params, some_params, end_of_types, one_more_type}
use Rattle.itanium_grammar.proofs.Progress.{type_takes}
use Rattle.itanium_grammar.specs.Cases.{ParamsCase, TypeListCase}
use Rattle.itanium_reader.specs.Parser.{after_turn, loop, ◌>>=◌, next_item, type_list_as, typed_turn, params_as, parse_type}
use Rattle.itanium_demangle.specs.Meaning.{state_at}
use Rattle.itanium_demangle.proofs.Shapes.{same_read}
use Rattle.itanium_demangle.proofs.Fitting.{Met, met, met_as, met_turn}
use Rattle.itanium_demangle.proofs.Grows.{listed_longer}
use Rattle.itanium_demangle.proofs.Readings.{Small, reached, TypesComplete}

-- types put onto a list, in n turns
abbrev TypedMet : ℕ → Bool → ℕ → Type 0
TypedMet d in_function_type n = (x : Context) (p q : Position) (ts : List Tree) (c : Cost) → TypeListAs (type_list_case in_function_type p.rest) in_function_type x p ts q c → Small d c
    → (e m : ℕ) (first : Bool) (front : Shape) → length p.rest < n
    → Met text_len (loop (typed_turn in_function_type (parse_type d x)) n (first, front) (state_at p e m)) (reached (λ us. listed_each first front (map shape_of us)) ts q c e m)

module _ (in_function_type : Bool) (d : ℕ) (kinds : TypesComplete d) where
  typed_as_met : (n : ℕ) → TypedMet d in_function_type n → {case : TypeListCase} {x : Context} {p q : Position} {ts : List Tree} {c : Cost} → TypeListAs case in_function_type x p ts q c → Small d c
      → (e m : ℕ) (first : Bool) (front : Shape) → length p.rest < suc n
      → Met text_len (type_list_as case (parse_type d x) (first, front) (state_at p e m) >>= λ r. after_turn r.0 (loop (typed_turn in_function_type (parse_type d x)) n) r.1)
      (reached (λ us. listed_each first front (map shape_of us)) ts q c e m)
  typed_as_met n again end_of_types deep e m first front enough = met (same_read refl refl refl (omega arith) (omega arith))
  typed_as_met n again (one_more_type {x = x} {q = q} {t = t} {ts = ts} {c = c} a others) deep e m first front enough =
      let shorter = (type_takes a).shorter in
      let more = listed_more first front (shape_of t) in
      rw (kinds _ _ _ _ _ a (omega arith) e m)
      (met_turn more (state_at q (e + c.count) (max m c.peak)) next_item (λ r. after_turn r.0 (loop (typed_turn in_function_type (parse_type d x)) n) r.1)
      (listed_longer false more (map shape_of ts))
      (met_as (again _ _ _ _ _ others (omega arith) (e + c.count) (max m c.peak) false more (omega arith)) (same_read refl refl refl (omega arith) (omega arith))))

  typed_met : (n : ℕ) → TypedMet d in_function_type n
  unfolding loop typed_turn
  typed_met zero x p q ts c a deep e m first front enough = absurd (omega arith)
  typed_met (suc n) x p q ts c a deep e m first front enough = typed_as_met n (typed_met n) a deep e m first front enough

  pub typed_params_met : {case : ParamsCase} {x : Context} {p q : Position} {ts : List Tree} {c : Cost} → ParamsAs case in_function_type x p ts q c → Small d c → (e m : ℕ) (front : Shape)
      → Met text_len (params_as case in_function_type (parse_type d x) front (state_at p e m)) (reached (λ us. listed_each true front (map shape_of us)) ts q c e m)
  typed_params_met no_params deep e m front = met (same_read refl refl refl (omega arith) (omega arith))
  typed_params_met (some_params {p = p} a) deep e m front = typed_met (length p.rest + 1) _ _ _ _ _ a deep e m true front (omega arith)
