-- Of lists that are built as they are read: what the parser reads, the grammar reads.
use Rattle.std.proofs.Common.{◌≡◌, ◌<◌, ℕ, zero, suc, ◌+◌, max, Bool, true, false, ◌∷◌, map, length, arith, Some}
use Rattle.std.proofs.lemmas.Option.{same_Some, option_and_then_some}
use Rattle.demangle_text.specs.Shape.{Shape}
use Rattle.demangle_edit.specs.Built.{listed_each, listed_more}
use Rattle.itanium_syntax.specs.declared.context.Context.{Context}
use Rattle.itanium_syntax.specs.Types.{type_list_case}
use Rattle.itanium_grammar.specs.Tree.{shape_of}
use Rattle.itanium_grammar.specs.Grammar.{Position, ParamsAs, TypeListAs, no_params, some_params, end_of_types, one_more_type}
use Rattle.itanium_grammar.proofs.Progress.{type_takes}
use Rattle.itanium_grammar.specs.Cases.{ParamsCase, NoParams, SomeParams, TypeListCase, EndOfTypes, NextType}
use Rattle.itanium_reader.specs.Parser.{ParserState, after_turn, loop, ◌>>=◌, next_item, type_list_as, typed_turn, params_as, parse_type}
use Rattle.itanium_demangle.specs.Meaning.{state_at}
use Rattle.itanium_demangle.proofs.Fitting.{met_is, past_fitting}
use Rattle.itanium_demangle.proofs.Readings.{Within, Found, TypesSound, TypesComplete}
use Rattle.itanium_demangle.proofs.CompleteLists.{typed_params_met}

-- types put onto a list, in n turns
abbrev TypedSound : ℕ → Bool → ℕ → Type 0
TypedSound d in_function_type n = (x : Context) (first : Bool) (front : Shape) (p : Position) (e m : ℕ) (y : Shape × ParserState) → length p.rest < n
    → loop (typed_turn in_function_type (parse_type d x)) n (first, front) (state_at p e m) ≡ Some y → Within (TypeListAs (type_list_case in_function_type p.rest) in_function_type x p) d

module _ (in_function_type : Bool) (d : ℕ) (complete : TypesComplete d) (kinds : TypesSound d) where
  typed_as_sound : (n : ℕ) → TypedSound d in_function_type n → (case : TypeListCase) (x : Context) (first : Bool) (front : Shape) (p : Position) (e m : ℕ) (y : Shape × ParserState) → length p.rest < suc n
      → (type_list_as case (parse_type d x) (first, front) (state_at p e m) >>= λ r. after_turn r.0
      (loop (typed_turn in_function_type (parse_type d x)) n) r.1) ≡ Some y → Within (TypeListAs case in_function_type x p) d
  typed_as_sound n again EndOfTypes x first front p e m y enough is = record { tree = _; next = _; cost = _; reading = end_of_types; deep = omega arith }
  typed_as_sound n again NextType x first front p e m y enough is =
      option_and_then_some _ (type_list_as NextType (parse_type d x) (first, front) (state_at p e m)) y is (λ v turned rest.
      option_and_then_some _ (parse_type d x (state_at p e m)) v turned (λ z read made.
      let found = kinds x p e m z read in
      let i = found.within in
      let shorter = (type_takes i.reading).shorter in
      let stepped = past_fitting (listed_more first front z.0, z.1) next_item v made in
      let there = rw (← same_Some _ _ stepped, found.is) at rest in
      let o = again x false (listed_more first front (shape_of i.tree)) i.next (e + i.cost.count) (max m i.cost.peak) y (omega arith) there in
      record { tree = i.tree ∷ o.tree; next = o.next; cost = _; reading = one_more_type i.reading o.reading; deep = omega (arith, i.deep, o.deep) }))

  typed_sound : (n : ℕ) → TypedSound d in_function_type n
  unfolding loop typed_turn
  typed_sound zero x first front p e m y enough is = cc
  typed_sound (suc n) x first front p e m y enough is = typed_as_sound n (typed_sound n) (type_list_case in_function_type p.rest) x first front p e m y enough is

  -- parameters, and the answer y is their list
  pub typed_params_sound : (case : ParamsCase) (x : Context) (front : Shape) (p : Position) (e m : ℕ) (y : Shape × ParserState)
      → params_as case in_function_type (parse_type d x) front (state_at p e m) ≡ Some y → Found (ParamsAs case in_function_type x p) (λ ts. listed_each true front (map shape_of ts)) d e m y
  typed_params_sound NoParams x front p e m y is =
      let w : Within (ParamsAs NoParams in_function_type x p) d = record { tree = _; next = _; cost = _; reading = no_params; deep = omega arith } in
      record { within = w; is = met_is (typed_params_met in_function_type d complete w.reading w.deep e m front) is }
  typed_params_sound SomeParams x front p e m y is =
      let i = typed_sound (length p.rest + 1) x true front p e m y (omega arith) is in
      let w : Within (ParamsAs SomeParams in_function_type x p) d = record { tree = i.tree; next = i.next; cost = i.cost; reading = some_params i.reading; deep = i.deep } in
      record { within = w; is = met_is (typed_params_met in_function_type d complete w.reading w.deep e m front) is }
