-- Of literals, expressions and arguments: what the parser reads, the grammar reads.
use Rattle.std.proofs.Common.{◌≡◌, ℕ, suc, ◌+◌, max, true, List, ◌∙◌, sym, arith, Some, codes}
use Rattle.std.proofs.lemmas.Option.{same_Some, option_and_then_some, cond_some}
use Rattle.demangle_text.specs.Shape.{Shape, text}
use Rattle.demangle_edit.specs.Expressions.{has_literal}
use Rattle.demangle_edit.specs.Calls.{literal_step}
use Rattle.itanium_syntax.specs.declared.context.Context.{Context}
use Rattle.itanium_syntax.specs.Context.{inside_encoding}
use Rattle.abi_scalars.specs.Bytes.{begins}
use Rattle.itanium_syntax.specs.Args.{argument_case}
use Rattle.itanium_syntax.specs.Expressions.{primary_case, literal_value, expression_case}
use Rattle.itanium_grammar.specs.Tree.{shape_of, shape_of_operand}
use Rattle.itanium_grammar.specs.Grammar.{Position, skip, ArgumentAs, Expression, ExpressionAs, OperandOf, PrimaryAs}
use Rattle.itanium_grammar.specs.Grammar.{external_name, value_literal, expression, operand_of, pre_expression}
use Rattle.itanium_grammar.specs.Grammar.{address_expression, unary_expression, post_expression, binary_expression}
use Rattle.itanium_grammar.specs.Grammar.{greater_expression, conditional_expression, template_param_expression}
use Rattle.itanium_grammar.specs.Grammar.{primary_expression, expression_argument, pack_argument, primary_argument}
use Rattle.itanium_grammar.specs.Grammar.{type_argument}
use Rattle.itanium_grammar.specs.Cases.{AtE, PrimaryCase, ExternalName, ValueLiteral, UnreadablePrimary, ExpressionCase}
use Rattle.itanium_grammar.specs.Cases.{PreExpression, AddressExpression, UnaryExpression, PostExpression}
use Rattle.itanium_grammar.specs.Cases.{BinaryExpression, GreaterExpression, ConditionalExpression}
use Rattle.itanium_grammar.specs.Cases.{TemplateParamExpression, PrimaryExpression, UnreadableExpression, ArgumentCase}
use Rattle.itanium_grammar.specs.Cases.{ExpressionArgument, PackArgument, PrimaryArgument, ConstraintArgument}
use Rattle.itanium_grammar.specs.Cases.{TypeArgument}
use Rattle.itanium_reader.specs.Parser.{ParserState, parse_type, parse_name, parse_special, parse_pack, parse_encoding}
use Rattle.itanium_reader.specs.Parser.{past_end, literal_as, parse_primary, operand_by, expression_as}
use Rattle.itanium_reader.specs.Parser.{parse_expression, argument_as, parse_argument}
use Rattle.itanium_demangle.specs.Meaning.{state_at}
use Rattle.itanium_demangle.proofs.Fitting.{met_is, met_passed}
use Rattle.itanium_demangle.proofs.Readings.{Within, Found, TypesComplete, PacksComplete, BareNamesComplete}
use Rattle.itanium_demangle.proofs.Readings.{ThunksComplete, ExpressionsComplete, TypesSound, PacksSound}
use Rattle.itanium_demangle.proofs.Readings.{BareNamesSound, ThunksSound, ExpressionsSound, ArgumentsSound}
use Rattle.itanium_demangle.proofs.CompleteExpressions.{operand_complete, expression_as_met, expressions_complete, each_argument_met}
use Rattle.itanium_demangle.proofs.SoundNames.{template_param_sound, encoding_sound}

-- an E stands there
end_sound : (p : Position) (e m : ℕ) (after : ParserState) → past_end (state_at p e m) ≡ Some after → begins (codes "E") p.rest ≡ true
end_sound p e m after is = (cond_some (begins (codes "E") p.rest) _ after is).0

-- the type has the value
value_sound : (kind : Shape) (value : List ℕ) (v : Shape) → literal_step kind value ≡ Some v → has_literal (text kind) value ≡ true
value_sound kind value v is = (cond_some (has_literal (text kind) value) _ v is).0

module _ (d : ℕ) (complete : TypesComplete d) (bares_are : BareNamesComplete d) (thunks_are : ThunksComplete d) (kinds : TypesSound d) (bares : BareNamesSound d) (thunks : ThunksSound d) where
  literal_sound : (case : PrimaryCase) (x : Context) (p : Position) (e m : ℕ) (y : Shape × ParserState)
      → literal_as case (parse_type d x) (parse_encoding d AtE (inside_encoding x)) (state_at p e m) ≡ Some y → Within (PrimaryAs case x p) d
  literal_sound ExternalName x p e m y is =
      option_and_then_some _ (parse_encoding d AtE (inside_encoding x) (state_at (skip 3 p) e m)) y is (λ z read more.
      let found = encoding_sound d complete bares_are thunks_are kinds bares thunks AtE (inside_encoding x) (skip 3 p) e m z read in
      let i = found.within in
      let there = rw found.is at more in
      option_and_then_some _ (past_end (state_at i.next (e + i.cost.count) (max m i.cost.peak))) y there (λ after end _.
      record { tree = _; next = _; cost = _; reading = external_name i.reading (end_sound i.next (e + i.cost.count) (max m i.cost.peak) after end); deep = i.deep }))
  literal_sound ValueLiteral x p e m y is =
      option_and_then_some _ (parse_type d x (state_at (skip 1 p) e m)) y is (λ z read more.
      let found = kinds x (skip 1 p) e m z read in
      let i = found.within in
      let there = rw found.is at more in
      option_and_then_some _ (literal_value i.next.rest) y there (λ v value made.
      option_and_then_some _ (literal_step (shape_of i.tree) v.0) y made (λ w literal _.
      record { tree = _; next = _; cost = _; reading = value_literal i.reading value (value_sound (shape_of i.tree) v.0 w literal); deep = i.deep })))
  literal_sound UnreadablePrimary x p e m y is = cc

  pub primary_sound : (x : Context) (p : Position) (e m : ℕ) (y : Shape × ParserState) → parse_primary d x (state_at p e m) ≡ Some y → Within (PrimaryAs (primary_case p.rest) x p) d
  unfolding parse_primary
  primary_sound x p e m y is = literal_sound (primary_case p.rest) x p e m y is

module _ (d : ℕ) (complete : TypesComplete d) (bares_are : BareNamesComplete d) (thunks_are : ThunksComplete d)
    (values_are : ExpressionsComplete d) (kinds : TypesSound d) (bares : BareNamesSound d) (thunks : ThunksSound d)
    (values : ExpressionsSound d) where
  operand_sound : (x : Context) (p : Position) (e m : ℕ) (y : Shape × ParserState) → operand_by (parse_expression d x) (state_at p e m) ≡ Some y → Found (OperandOf x p) shape_of_operand d e m y
  operand_sound x p e m y is =
      option_and_then_some _ (parse_expression d x (state_at p e m)) y is (λ z read _.
      let i = (values x p e m z read).within in
      let w : Within (OperandOf x p) d = record { tree = _; next = _; cost = _; reading = operand_of i.reading; deep = i.deep } in
      record { within = w; is = same_Some _ _ (sym is ∙ operand_complete d complete bares_are thunks_are values_are w.reading w.deep e m) })

  expression_as_sound : (case : ExpressionCase) (x : Context) (p : Position) (e m : ℕ) (y : Shape × ParserState)
      → expression_as case (parse_expression d x) (parse_primary d x) x (state_at p e m) ≡ Some y → Within (ExpressionAs case x p) d
  expression_as_sound PreExpression x p e m y is =
      option_and_then_some _ (parse_expression d x (state_at (skip 3 p) e m)) y is (λ z read _.
      let i = (values x (skip 3 p) e m z read).within in
      record { tree = _; next = _; cost = _; reading = pre_expression i.reading; deep = i.deep })
  expression_as_sound AddressExpression x p e m y is =
      option_and_then_some _ (parse_expression d x (state_at (skip 2 p) e m)) y is (λ z read _.
      let i = (values x (skip 2 p) e m z read).within in
      record { tree = _; next = _; cost = _; reading = address_expression i.reading; deep = i.deep })
  expression_as_sound UnaryExpression x p e m y is =
      option_and_then_some _ (operand_by (parse_expression d x) (state_at (skip 2 p) e m)) y is (λ z read _.
      let i = (operand_sound x (skip 2 p) e m z read).within in
      record { tree = _; next = _; cost = _; reading = unary_expression i.reading; deep = i.deep })
  expression_as_sound PostExpression x p e m y is =
      option_and_then_some _ (operand_by (parse_expression d x) (state_at (skip 2 p) e m)) y is (λ z read _.
      let i = (operand_sound x (skip 2 p) e m z read).within in
      record { tree = _; next = _; cost = _; reading = post_expression i.reading; deep = i.deep })
  expression_as_sound BinaryExpression x p e m y is =
      option_and_then_some _ (operand_by (parse_expression d x) (state_at (skip 2 p) e m)) y is (λ z read more.
      let found = operand_sound x (skip 2 p) e m z read in
      let i = found.within in
      let there = rw found.is at more in
      option_and_then_some _ (operand_by (parse_expression d x) (state_at i.next (e + i.cost.count) (max m i.cost.peak))) y there (λ w other _.
      let o = (operand_sound x i.next (e + i.cost.count) (max m i.cost.peak) w other).within in
      record { tree = _; next = _; cost = _; reading = binary_expression i.reading o.reading; deep = omega (arith, i.deep, o.deep) }))
  expression_as_sound GreaterExpression x p e m y is =
      option_and_then_some _ (parse_expression d x (state_at (skip 2 p) e m)) y is (λ z read more.
      let found = values x (skip 2 p) e m z read in
      let i = found.within in
      let there = rw found.is at more in
      option_and_then_some _ (parse_expression d x (state_at i.next (e + i.cost.count) (max m i.cost.peak))) y there (λ w other _.
      let o = (values x i.next (e + i.cost.count) (max m i.cost.peak) w other).within in
      record { tree = _; next = _; cost = _; reading = greater_expression i.reading o.reading; deep = omega (arith, i.deep, o.deep) }))
  expression_as_sound ConditionalExpression x p e m y is =
      option_and_then_some _ (operand_by (parse_expression d x) (state_at (skip 2 p) e m)) y is (λ z read more.
      let found = operand_sound x (skip 2 p) e m z read in
      let i = found.within in
      let there = rw found.is at more in
      option_and_then_some _ (operand_by (parse_expression d x) (state_at i.next (e + i.cost.count) (max m i.cost.peak))) y there (λ w other last.
      let second = operand_sound x i.next (e + i.cost.count) (max m i.cost.peak) w other in
      let o = second.within in
      let here = rw second.is at last in
      option_and_then_some _ (operand_by (parse_expression d x) (state_at o.next (e + i.cost.count + o.cost.count) (max (max m i.cost.peak) o.cost.peak))) y here (λ v third _.
      let l = (operand_sound x o.next (e + i.cost.count + o.cost.count) (max (max m i.cost.peak) o.cost.peak) v third).within in
      record { tree = _; next = _; cost = _; reading = conditional_expression i.reading o.reading l.reading; deep = omega (arith, i.deep, o.deep, l.deep) })))
  expression_as_sound TemplateParamExpression x p e m y is =
      let i = template_param_sound x p e m y is in record { tree = _; next = _; cost = _; reading = template_param_expression i.reading; deep = omega arith }
  expression_as_sound PrimaryExpression x p e m y is =
      let i = primary_sound d complete bares_are thunks_are kinds bares thunks x p e m y is in record { tree = _; next = _; cost = _; reading = primary_expression i.reading; deep = i.deep }
  expression_as_sound UnreadableExpression x p e m y is = cc

  pub expressions_sound : ExpressionsSound (suc d)
  unfolding parse_expression parse_primary parse_encoding parse_special parse_name
  expressions_sound x p e m y is =
      option_and_then_some _ (expression_as (expression_case p.rest) (parse_expression d x) (parse_primary d x) x (state_at p (e + 1) m)) y is (λ z read through.
      let r = expression_as_sound (expression_case p.rest) x p (e + 1) m z read in
      let narrow = met_passed (expression_as_met d complete bares_are thunks_are values_are r.reading r.deep (e + 1) m) read through in
      let w : Within (Expression x p) (suc d) = record { tree = _; next = _; cost = _; reading = expression r.reading; deep = omega (arith, r.deep, narrow) } in
      record { within = w; is = same_Some _ _ (sym is ∙ expressions_complete d complete bares_are thunks_are values_are x _ _ _ _ w.reading w.deep e m) })

module _ (d : ℕ) (packs_are : PacksComplete d) (complete : TypesComplete d) (bares_are : BareNamesComplete d) (thunks_are : ThunksComplete d) (values_are : ExpressionsComplete d)
    (packs : PacksSound d) (kinds : TypesSound d) (bares : BareNamesSound d) (thunks : ThunksSound d) (values : ExpressionsSound d) where
  argument_as_sound : (case : ArgumentCase) (x : Context) (p : Position) (e m : ℕ) (y : Shape × ParserState)
      → argument_as case (parse_pack d x) (parse_type d x) (parse_expression d x) (parse_primary d x) (state_at p e m) ≡ Some y → Within (ArgumentAs case x p) d
  argument_as_sound ExpressionArgument x p e m y is =
      option_and_then_some _ (parse_expression d x (state_at (skip 1 p) e m)) y is (λ z read more.
      let found = values x (skip 1 p) e m z read in
      let i = found.within in
      let there = rw found.is at more in
      option_and_then_some _ (past_end (state_at i.next (e + i.cost.count) (max m i.cost.peak))) y there (λ after end _.
      record { tree = _; next = _; cost = _; reading = expression_argument i.reading (end_sound i.next (e + i.cost.count) (max m i.cost.peak) after end); deep = i.deep }))
  argument_as_sound PackArgument x p e m y is =
      let i = (packs x p e m y is).within in record { tree = _; next = _; cost = _; reading = pack_argument i.reading; deep = i.deep }
  argument_as_sound PrimaryArgument x p e m y is =
      let i = primary_sound d complete bares_are thunks_are kinds bares thunks x p e m y is in record { tree = _; next = _; cost = _; reading = primary_argument i.reading; deep = i.deep }
  argument_as_sound ConstraintArgument x p e m y is = cc
  argument_as_sound TypeArgument x p e m y is =
      let i = (kinds x p e m y is).within in record { tree = _; next = _; cost = _; reading = type_argument i.reading; deep = i.deep }

  pub each_argument_sound : ArgumentsSound d
  unfolding parse_argument
  each_argument_sound x p e m y is =
      let w = argument_as_sound (argument_case p.rest) x p e m y is in
      record { within = w; is = met_is (each_argument_met d packs_are complete bares_are thunks_are values_are x _ _ _ _ w.reading w.deep e m) is }
