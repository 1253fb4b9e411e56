-- Of literals, expressions and arguments: what the grammar reads, the parser reads.
use Rattle.std.proofs.Common.{◌≡◌, ℕ, suc, ◌+◌, max, refl, ◌∙◌, sym, arith}
use Rattle.demangle_text.specs.Shape.{text_len}
use Rattle.itanium_syntax.specs.declared.context.Context.{Context}
use Rattle.itanium_syntax.specs.Context.{inside_encoding}
use Rattle.itanium_syntax.specs.Expressions.{is_external, primary_case, expression_text}
use Rattle.itanium_grammar.specs.Tree.{Tree, Operand, shape_of, shape_of_operand}
use Rattle.itanium_grammar.specs.Grammar.{Position, Cost, ArgumentAs, ExpressionAs, OperandOf, PrimaryAs, external_name}
use Rattle.itanium_grammar.specs.Grammar.{value_literal, expression, operand_of, pre_expression, address_expression}
use Rattle.itanium_grammar.specs.Grammar.{unary_expression, post_expression, binary_expression, greater_expression}
use Rattle.itanium_grammar.specs.Grammar.{conditional_expression, template_param_expression, primary_expression}
use Rattle.itanium_grammar.specs.Grammar.{expression_argument, pack_argument, primary_argument, type_argument}
use Rattle.itanium_grammar.specs.Cases.{AtE, PrimaryCase, ExpressionCase, ArgumentCase}
use Rattle.itanium_reader.specs.Parser.{parse_type, parse_name, parse_special, parse_pack, parse_encoding, literal_as}
use Rattle.itanium_reader.specs.Parser.{parse_primary, operand_by, expression_as, parse_expression, argument_as}
use Rattle.itanium_reader.specs.Parser.{parse_argument}
use Rattle.itanium_demangle.specs.Meaning.{state_at}
use Rattle.itanium_demangle.proofs.Shapes.{same_read, shape-literal_of, shape-address_of, shape-operand, shape-pre_of}
use Rattle.itanium_demangle.proofs.Shapes.{shape-unary_of, shape-post_of, shape-binary_of, shape-greater_of}
use Rattle.itanium_demangle.proofs.Shapes.{shape-conditional_of}
use Rattle.itanium_demangle.proofs.Fitting.{Met, met, met_then, met_as, met_fits}
use Rattle.itanium_demangle.proofs.Readings.{Small, reached, given, TypesComplete, PacksComplete, BareNamesComplete, ThunksComplete, ExpressionsComplete, ArgumentsComplete}
use Rattle.itanium_demangle.proofs.CompleteNames.{template_param_complete, encoding_met}

module _ (d : ℕ) (kinds : TypesComplete d) (bares : BareNamesComplete d) (thunks : ThunksComplete d) where
  literal_met : {case : PrimaryCase} {x : Context} {p q : Position} {t : Tree} {c : Cost} → PrimaryAs case x p t q c → Small d c → (e m : ℕ)
      → Met text_len (literal_as case (parse_type d x) (parse_encoding d AtE (inside_encoding x)) (state_at p e m)) (reached shape_of t q c e m)
  literal_met (external_name a end) deep e m = met_then _ (encoding_met d kinds bares thunks AtE a deep e m) (omega arith) (met (rw end refl))
  literal_met (value_literal {t = t} {value = v} a found has) deep e m =
      met (rw (kinds _ _ _ _ _ a deep e m, found, has) (same_read (sym (shape-literal_of t v)) refl refl refl refl))

  pub primary_met : {x : Context} {p q : Position} {t : Tree} {c : Cost} → PrimaryAs (primary_case p.rest) x p t q c → Small d c → (e m : ℕ)
      → Met text_len (parse_primary d x (state_at p e m)) (reached shape_of t q c e m)
  unfolding parse_primary
  primary_met a deep e m = literal_met a deep e m

module _ (d : ℕ) (kinds : TypesComplete d) (bares : BareNamesComplete d) (thunks : ThunksComplete d) (values : ExpressionsComplete d) where
  pub operand_complete : {x : Context} {p q : Position} {o : Operand} {c : Cost} → OperandOf x p o q c → Small d c → (e m : ℕ)
      → operand_by (parse_expression d x) (state_at p e m) ≡ given shape_of_operand o q c e m
  operand_complete (operand_of {p = p} {t = t} a) deep e m =
      rw (values _ _ _ _ _ a deep e m) (same_read (sym (shape-operand (is_external p.rest) t)) refl refl refl refl)

  pub expression_as_met : {case : ExpressionCase} {x : Context} {p q : Position} {t : Tree} {c : Cost} → ExpressionAs case x p t q c → Small d c → (e m : ℕ)
      → Met text_len (expression_as case (parse_expression d x) (parse_primary d x) x (state_at p e m)) (reached shape_of t q c e m)
  expression_as_met (pre_expression {p = p} {t = t} a) deep e m =
      met (rw (values _ _ _ _ _ a deep e m) (same_read (sym (shape-pre_of (expression_text p.rest) t)) refl refl refl refl))
  expression_as_met (address_expression {t = t} a) deep e m = met (rw (values _ _ _ _ _ a deep e m) (same_read (sym (shape-address_of t)) refl refl refl refl))
  expression_as_met (unary_expression {p = p} {o = o} a) deep e m =
      met (rw (operand_complete a deep e m) (same_read (sym (shape-unary_of (expression_text p.rest) o)) refl refl refl refl))
  expression_as_met (post_expression {p = p} {o = o} a) deep e m =
      met (rw (operand_complete a deep e m) (same_read (sym (shape-post_of o (expression_text p.rest))) refl refl refl refl))
  expression_as_met (binary_expression {p = p} {o = o} {m = n} {c = c} a b) deep e m =
      met (rw (operand_complete a (omega arith) e m, operand_complete b (omega arith) (e + c.count) (max m c.peak))
      (same_read (sym (shape-binary_of o (expression_text p.rest) n)) refl refl (omega arith) (omega arith)))
  expression_as_met (greater_expression {t = t} {u = u} {c = c} a b) deep e m =
      met (rw (values _ _ _ _ _ a (omega arith) e m, values _ _ _ _ _ b (omega arith) (e + c.count) (max m c.peak))
      (same_read (sym (shape-greater_of t u)) refl refl (omega arith) (omega arith)))
  expression_as_met (conditional_expression {o = o} {m = n} {n = k} {c = c} {d = f} a b g) deep e m =
      met (rw (
        operand_complete a (omega arith) e m,
        operand_complete b (omega arith) (e + c.count) (max m c.peak),
        operand_complete g (omega arith) (e + c.count + f.count) (max (max m c.peak) f.peak),
      )
      (same_read (sym (shape-conditional_of o n k)) refl refl (omega arith) (omega arith)))
  expression_as_met (template_param_expression a) deep e m = met (template_param_complete a e m ∙ same_read refl refl refl (omega arith) (omega arith))
  expression_as_met (primary_expression a) deep e m = primary_met d kinds bares thunks a deep e m

  pub expressions_complete : ExpressionsComplete (suc d)
  unfolding parse_expression parse_primary parse_encoding parse_special parse_name
  expressions_complete x p q t c (expression a) deep e m =
      met_fits (met_as (expression_as_met a (omega arith) (e + 1) m) (same_read refl refl refl (omega arith) refl)) (omega arith)

module _ (d : ℕ) (packs : PacksComplete d) (kinds : TypesComplete d) (bares : BareNamesComplete d) (thunks : ThunksComplete d) (values : ExpressionsComplete d) where
  argument_as_met : {case : ArgumentCase} {x : Context} {p q : Position} {t : Tree} {c : Cost} → ArgumentAs case x p t q c → Small d c → (e m : ℕ)
      → Met text_len (argument_as case (parse_pack d x) (parse_type d x) (parse_expression d x) (parse_primary d x) (state_at p e m)) (reached shape_of t q c e m)
  argument_as_met (expression_argument a end) deep e m = met (rw (values _ _ _ _ _ a deep e m, end) refl)
  argument_as_met (pack_argument a) deep e m = met (packs _ _ _ _ _ a deep e m)
  argument_as_met (primary_argument a) deep e m = primary_met d kinds bares thunks a deep e m
  argument_as_met (type_argument a) deep e m = met (kinds _ _ _ _ _ a deep e m)

  pub each_argument_met : ArgumentsComplete d
  unfolding parse_argument
  each_argument_met x p q t c a deep e m = argument_as_met a deep e m
