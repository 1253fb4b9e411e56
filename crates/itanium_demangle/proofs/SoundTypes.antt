-- Of types: what the parser reads, the grammar reads.
use Rattle.std.proofs.Common.{◌≡◌, ℕ, suc, ◌+◌, max, true, false, map, length, drop, refl, ◌∙◌, sym, arith, Option, Some}
use Rattle.std.proofs.lemmas.Option.{same_Some, cond_some, option_and_then_some}
use Rattle.demangle_text.specs.Shape.{Shape, is_plain}
use Rattle.demangle_quals.specs.declared.quals.Quals.{Quals}
use Rattle.demangle_quals.specs.Quals.{no_quals}
use Rattle.demangle_edit.specs.Types.{may_be_element, may_be_member}
use Rattle.demangle_edit.specs.Calls.{array_step, member_pointer_step, opening_step}
use Rattle.itanium_syntax.specs.declared.context.Context.{Context}
use Rattle.itanium_syntax.specs.Context.{inside_type}
use Rattle.abi_scalars.specs.Scalars.{source_name, source_text}
use Rattle.itanium_syntax.specs.Numbers.{optional_number}
use Rattle.itanium_syntax.specs.Args.{attached_case}
use Rattle.itanium_syntax.specs.Types.{type_case, cv_case, function_case, params_case, cv_quals, past_cv}
use Rattle.itanium_grammar.specs.Tree.{Tree, plain_text, shape_of}
use Rattle.itanium_grammar.specs.Grammar.{Position, with_rest, skip, save, TypeOf, TypeAs, CvAs, Function}
use Rattle.itanium_grammar.specs.Grammar.{TypeAttachedAs, type, builtin_type, expansion_type, vendor_type, array_type}
use Rattle.itanium_grammar.specs.Grammar.{function_type, pointer_to_member_type, pointer_type, cv_type, elaborated_type}
use Rattle.itanium_grammar.specs.Grammar.{template_param_type, substitution_type, name_type, cv_function, cv_other, function}
use Rattle.itanium_grammar.specs.Grammar.{none_attached_to_type, args_attached_to_type}
use Rattle.itanium_grammar.specs.Cases.{TypeCase, BuiltinType, ExpansionType, VendorType, ArrayType, FunctionType}
use Rattle.itanium_grammar.specs.Cases.{PointerToMemberType, PointerType, CvType, ElaboratedType, TemplateParamType}
use Rattle.itanium_grammar.specs.Cases.{SubstitutionType, UnreadableType, NameType, CvCase, CvFunction, CvOther}
use Rattle.itanium_grammar.specs.Cases.{FunctionCase, ExternFunction, PlainFunction, AttachedCase, NoneAttached}
use Rattle.itanium_grammar.specs.Cases.{ArgsAttached}
use Rattle.itanium_reader.specs.Parser.{ParserState, parse_source, parse_template_param, saved_template_param, parse_substitution}
use Rattle.itanium_reader.specs.Parser.{attached_by, type_attached_as, params_as, function_as, parse_function}
use Rattle.itanium_reader.specs.Parser.{cv_as, vendor_as, type_as, parse_name, parse_args, parse_type}
use Rattle.itanium_demangle.specs.Meaning.{state_at}
use Rattle.itanium_demangle.proofs.Shapes.{one_more}
use Rattle.itanium_demangle.proofs.Fitting.{met_passed}
use Rattle.itanium_demangle.proofs.Readings.{Within, NamesComplete, NamesSound, ArgsComplete, ArgsSound, TypesComplete, TypesSound}
use Rattle.itanium_demangle.proofs.CompleteTypes.{type_as_met, types_complete_at}
use Rattle.itanium_demangle.proofs.SoundLists.{typed_params_sound}
use Rattle.itanium_demangle.proofs.SoundNames.{attached_sound, substitution_sound, template_param_sound, source_is}

type_attached_sound : (d : ℕ) → ArgsSound d → (case : AttachedCase) (x : Context) (t : Tree) (p : Position) (e m : ℕ) (y : Shape × ParserState)
    → type_attached_as case (parse_args d x false) (shape_of t) (state_at p e m) ≡ Some y → Within (TypeAttachedAs case x t p) d
type_attached_sound d lists NoneAttached x t p e m y is = record { tree = _; next = _; cost = _; reading = none_attached_to_type; deep = omega arith }
type_attached_sound d lists ArgsAttached x t p e m y is =
    option_and_then_some _ (attached_by (parse_args d x false) (shape_of t) (state_at p e m)) y is (λ z list _.
    let a = (attached_sound d lists x false t p e m z list).within in
    record { tree = _; next = _; cost = _; reading = args_attached_to_type a.reading; deep = omega (arith, a.deep) })

-- a step that may not exist, exists where it has an answer
plain_sound : (ret v : Shape) → opening_step ret ≡ Some v → is_plain ret.form ≡ true
plain_sound ret v is = (cond_some (is_plain ret.form) _ v is).0

array_sound : (dimension : Option ℕ) (elem v : Shape) → array_step dimension elem ≡ Some v → may_be_element elem.form ≡ true
array_sound dimension elem v is = (cond_some (may_be_element elem.form) _ v is).0

member_sound : (class member v : Shape) → member_pointer_step class member ≡ Some v → may_be_member member.form ≡ true
member_sound class member v is = (cond_some (may_be_member member.form) _ v is).0

vendor_sound : (case : AttachedCase) (t : Shape) (s : ParserState) (y : Shape × ParserState) → vendor_as case t s ≡ Some y → case ≡ NoneAttached
vendor_sound NoneAttached t s y is = refl
vendor_sound ArgsAttached t s y is = cc

module _ (d : ℕ) (complete : TypesComplete d) (kinds : TypesSound d) where
  function_as_sound : (case : FunctionCase) (x : Context) (quals : Quals) (p : Position) (e m : ℕ) (y : Shape × ParserState) → function_case p.rest ≡ case
      → function_as case (parse_type d x) quals (state_at p e m) ≡ Some y → Within (Function x quals p) d
  function_as_sound ExternFunction x quals p e m y case is = cc
  function_as_sound PlainFunction x quals p e m y case is =
      option_and_then_some _ (parse_type d x (state_at (skip 1 p) e m)) y is (λ z ret more.
      let found = kinds x (skip 1 p) e m z ret in
      let i = found.within in
      let there = rw found.is at more in
      option_and_then_some _ (opening_step (shape_of i.tree)) y there (λ opened begun follows.
      option_and_then_some _ (params_as (params_case i.next.rest) true (parse_type d x) opened (state_at i.next (e + i.cost.count) (max m i.cost.peak))) y follows (λ v params _.
      let o = (typed_params_sound true d complete kinds (params_case i.next.rest) x opened i.next (e + i.cost.count) (max m i.cost.peak) v params).within in
      let plain = plain_sound (shape_of i.tree) opened begun in
      record { tree = _; next = _; cost = _; reading = function case i.reading o.reading plain; deep = omega (arith, i.deep, o.deep) })))

  function_sound : (x : Context) (quals : Quals) (p : Position) (e m : ℕ) (y : Shape × ParserState)
      → parse_function (parse_type d x) quals (state_at p e m) ≡ Some y → Within (Function x quals p) d
  function_sound x quals p e m y is = function_as_sound (function_case p.rest) x quals p e m y refl is

  cv_sound : (case : CvCase) (x : Context) (quals : Quals) (p : Position) (e m : ℕ) (y : Shape × ParserState)
      → cv_as case (parse_type d x) quals (state_at p e m) ≡ Some y → Within (CvAs case x quals p) d
  cv_sound CvFunction x quals p e m y is =
      let i = function_sound x quals p e m y is in record { tree = _; next = _; cost = _; reading = cv_function i.reading; deep = i.deep }
  cv_sound CvOther x quals p e m y is =
      option_and_then_some _ (parse_type d x (state_at p e m)) y is (λ z inner _.
      let i = (kinds x p e m z inner).within in record { tree = _; next = _; cost = _; reading = cv_other i.reading; deep = i.deep })

type_as_sound : (d : ℕ) → TypesComplete d → TypesSound d → NamesSound d → ArgsSound d → (case : TypeCase) (x : Context) (p : Position) (e m : ℕ) (y : Shape × ParserState)
    → type_as case (parse_type d x) (parse_name d x) (parse_args d x false) x (state_at p e m) ≡ Some y → Within (TypeAs case x p) d
type_as_sound d complete kinds names lists BuiltinType x p e m y is = record { tree = _; next = _; cost = _; reading = builtin_type; deep = omega arith }
type_as_sound d complete kinds names lists ExpansionType x p e m y is =
    option_and_then_some _ (parse_type d x (state_at (skip 2 p) e m)) y is (λ z inner _.
    let i = (kinds x (skip 2 p) e m z inner).within in record { tree = _; next = _; cost = _; reading = expansion_type i.reading; deep = omega (arith, i.deep) })
type_as_sound d complete kinds names lists VendorType x p e m y is =
    option_and_then_some _ (parse_source (state_at (skip 1 p) e m)) y is (λ z first more.
    option_and_then_some _ (source_name (drop 1 p.rest)) z first (λ b found made.
    let there = rw (source_is (skip 1 p) e m z b made) at more in
    let case = vendor_sound (attached_case b.1) (shape_of (plain_text (source_text b.0))) (state_at (with_rest b.1 p) e m) y there in
    record { tree = _; next = _; cost = _; reading = vendor_type found case; deep = omega arith }))
type_as_sound d complete kinds names lists ArrayType x p e m y is =
    option_and_then_some _ (optional_number (drop 1 p.rest)) y is (λ n found more.
    option_and_then_some _ (parse_type d x (state_at (with_rest n.1 p) e m)) y more (λ z elem ends.
    let inner = kinds x (with_rest n.1 p) e m z elem in
    let i = inner.within in
    let there = rw inner.is at ends in
    option_and_then_some _ (array_step n.0 (shape_of i.tree)) y there (λ w made _.
    record { tree = _; next = _; cost = _; reading = array_type found i.reading (array_sound n.0 (shape_of i.tree) w made); deep = omega (arith, i.deep) })))
type_as_sound d complete kinds names lists FunctionType x p e m y is =
    option_and_then_some _ (parse_function (parse_type d x) no_quals (state_at p e m)) y is (λ z found _.
    let i = function_sound d complete kinds x no_quals p e m z found in record { tree = _; next = _; cost = _; reading = function_type i.reading; deep = omega (arith, i.deep) })
type_as_sound d complete kinds names lists PointerToMemberType x p e m y is =
    option_and_then_some _ (parse_type d x (state_at (skip 1 p) e m)) y is (λ z class more.
    let first = kinds x (skip 1 p) e m z class in
    let i = first.within in
    let there = rw first.is at more in
    option_and_then_some _ (parse_type d x (state_at i.next (e + i.cost.count) (max m i.cost.peak))) y there (λ v inner ends.
    let second = kinds x i.next (e + i.cost.count) (max m i.cost.peak) v inner in
    let o = second.within in
    let here = rw second.is at ends in
    option_and_then_some _ (member_pointer_step (shape_of i.tree) (shape_of o.tree)) y here (λ w made _.
    record { tree = _; next = _; cost = _; reading = pointer_to_member_type i.reading o.reading (member_sound (shape_of i.tree) (shape_of o.tree) w made); deep = omega (arith, i.deep, o.deep) })))
type_as_sound d complete kinds names lists (PointerType kind) x p e m y is =
    option_and_then_some _ (parse_type d x (state_at (skip 1 p) e m)) y is (λ z inner _.
    let i = (kinds x (skip 1 p) e m z inner).within in record { tree = _; next = _; cost = _; reading = pointer_type i.reading; deep = omega (arith, i.deep) })
type_as_sound d complete kinds names lists CvType x p e m y is =
    option_and_then_some _ (cv_as (cv_case (past_cv p.rest)) (parse_type d x) (cv_quals p.rest) (state_at (with_rest (past_cv p.rest) p) e m)) y is (λ z found _.
    let i = cv_sound d complete kinds (cv_case (past_cv p.rest)) x (cv_quals p.rest) (with_rest (past_cv p.rest) p) e m z found in
    record { tree = _; next = _; cost = _; reading = cv_type i.reading; deep = omega (arith, i.deep) })
type_as_sound d complete kinds names lists ElaboratedType x p e m y is =
    option_and_then_some _ (parse_name d x (state_at (skip 2 p) e m)) y is (λ z inner _.
    let i = (names x (skip 2 p) e m z inner).within in record { tree = _; next = _; cost = _; reading = elaborated_type i.reading; deep = omega (arith, i.deep) })
type_as_sound d complete kinds names lists UnreadableType x p e m y is = cc
type_as_sound d complete kinds names lists TemplateParamType x p e m y is =
    option_and_then_some _ (saved_template_param x (state_at p e m)) y is (λ v saved more.
    option_and_then_some _ (parse_template_param x (state_at p e m)) v saved (λ z found made.
    let i = template_param_sound x p e m z found in
    let is_v : v ≡ (shape_of i.tree, state_at (save i.tree i.next) e (max m (length (map shape_of i.next.saved) + 1))) =
    sym (same_Some _ _ (rw (i.is, one_more i.next.saved i.tree) at made)) in
    let l = type_attached_sound d lists (attached_case i.next.rest) x i.tree (save i.tree i.next) e (max m (length (map shape_of i.next.saved) + 1)) y (rw is_v at more) in
    record { tree = _; next = _; cost = _; reading = template_param_type i.reading l.reading; deep = omega (arith, l.deep) }))
type_as_sound d complete kinds names lists SubstitutionType x p e m y is =
    option_and_then_some _ (parse_substitution (state_at p e m)) y is (λ z found more.
    let i = substitution_sound p e m z found in
    let l = type_attached_sound d lists (attached_case i.next.rest) x i.tree i.next e m y (rw i.is at more) in
    record { tree = _; next = _; cost = _; reading = substitution_type i.reading l.reading; deep = l.deep })
type_as_sound d complete kinds names lists NameType x p e m y is =
    option_and_then_some _ (parse_name d x (state_at p e m)) y is (λ z inner _.
    let i = (names x p e m z inner).within in record { tree = _; next = _; cost = _; reading = name_type i.reading; deep = omega (arith, i.deep) })

pub types_sound_at : (d : ℕ) → TypesComplete d → NamesComplete d → ArgsComplete d → TypesSound d → NamesSound d → ArgsSound d → TypesSound (suc d)
unfolding parse_type parse_name
types_sound_at d complete names_are lists_are kinds names lists x p e m y is =
    option_and_then_some _ (type_as (type_case p.rest) (parse_type d (inside_type x)) (parse_name d (inside_type x))
    (parse_args d (inside_type x) false) (inside_type x) (state_at p (e + 1) m)) y is (λ z read through.
    let r = type_as_sound d complete kinds names lists (type_case p.rest) (inside_type x) p (e + 1) m z read in
    let narrow = met_passed (type_as_met d complete names_are lists_are r.reading r.deep (e + 1) m) read through in
    let w : Within (TypeOf x p) (suc d) = record { tree = _; next = _; cost = _; reading = type r.reading; deep = omega (arith, r.deep, narrow) } in
    record { within = w; is = same_Some _ _ (sym is ∙ types_complete_at d complete names_are lists_are x _ _ _ _ w.reading w.deep e m) })
