-- Of types: what the grammar reads, the parser reads.
use Rattle.std.proofs.Common.{◌≡◌, ◌≤◌, ◌∙◌, ℕ, suc, ◌+◌, max, true, false, map, length, refl, sym, subst, arith}
use Rattle.std.proofs.lemmas.List.{length-map}
use Rattle.demangle_text.specs.Shape.{Shape, text_len}
use Rattle.demangle_quals.specs.declared.quals.Quals.{Quals}
use Rattle.demangle_edit.specs.Built.{listed_each, function_opened}
use Rattle.demangle_edit.proofs.Cuts.{function_built}
use Rattle.itanium_syntax.specs.declared.context.Context.{Context}
use Rattle.abi_scalars.specs.Scalars.{source_text}
use Rattle.itanium_syntax.specs.Types.{builtin_text, elaborated_text, with_reference}
use Rattle.itanium_grammar.specs.Tree.{Tree, plain_text, with_args, pointer_to, array_of, member_of, elaborated, expanded, trees, shape_of}
use Rattle.itanium_grammar.specs.Grammar.{Position, Cost, TypeAs, CvAs, Function, TypeAttachedAs, type, builtin_type}
use Rattle.itanium_grammar.specs.Grammar.{expansion_type, vendor_type, array_type, function_type, pointer_to_member_type}
use Rattle.itanium_grammar.specs.Grammar.{pointer_type, cv_type, elaborated_type, template_param_type, substitution_type}
use Rattle.itanium_grammar.specs.Grammar.{name_type, cv_function, cv_other, function, none_attached_to_type}
use Rattle.itanium_grammar.specs.Grammar.{args_attached_to_type}
use Rattle.itanium_grammar.specs.Cases.{TypeCase, CvCase, AttachedCase}
use Rattle.itanium_reader.specs.Parser.{parse_function, cv_as, type_attached_as, type_as, parse_name, parse_args, parse_type}
use Rattle.itanium_demangle.specs.Meaning.{state_at}
use Rattle.itanium_demangle.proofs.Shapes.{same_read, one_more, shape-plain_text, shape-with_args, shape-pointer_to}
use Rattle.itanium_demangle.proofs.Shapes.{shape-cv_of, shape-array_of, shape-member_of, shape-function_to}
use Rattle.itanium_demangle.proofs.Shapes.{shape-elaborated, shape-expanded}
use Rattle.itanium_demangle.proofs.CompleteLists.{typed_params_met}
use Rattle.itanium_demangle.proofs.CompleteNames.{substitution_complete, template_param_complete}
use Rattle.itanium_demangle.proofs.Fitting.{Met, met, met_then, met_as, met_fits}
use Rattle.itanium_demangle.proofs.Grows.{function_longer}
use Rattle.itanium_demangle.proofs.Readings.{Small, reached, given, NamesComplete, ArgsComplete, TypesComplete}

module _ (d : ℕ) (kinds : TypesComplete d) where
  pub function_met : {x : Context} {quals : Quals} {p q : Position} {t : Tree} {c : Cost} → Function x quals p t q c → Small d c → (e m : ℕ)
      → Met text_len (parse_function (parse_type d x) quals (state_at p e m)) (reached shape_of t q c e m)
  function_met (function {r = r} {t = t} {ts = ts} {c = c} {quals = quals} plain a b there) deep e m =
      let all = with_reference quals r.rest in
      let opened = function_opened (shape_of t) in
      let list = listed_each true opened (map shape_of ts) in
      let whole = function_built (shape_of t) (map shape_of ts) all ∙ sym (shape-function_to t ts all) in
      rw (plain, kinds _ _ _ _ _ a (omega arith) e m, there)
      (met_then _ (typed_params_met true d kinds b (omega arith) (e + c.count) (max m c.peak) opened)
      (subst (λ (s : Shape). text_len list ≤ text_len s) whole (function_longer (text_len (shape_of t)) all list))
      (met (same_read whole refl refl (omega arith) (omega arith))))

  pub cv_met : {case : CvCase} {x : Context} {quals : Quals} {p q : Position} {t : Tree} {c : Cost} → CvAs case x quals p t q c → Small d c → (e m : ℕ)
      → Met text_len (cv_as case (parse_type d x) quals (state_at p e m)) (reached shape_of t q c e m)
  cv_met (cv_function a) deep e m = function_met a deep e m
  cv_met (cv_other {t = t} {quals = quals} a) deep e m = met (rw (kinds _ _ _ _ _ a deep e m, ← shape-cv_of quals t) refl)

type_attached_complete : (d : ℕ) → ArgsComplete d → {case : AttachedCase} {x : Context} {t u : Tree} {p q : Position} {c : Cost} → TypeAttachedAs case x t p u q c → Small d c → (e m : ℕ)
    → type_attached_as case (parse_args d x false) (shape_of t) (state_at p e m) ≡ given shape_of u q c e m
type_attached_complete d lists none_attached_to_type deep e m = same_read refl refl refl (omega arith) (omega arith)
type_attached_complete d lists (args_attached_to_type {q = q} {t = t} {ts = ts} a) deep e m =
    rw (lists _ _ _ _ _ _ a (omega arith) e m, ← shape-with_args t ts)
    (same_read refl (one_more q.saved (with_args t (trees ts))) refl (omega arith) (omega (arith, length-map q.saved shape_of)))

pub type_as_met : (d : ℕ) → TypesComplete d → NamesComplete d → ArgsComplete d → {case : TypeCase} {x : Context} {p q : Position} {t : Tree} {c : Cost} → TypeAs case x p t q c → Small d c → (e m : ℕ)
    → Met text_len (type_as case (parse_type d x) (parse_name d x) (parse_args d x false) x (state_at p e m)) (reached shape_of t q c e m)
type_as_met d kinds names lists (builtin_type {p = p}) deep e m =
    met (same_read (sym (shape-plain_text (builtin_text p.rest))) refl refl (omega arith) (omega arith))
type_as_met d kinds names lists (expansion_type {x = x} {q = q} {t = t} a) deep e m =
    met (rw (kinds _ _ _ _ _ a (omega arith) e m, ← shape-expanded x.dots_hidden t)
    (same_read refl (one_more q.saved (expanded x.dots_hidden t)) refl (omega arith) (omega (arith, length-map q.saved shape_of))))
type_as_met d kinds names lists (vendor_type {p = p} {bytes = b} found none) deep e m =
    met (rw (found, none, ← shape-plain_text (source_text b)) (same_read refl (one_more p.saved (plain_text (source_text b))) refl (omega arith) (omega (arith, length-map p.saved shape_of))))
type_as_met d kinds names lists (array_type {q = q} {t = t} {dimension = n} found a there) deep e m =
    met (rw (found, kinds _ _ _ _ _ a (omega arith) e m, there, ← shape-array_of n t)
    (same_read refl (one_more q.saved (array_of n t)) refl (omega arith) (omega (arith, length-map q.saved shape_of))))
type_as_met d kinds names lists (function_type {q = q} {t = t} a) deep e m =
    met_then _ (function_met d kinds a (omega arith) e m) (omega arith) (met (same_read refl (one_more q.saved t) refl (omega arith) (omega (arith, length-map q.saved shape_of))))
type_as_met d kinds names lists (pointer_to_member_type {r = r} {t = t} {u = u} {c = c} a b there) deep e m =
    met (rw (kinds _ _ _ _ _ a (omega arith) e m, kinds _ _ _ _ _ b (omega arith) (e + c.count) (max m c.peak), there, ← shape-member_of t u)
    (same_read refl (one_more r.saved (member_of t u)) refl (omega arith) (omega (arith, length-map r.saved shape_of))))
type_as_met d kinds names lists (pointer_type {q = q} {t = t} {kind = kind} a) deep e m =
    met (rw (kinds _ _ _ _ _ a (omega arith) e m, ← shape-pointer_to kind t)
    (same_read refl (one_more q.saved (pointer_to kind t)) refl (omega arith) (omega (arith, length-map q.saved shape_of))))
type_as_met d kinds names lists (cv_type {q = q} {t = t} a) deep e m =
    met_then _ (cv_met d kinds a (omega arith) e m) (omega arith) (met (same_read refl (one_more q.saved t) refl (omega arith) (omega (arith, length-map q.saved shape_of))))
type_as_met d kinds names lists (elaborated_type {p = p} {q = q} {t = t} a) deep e m =
    met (rw (names _ _ _ _ _ a (omega arith) e m, ← shape-elaborated (elaborated_text p.rest) t)
    (same_read refl (one_more q.saved (elaborated (elaborated_text p.rest) t)) refl (omega arith) (omega (arith, length-map q.saved shape_of))))
type_as_met d kinds names lists (template_param_type {q = q} {t = t} a b) deep e m =
    met (rw (template_param_complete a e m, one_more q.saved t, type_attached_complete d lists b (omega arith) e (max m (length (map shape_of q.saved) + 1)))
    (same_read refl refl refl (omega arith) (omega (arith, length-map q.saved shape_of))))
type_as_met d kinds names lists (substitution_type {p = p} a b) deep e m =
    met (rw (substitution_complete p a e m, type_attached_complete d lists b deep e m) refl)
type_as_met d kinds names lists (name_type {q = q} {t = t} a) deep e m =
    met (rw (names _ _ _ _ _ a (omega arith) e m) (same_read refl (one_more q.saved t) refl (omega arith) (omega (arith, length-map q.saved shape_of))))

pub types_complete_at : (d : ℕ) → TypesComplete d → NamesComplete d → ArgsComplete d → TypesComplete (suc d)
unfolding parse_type parse_name
types_complete_at d kinds names lists x p q t c (type a) deep e m =
    met_fits (met_as (type_as_met d kinds names lists a (omega arith) (e + 1) m) (same_read refl refl refl (omega arith) refl)) (omega arith)
