use Rattle.std.proofs.Common.{rules, codes, length, Bool, if◌then◌else◌, ◌<◌, [], nat_eq, ℕ, ◌≡◌, ◌+◌, ◌++◌, true, false, Option, List, sym, subst, ap, ◌∙◌, arith}
use Rattle.std.proofs.Math.ListN.{get_or}
use Rattle.std.specs.List.{AllByRecursion}
use Rattle.cxx_tree.specs.Stored.{forest, tree_at, trees_at, parts_of, list_at, tree_of, plain_tree, declaration_tree, IsPlainBelow, text_at, trees_in, parts_in, size, IsPartBelow}
use Rattle.cxx_printer.specs.Asked.{item}
use Rattle.cxx_printer.specs.declared.env.Env.{Env}
use Rattle.cxx_printer.specs.Print.{items_of, print, print_parts, whole, sequence, separated, declared, head, repeated, expansion_text, blank_unless, angles, collapsed, operand, parenthesized}
use Rattle.cxx_tree.specs.declared.kinds.Prec.TheVariants.{Comma}
use Rattle.cxx_tree.specs.Tree.{named}
use Rattle.cxx_tree.specs.Measure.{measure, measure_parts}
use Rattle.cxx_tree.specs.declared.node.Declaration.{Declaration}
use Rattle.cxx_printer.proofs.Heights.{items_height, plain_height, run_height, item_height, part_falls, phrase_height}
use Rattle.cxx_printer.specs.Words.{cv_text, enclosed, in_angle, mark}
use Rattle.cxx_printer.proofs.Appended.{prints_then, prints_nothing}
use Rattle.cxx_printer.proofs.Symbols.{prints_three}
use Rattle.cxx_printer.proofs.Declarators.{same-sides, signature-alone, whole-plain-pointer, whole-cv-pointer, whole-plain-reference, whole-cv-reference}
use Rattle.cxx_printer.proofs.Items.{scoped_item, pointer_item, reference_item, name_item, leaf_item, items_step}
use Rattle.cxx_printer.proofs.Turns.{so_far_step, added_twice, so_far_end, list_end, sequence_step, sequence_end, separated_step, separated_end, repeated_step, repeated_end, parts_step}
use Rattle.cxx_printer.specs.Prints.{Prints}
use Rattle.cxx_printer.proofs.Packs.{below_at, in_parts, refers-none, left-none, right-none}
use Rattle.cxx_printer.proofs.print.+printer.Goals as goal

pub print_list-loop-t-preserved : goal.print_list-loop-t-preserved
print_list-loop-t-preserved t c =
    let first = ap (λ (n : ℕ). nat_eq n c.len-start.result) c.len.ensures.value ∙ ap (nat_eq (length c.loop-t.out)) c.len-start.ensures.value in
    items_step (forest c.args.arena.now) c.args.items.now c.args.env c.args.out.now c.loop-t.out c.print_item.new.out _ _ c.loop-t.t-index 0
    first c.loop-t-test.true c.loop-t.invariant (c.in-Ok.ensures {u = tt}).prints

pub print_list-returns : goal.print_list-returns
print_list-returns t c =
    record { prints = so_far_end c.args.out.now c.loop-t.out _ _ c.loop-t.invariant.0 (list_end (forest c.args.arena.now) c.args.items.now c.args.env (nat_eq (length c.loop-t.out) (length c.args.out.now)) c.loop-t.t-index (omega (arith, c.loop-t-test.false))) }

pub print_declarations-returns : goal.print_declarations-returns
print_declarations-returns t c =
    let s = c.args.arena.now in
    let r = c.write-2.result in
    let new = c.write-2.new.out in
    let env = in_angle c.args.env in
    let is = c.items-t-items.result.now in
    let end = separated_end declared (forest s) is env c.loop-t.is_first c.loop-t.t-index (omega (arith, c.loop-t-test.false)) in
    let all = prints_three r c.args.out.now c.write.new.out c.loop-t.out new (codes "<") _ (codes ">") c.in-Ok.ensures.prints (so_far_end c.write.new.out c.loop-t.out _ _ c.loop-t.invariant end) c.write-2.ensures.prints in
    let text = λ (js : List ℕ). codes "<" ++ (separated declared true env (items_of (trees_at (forest s) js)) ++ codes ">") in
    record {
      prints = subst (λ (b : Bool). Prints r c.args.out.now new (if b then angles c.args.env (items_of (trees_in s.held (forest s) c.args.list)) else text (list_at s.held c.args.list)))
          (sym c.if-is_llvm.false ∙ c.is_llvm.ensures.value) (subst (λ (js : List ℕ). Prints r c.args.out.now new (text js)) c.items-t-items.ensures.value all);
    }

pub print_template_head-returns : goal.print_template_head-returns
print_template_head-returns t c =
    let end = separated_end head (forest c.args.arena.now) c.args.items.now c.args.env c.loop-t.is_first c.loop-t.t-index (omega (arith, c.loop-t-test.false)) in
    record {
      prints = prints_three c.write-2.result c.args.out.now c.write.new.out c.loop-t.out c.write-2.new.out (codes "template<") _ (codes "> class") c.in-Ok.ensures.prints
          (so_far_end c.write.new.out c.loop-t.out _ _ c.loop-t.invariant end) c.write-2.ensures.prints;
    }

pub print_sequence-loop-t-preserved : goal.print_sequence-loop-t-preserved
print_sequence-loop-t-preserved t c =
    so_far_step c.args.out.now _ _ (sequence c.args.env (items_of (trees_at (forest c.args.arena.now) c.args.items.now))) _ _ _ c.loop-t.invariant (sequence_step _ _ _ _ 0 c.loop-t-test.true) (c.in-Ok.ensures {u = tt}).prints

pub print_sequence-returns : goal.print_sequence-returns
print_sequence-returns t c =
    record { prints = so_far_end c.args.out.now c.loop-t.out _ _ c.loop-t.invariant (sequence_end (forest c.args.arena.now) c.args.items.now c.args.env c.loop-t.t-index (omega (arith, c.loop-t-test.false))) }

pub print_parts-loop-part-preserved : goal.print_parts-loop-part-preserved
print_parts-loop-part-preserved t c =
    so_far_step c.args.out.now _ _ ((print_parts (parts_of c.args.arena.now.held (forest c.args.arena.now) c.parts_of-list.result.now) c.args.env).text) _ _ _ c.loop-part.invariant
    (parts_step c.args.arena.now.held (forest c.args.arena.now) c.parts_of-list.result.now c.args.env c.loop-part.part-index _ c.loop-part-test.true) (c.in-Ok.ensures {u = tt}).prints

pub left_reference-returns-in-None : goal.left_reference-returns-in-None
left_reference-returns-in-None t c =
    let p = print (tree_at (forest c.args.arena.now) c.args.t) c.args.env in
    let none = refers-none c.referent_of-referent.result.base p.base (λ j. print (tree_at (forest c.args.arena.now) j) c.args.env) c.in-None.is c.referent_of-referent.ensures.base in
    let marked = ap mark c.referent_of-referent.ensures.kind in
    record {
      prints = subst (λ (l : List ℕ). Prints c.write_mark.result c.args.out.now c.write_mark.new.out l) (marked ∙ sym (left-none p.base (mark (collapsed c.args.is_lvalue p.kind)) none)) c.write_mark.ensures.prints;
    }

pub right_reference-returns-in-None : goal.right_reference-returns-in-None
right_reference-returns-in-None t c =
    let p = print (tree_at (forest c.args.arena.now) c.args.t) c.args.env in
    let none = refers-none c.referent_of.result.base p.base (λ j. print (tree_at (forest c.args.arena.now) j) c.args.env) c.in-None.is c.referent_of.ensures.base in
    record { prints = prints_nothing tt c.args.out.now _ (right-none p.base none) }

pub print_list-print_item-requires : goal.print_list-print_item-requires
print_list-print_item-requires t c =
    let s = c.args.arena.now in
    let is = c.args.items.now in
    let lower = item_height s is c.loop-t.t-index 0 c.loop-t-test.true in
    (omega (arith, lower), below_at (size s) is c.loop-t.t-index 0 c.requires.below c.loop-t-test.true)

pub print_sequence-print-requires : goal.print_sequence-print-requires
print_sequence-print-requires t c =
    let s = c.args.arena.now in
    let is = c.args.items.now in
    let lower = item_height s is c.loop-t.t-index 0 c.loop-t-test.true in
    (omega (arith, lower), below_at (size s) is c.loop-t.t-index 0 c.requires.below c.loop-t-test.true)

pub print_parts-print_part-requires : goal.print_parts-print_part-requires
print_parts-print_part-requires t c =
    let s = c.args.arena.now in
    let ps = c.parts_of-list.result.now in
    let e = c.parts_of-list.ensures.value in
    let high = ap (run_height s) e in (
      part_falls s ps c.loop-part.part-index _ t c.loop-part-test.true (omega (arith, high)),
      in_parts s.held (size s) ps c.loop-part.part-index _ (subst (AllByRecursion (IsPartBelow s.held (size s))) (sym e) c.requires.parts.1) c.loop-part-test.true,
    )

pub print_plain-print_phrase-requires : goal.print_plain-print_phrase-requires
unfolding plain_tree IsPlainBelow measure
print_plain-print_phrase-requires t c =
    let s = c.args.arena.now in
    let ps = parts_in s.held (forest s) c.in-Phrase.parts in
    let e : plain_height s c.args.plain.now ≡ (measure_parts c.in-Phrase.phrase.is_reversed ps).height + 1 = ap (plain_height s) c.in-Phrase.is in
    let same = phrase_height c.in-Phrase.phrase.is_reversed ps in
    (omega (arith, e, same), subst (IsPlainBelow s.held (size s)) c.in-Phrase.is c.requires.below)

pub print_declarations-loop-t-preserved : goal.print_declarations-loop-t-preserved
print_declarations-loop-t-preserved t c =
    let ts = forest c.args.arena.now in
    let is = c.items-t-items.result.now in
    let printed = (c.in-Ok-print_declared.ensures {u = tt}).prints ∙ ap (λ (e : Env). c.write_separator.new.out ++ declared (print (tree_at ts (get_or is c.loop-t.t-index 0)) e)) c.in_angle.ensures.value in
    so_far_step c.write.new.out _ _ (separated declared true (in_angle c.args.env) (items_of (trees_at ts is))) _ _ _ c.loop-t.invariant (separated_step declared _ _ _ _ _ 0 c.loop-t-test.true)
    (added_twice _ _ _ _ _ (c.in-Ok-write_separator.ensures {u = tt}).prints printed)

pub print_template_head-loop-t-preserved : goal.print_template_head-loop-t-preserved
print_template_head-loop-t-preserved t c =
    so_far_step c.write.new.out _ _ (separated head true c.args.env (items_of (trees_at (forest c.args.arena.now) c.args.items.now))) _ _ _ c.loop-t.invariant (separated_step head _ _ _ _ _ 0 c.loop-t-test.true)
    (added_twice _ _ _ _ _ (c.in-Ok-write_separator.ensures {u = tt}).prints (c.in-Ok-print_head.ensures {u = tt}).prints)

pub print_declarations-print_declared-requires : goal.print_declarations-print_declared-requires
print_declarations-print_declared-requires t c =
    let s = c.args.arena.now in
    let is = c.items-t-items.result.now in
    let lower = item_height s is c.loop-t.t-index 0 c.loop-t-test.true in
    let high = ap (items_height s) c.items-t-items.ensures.value in
    (omega (arith, lower, high), below_at (size s) is c.loop-t.t-index 0 (subst (AllByRecursion (λ t. t < size s)) (sym c.items-t-items.ensures.value) c.requires.below.1) c.loop-t-test.true)

pub print_template_head-print_head-requires : goal.print_template_head-print_head-requires
print_template_head-print_head-requires t c =
    let s = c.args.arena.now in
    let is = c.args.items.now in
    let lower = item_height s is c.loop-t.t-index 0 c.loop-t-test.true in
    (omega (arith, lower), below_at (size s) is c.loop-t.t-index 0 c.requires.below c.loop-t-test.true)

pub print_signature-returns : goal.print_signature-returns
print_signature-returns t c =
    let s = c.args.arena.now in
    let f = c.args.encoding.now in
    let params = items_of (trees_in s.held (forest s) f.params) in
    let rest = print_parts (parts_in s.held (forest s) f.clauses) c.args.env in
    let name = whole (print (tree_at (forest s) f.name) c.args.env) in
    record {
      prints = subst (λ (l : List ℕ). Prints c.print_qualifiers.result c.args.out.now c.print_qualifiers.new.out (name ++ l))
          (sym (signature-alone c.args.env params f.cv f.ref_qual rest))
          (prints_three c.print_qualifiers.result c.args.out.now c.print.new.out c.print_parens.new.out c.print_qualifiers.new.out name _ _ c.in-Ok.ensures.prints c.in-Ok-print_parens.ensures.prints
          c.print_qualifiers.ensures.prints);
    }

pub print_item-returns-in-Plain-Name : goal.print_item-returns-in-Plain-Name
unfolding tree_of plain_tree
print_item-returns-in-Plain-Name t c =
    let h = c.args.arena.now.held in
    let ts = forest c.args.arena.now in
    let m = c.in-Plain-Name in
    let e = c.node_at.ensures.tree ∙ ap (tree_of h ts) m.is ∙ ap (plain_tree h ts) (rw m.is at m.field-0-is) in
    record {
      prints = name_item c.write_item.result c.args.out.now c.write_item.new.out c.bytes.result.now (text_at h m.text) c.args.is_first c.args.env (tree_at ts c.args.t)
          e c.bytes.ensures.value c.write_item.ensures.prints;
    }

pub print_item-returns-in-Plain-Leaf : goal.print_item-returns-in-Plain-Leaf
unfolding tree_of plain_tree
print_item-returns-in-Plain-Leaf t c =
    let h = c.args.arena.now.held in
    let ts = forest c.args.arena.now in
    let m = c.in-Plain-Leaf in
    let e = c.node_at.ensures.tree ∙ ap (tree_of h ts) m.is ∙ ap (plain_tree h ts) (rw m.is at m.field-0-is) in
    record {
      prints = leaf_item c.write_item-in-Plain-Leaf.result c.args.out.now c.write_item-in-Plain-Leaf.new.out c.styled_bytes.result.now (text_at h m.llvm) (text_at h m.gnu) m.field-0-0
          c.args.is_first c.args.env (tree_at ts c.args.t) e c.styled_bytes.ensures.value c.write_item-in-Plain-Leaf.ensures.prints;
    }

pub print_item-returns-in-Plain-ScopedName : goal.print_item-returns-in-Plain-ScopedName
unfolding tree_of plain_tree
print_item-returns-in-Plain-ScopedName t c =
    let h = c.args.arena.now.held in
    let ts = forest c.args.arena.now in
    let m = c.in-Plain-ScopedName in
    let e = c.node_at.ensures.tree ∙ ap (tree_of h ts) m.is ∙ ap (plain_tree h ts) (rw m.is at m.field-0-is) in
    record {
      prints = scoped_item c.print_scoped_name.result c.args.out.now c.try_separator.new.out c.print_scoped_name.new.out c.try_separator.result c.args.is_first c.args.env (tree_at ts c.args.t)
          (tree_at ts m.scope) (named (text_at h m.name)) c.if-try_separator.true c.try_separator.ensures.value e c.print_scoped_name.ensures.prints;
    }

pub print_item-returns-in-Pointer : goal.print_item-returns-in-Pointer
unfolding tree_of
print_item-returns-in-Pointer t c =
    let ts = forest c.args.arena.now in
    let e = c.node_at.ensures.tree ∙ ap (tree_of c.args.arena.now.held ts) c.in-Pointer.is in
    record {
      prints = pointer_item c.print_pointer.result c.args.out.now _ c.print_pointer.new.out _ c.args.is_first c.args.env (tree_at ts c.args.t)
          (tree_at ts c.in-Pointer.u) c.if-try_separator-3.true (search rules) e c.print_pointer.ensures.prints;
    }

pub print_item-returns-in-Reference : goal.print_item-returns-in-Reference
unfolding tree_of
print_item-returns-in-Reference t c =
    let ts = forest c.args.arena.now in
    let e = c.node_at.ensures.tree ∙ ap (tree_of c.args.arena.now.held ts) c.in-Reference.is in
    record {
      prints = reference_item c.print_reference.result c.args.out.now _ c.print_reference.new.out _ c.args.is_first c.args.env (tree_at ts c.args.t)
          (tree_at ts c.in-Reference.u) c.in-Reference.is_lvalue c.if-try_separator-4.true (search rules) e c.print_reference.ensures.prints;
    }

pub print_expansion-loop-k-preserved : goal.print_expansion-loop-k-preserved
print_expansion-loop-k-preserved t c =
    let x = item (tree_at (forest c.args.arena.now) c.args.t) in
    let printed = (c.in-Ok-print.ensures {u = tt}).prints ∙ ap (λ (e : Env). c.write_separator.new.out ++ whole (x.printed e)) c.at-in-loop-k.ensures.value in
    so_far_step c.args.out.now _ _ (repeated c.in-Some.n 0 c.args.env x) _ _ _ c.loop-k.invariant (repeated_step _ _ _ _ c.loop-k-test.true)
    (added_twice _ _ _ _ _ (c.in-Ok-write_separator.ensures {u = tt}).prints printed)

pub print_expansion-returns : goal.print_expansion-returns
print_expansion-returns t c =
    let x = item (tree_at (forest c.args.arena.now) c.args.t) in
    let all = repeated c.in-Some.n 0 c.args.env x in
    let end = repeated_end c.in-Some.n c.loop-k.k c.args.env x (omega (arith, c.loop-k-test.false)) in
    record {
      prints = so_far_end c.args.out.now c.loop-k.out all _ c.loop-k.invariant end
          ∙ ap (λ (o : Option ℕ). c.args.out.now ++ expansion_text c.args.env o x) (sym c.in-Some.is ∙ c.elements.ensures.value);
    }

pub left_declaration-returns-in-Ok-print_angles : goal.left_declaration-returns-in-Ok-print_angles
unfolding print declaration_tree
left_declaration-returns-in-Ok-print_angles t c =
    let s = c.args.arena.now in
    let r = c.write-in-TemplateParam-2.result in
    let new = c.write-in-TemplateParam-2.new.out in
    record {
      prints = subst (λ (d : Declaration). Prints r c.args.out.now new ((print (declaration_tree s.held (forest s) d) c.args.env).text.left)) (sym c.in-TemplateParam.is)
          (prints_three r c.args.out.now c.write-in-TemplateParam.new.out c.print_angles.new.out new (codes "template") _ (codes " typename ") c.in-Ok-write.ensures.prints
          c.in-Ok-print_angles.ensures.prints c.write-in-TemplateParam-2.ensures.prints);
    }

pub right_array-returns : goal.right_array-returns
right_array-returns t c =
    let s = c.args.arena.now in
    let r = c.print_right.result in
    let new = c.print_right.new.out in
    let element = (print (tree_at (forest s) c.args.element) c.args.env).text in
    let dimension = (print_parts (parts_in s.held (forest s) c.args.dimension) c.args.env).text in
    let behind = subst (Prints r c.write-2.new.out new) (ap (λ (l : List ℕ). l ++ element.right) (same-sides element.bracket [])) c.print_right.ensures.prints in
    let bracket =
    prints_three r c.write.new.out c.print_parts.new.out c.write-2.new.out new dimension (codes "]") element.right c.in-Ok-print_parts.ensures.prints c.in-Ok-write-2.ensures.prints behind in
    record {
      prints = prints_three r c.args.out.now c.write_blank_unless.new.out c.write.new.out new (blank_unless c.args.joined) (codes "[") _ c.in-Ok.ensures.prints c.in-Ok-write.ensures.prints bracket;
    }

pub print_pointer-returns-in-Ok : goal.print_pointer-returns-in-Ok
unfolding tree_of
print_pointer-returns-in-Ok t c =
    let h = c.args.arena.now.held in
    let ts = forest c.args.arena.now in
    record {
      prints = subst (λ (l : List ℕ). Prints c.write_byte.result c.args.out.now c.write_byte.new.out l)
          (whole-plain-pointer h ts c.in-Plain.plain (tree_at ts c.args.i) (tree_at ts c.args.t) c.args.env c.requires.tree
          (c.node_at.ensures.tree ∙ ap (tree_of h ts) c.in-Plain.is) c.in_default-plain.not-ObjcProtocol)
          (prints_then c.write_byte.result c.args.out.now _ c.write_byte.new.out _ (codes "*") c.in-Ok.ensures.prints c.write_byte.ensures.prints);
    }

pub print_pointer-returns-in-Ok-print : goal.print_pointer-returns-in-Ok-print
unfolding tree_of
print_pointer-returns-in-Ok-print t c =
    let h = c.args.arena.now.held in
    let ts = forest c.args.arena.now in
    record {
      prints = subst (λ (l : List ℕ). Prints c.write_star.result c.args.out.now c.write_star.new.out l)
          (whole-cv-pointer (tree_at ts c.args.i) (tree_at ts c.args.t) (tree_at ts c.in-Qualified.u) c.in-Qualified.cv c.args.env c.requires.tree
          (c.node_at.ensures.tree ∙ ap (tree_of h ts) c.in-Qualified.is) (c.is_plain.ensures.value c.if-is_plain.true))
          (prints_then c.write_star.result c.args.out.now _ c.write_star.new.out _ (cv_text c.in-Qualified.cv ++ codes "*") c.in-Ok-print.ensures.prints c.write_star.ensures.prints);
    }

pub print_reference-returns-in-Ok : goal.print_reference-returns-in-Ok
unfolding tree_of
print_reference-returns-in-Ok t c =
    let h = c.args.arena.now.held in
    let ts = forest c.args.arena.now in
    record {
      prints = subst (λ (l : List ℕ). Prints c.write_mark.result c.args.out.now c.write_mark.new.out l)
          (whole-plain-reference h ts c.in-Plain.field-0 (tree_at ts c.args.i) (tree_at ts c.args.t) c.args.is_lvalue c.args.env c.requires.tree
          (c.node_at.ensures.tree ∙ ap (tree_of h ts) c.in-Plain.is))
          (prints_then c.write_mark.result c.args.out.now _ c.write_mark.new.out _ (mark c.args.is_lvalue) c.in-Ok.ensures.prints c.write_mark.ensures.prints);
    }

pub print_reference-returns-in-Ok-print : goal.print_reference-returns-in-Ok-print
unfolding tree_of
print_reference-returns-in-Ok-print t c =
    let h = c.args.arena.now.held in
    let ts = forest c.args.arena.now in
    record {
      prints = subst (λ (l : List ℕ). Prints c.write_cv_mark.result c.args.out.now c.write_cv_mark.new.out l)
          (whole-cv-reference (tree_at ts c.args.i) (tree_at ts c.args.t) (tree_at ts c.in-Qualified.u) c.args.is_lvalue c.in-Qualified.cv c.args.env c.requires.tree
          (c.node_at.ensures.tree ∙ ap (tree_of h ts) c.in-Qualified.is) (c.is_plain.ensures.value c.if-is_plain.true))
          (prints_then c.write_cv_mark.result c.args.out.now _ c.write_cv_mark.new.out _ (cv_text c.in-Qualified.cv ++ mark c.args.is_lvalue) c.in-Ok-print.ensures.prints c.write_cv_mark.ensures.prints);
    }

pub print_argument-returns : goal.print_argument-returns
print_argument-returns t c =
    let x = item (tree_at (forest c.args.arena.now) c.args.t) in
    let env = c.args.env in
    let r = c.write-2.result in
    let new = c.write-2.new.out in
    let text =
    prints_three r c.args.out.now c.write.new.out c.print_operand-2.new.out new (codes "(") (operand c.enclosed.result Comma false x) (codes ")") c.in-Ok.ensures.prints
    c.in-Ok-print_operand.ensures.prints c.write-2.ensures.prints in
    record {
      prints = subst (λ (b : Bool). Prints r c.args.out.now new (if b then parenthesized (operand (enclosed env) Comma false x) else operand env Comma true x)) (sym c.if-not-is_llvm.false ∙ c.is_llvm.ensures.value)
          (subst (λ (e : Env). Prints r c.args.out.now new (parenthesized (operand e Comma false x))) c.enclosed.ensures.value text);
    }
