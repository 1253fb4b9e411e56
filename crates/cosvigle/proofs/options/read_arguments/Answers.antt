use Rattle.std.proofs.Common.{◌+◌, ◌<◌, length, drop, get_or, [], refl, sym, subst, ◌∙◌, arith}
use Rattle.std.proofs.lemmas.List.{take_rest}
use Rattle.std.proofs.lemmas.Grind.{common_steps}
use Rattle.cosvigle.specs.declared.options.Kind.TheVariants.{End, Name, Letters, Symbol}
use Rattle.cosvigle.specs.declared.options.Request.TheVariants.{Symbols, Stopped}
use Rattle.cosvigle.specs.Options.{AsksFor, texts}
use Rattle.cosvigle.proofs.Turns.{value_turn, ready_turn, exit_turn, read_ended, next_symbol, symbols_after}
use Rattle.cosvigle.proofs.options.read_arguments.Goals as goal
use Rattle.cosvigle.proofs.options.read_arguments.Goals.{in-Name, in-Letters, in-Symbol+in_ok-push-in-Symbol}

pub loop-at-preserved-in-NeedsValue : goal.loop-at-preserved-in-NeedsValue
loop-at-preserved-in-NeedsValue c =
    let all = c.args.arguments.now in
    let at = c.loop-at.at in
    let inside : at < length all = omega arith in
    value_turn all at _ _ c.loop-at.state c.after_value-state.result c.in-NeedsValue.flags c.in-NeedsValue.option _ _ inside c.in-NeedsValue.is c.after_value-state.ensures.value c.loop-at.invariant

pub returns-in-Exit : goal.returns-in-Exit
returns-in-Exit c =
    let all = c.args.arguments.now in
    let at = c.loop-at.at in
    let inside : at < length all = omega arith in
    record {
      request =
          subst (λ s. AsksFor s (Stopped c.in-Exit.stop c.loop-at.last))
          (sym (exit_turn all at record { ref_ptr = (0, 0); now = [] } _ c.loop-at.state c.in-Exit.stop _ _ inside c.in-Exit.is c.loop-at.invariant)) (refl, refl);
    }

pub returns-in-End : goal.returns-in-End
returns-in-End c =
    let all = c.args.arguments.now in
    let at = c.loop-at.at in
    let inside : at < length all = omega arith in
    let read_all = ready_turn all at _ _ c.loop-at.state c.in-Ready.flags _ _ End inside c.in-Ready.is (sym c.kind_of.ensures.value ∙ c.in-End.is) c.loop-at.invariant
    ∙ read_ended c.in-Ready.flags (texts c.loop-at.symbols.items) (drop (at + 1) (texts all)) in
    record {
      request =
          subst (λ s. AsksFor s (Symbols c.in-Ready.flags c.extend_from_slice.new.self)) (sym read_all)
          (refl, symbols_after c.loop-at.symbols.items c.extend_from_slice.new.self.items all (at + 1) c.in_ok-extend_from_slice-in-End.ensures.items);
    }

pub loop-at-preserved : goal.loop-at-preserved
loop-at-preserved c =
    let all = c.args.arguments.now in
    let at = c.loop-at.at in
    let inside : at < length all = omega arith in
    let says = sym c.kind_of.ensures.value in
    elim c.match-kind_of.branch [
      | in-Name w ↦
          rw (w.state-is, w.symbols-is, w.last-is, w.after_name-state.ensures.value, take_rest (get_or all at record { ref_ptr = (0, 0); now = [] }).now 2)
          (ready_turn all at _ _ c.loop-at.state c.in-Ready.flags _ _ Name inside c.in-Ready.is (says ∙ w.in-Name.is) c.loop-at.invariant)
      | in-Letters w ↦
          rw (w.state-is, w.symbols-is, w.last-is, w.after_letters-state.ensures.value)
          (ready_turn all at _ _ c.loop-at.state c.in-Ready.flags _ _ Letters inside c.in-Ready.is (says ∙ w.in-Letters.is) c.loop-at.invariant)
      | in-Symbol+in_ok-push-in-Symbol w ↦
          rw (w.state-is, w.symbols-is, w.last-is, next_symbol _ _ _ w.in_ok-push-in-Symbol.ensures.items)
          (ready_turn all at _ _ c.loop-at.state c.in-Ready.flags _ _ Symbol inside c.in-Ready.is (says ∙ w.in-Symbol.is) c.loop-at.invariant)
    ]

pub slice_bounds-after_name-count : goal.slice_bounds-after_name-count
slice_bounds-after_name-count c = grind (arith, common_steps)

pub slice_bounds-after_name-start : goal.slice_bounds-after_name-start
slice_bounds-after_name-start c = grind (arith, common_steps)

pub returns : goal.returns
returns c = grind (arith, common_steps)
