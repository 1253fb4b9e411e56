-- `into_loose` tests the pointer: at null there is nothing, and else a box.
use Rattle.std.proofs.Common.{◌≡◌, List, [], ◌∷◌, ◌++◌, refl, sym, ap, ◌∙◌, subst}
use mir.Val.{Val}
use base.Logic.{SProp, ent, emp, id⊢}
use base.Fml.{ftrue}
use prog.Wp.{WpFn}
use types.Kit.{at_ret, ‵, raw, ◌⊛◌, ◌$◌, ◌∵◌, !, qed, by, move, keep, split, fsplit, fjoin, use0, use1, suffices}
use types.Match.{live}
use mir.Val.{vcons, vnil}
use types.Run.{stop, fld, lit, bin, of_opd, no_more, and_then, first, branches, skips, exec, returns, returns_within, enter}
use types.ByLocal.{alloc_all, pass_all, free_all, look_at, get, get_in, sets, env}
use types.Part.{agg, sub, whole}
use contract.Monad.{fact, fact_i}
use contract.Running.{tables}
use denote.Exit.{yes}
use denote.RattleType.{RattleType, owns}
use denote.Signature.{types_at, plain}
use denote.RawPtr.{Ptr, block_ptr, null_ptr, tests_null}
use denote.Param.{layout}
use lib.Dec.{lit<}
use Rattle.std.proofs.alloc.Shapes.{after}
use Rattle.std.proofs.cell.Inside.{Good}
use Rattle.std.proofs.ResultValues.{and_tt}
use Rattle.std.proofs.option.Made as made
use Rattle.std.specs.contracts.option.Option as option
use denote.Steps.{nothing}
use denote.Triple.Walked.{Stays, stay_dropped, walk_of}
use Rattle.std.specs.Prelude.{Option, Some, None}
use Rattle.std.proofs.alloc.Calls.{Goes-blank}
use Rattle.std.proofs.raw_atomic.Walks.{proved_at, leaves}
use Rattle.std.specs.contracts.alloc.Global as heap
use Rattle.cosvigle_c.specs.declared.kept.Kept.{Kept as Value}
use Rattle.cosvigle_c.proofs.Pairs.{global, word, ptr_good, word_good, pair_out, pair_in, holds_out}
use Rattle.cosvigle_c.specs.contracts.handle.Handle as handle
use Rattle.cosvigle_c.specs.contracts.loose.Loose as loose
use Rattle.cosvigle_c.specs.contracts.kept.Kept.{the_row as D}
use Rattle.std.specs.contracts.impls.GlobalAllocator.TheImpl.{ghosts}
use Rattle.cosvigle_c.specs.contracts.handle.Handle.into_loose.{ended, clauses}
use Rattle.cosvigle_c.specs.contracts.handle.Handle.into_loose.Key.{name as #self}
use Rattle.cosvigle_c.proofs.handle.Handle.into_loose.Statement.{statement}
use Rattle.cosvigle_c.proofs.handle.Handle.into_loose.Code as code

abbrev none_of : Option Value
none_of = None

abbrev some_of : Value → Option Value
some_of x = Some x

abbrev From : RattleType
From = handle.the_row

abbrev Kept : RattleType
Kept = loose.the_row D heap.the_row ghosts

abbrev To : RattleType
To = option.the_row Kept

pub into_loose_spec : {M : Type 1} → statement M
into_loose_spec 𝓤 𝓛 𝓜 𝓡 wired =
    let H = 𝓛.H in let 𝓣 = tables 𝓤 H 𝓜 𝓡 𝓡.env in let c = clauses 𝓛 𝓜.mem 𝓡.returns in let fn = code.function in
    let hs : Stays ended.signature.params ended.kept = (stay_dropped (plain (λ _. From)) yes, tt) in
    proved_at 𝓛 ended hs c 𝓜 𝓡 (Goes-blank 𝓛 0 (plain (λ _. From)) yes (λ κs x f. tt), tt)
    #self fn (code.unfolded 𝓤 H 𝓜 𝓡 wired) (λ z are.
    let κs = z.0.0 in let v = z.0.3.0 in let a = v.alloc in let kept = v.kept in
    let Post : Val → SProp 𝓤 = (walk_of 𝓛 ended hs c).post z in
    let Run : List Val → SProp 𝓤 = λ ws. WpFn 𝓤 H 𝓣.C 𝓣.Λ fn ws Post in
    let asked = raw ((c κs z.0.3).requires z.1) in
    qed 𝓛 ((‵ ftrue ⊛ ‵ (owns (types_at ended.signature.params κs) z.0.3 z.0.4)) ∷ asked ∷ []) ∵
    split ! $ move ! (1 ∷ []) $ fsplit ! $ fsplit ! $
    pair_out global ! v.at a z.0.4.0 (λ h reported fits. move ! (1 ∷ []) $
    holds_out D a ! v.at kept
    (λ null none.
    let p = null_ptr in let w = word p h in let reported' = reported ∙ ap (λ (q : Ptr). word q h ∷ []) null in
    suffices ! (Run (w ∷ [])) (subst (λ (us : List Val). ent 𝓤 (Run (w ∷ [])) (Run us)) (sym (λ i. reported' i ++ []))
    (id⊢ 𝓤 (Run (w ∷ [])))) $
    enter ! 𝓣.C 𝓣.Λ fn (w ∷ []) Post $ alloc_all ! (λ l. pass_all ! refl (word_good global p h fits, tt) $
    sets ! (of_opd ! (get_in ! (fld ! refl (stop !)) (sub ! 0 refl (whole !)))) refl (ptr_good p) $
    sets ! (of_opd ! (get_in ! (fld ! refl (stop !)) (sub ! 1 refl (whole !)))) refl fits $
    sets ! (bin ! (get ! refl) (lit ! tt) tt) refl (tt, tt) $ first ! $ branches ! (get ! refl) (λ _.
    sets ! (agg ! (and_then ! (lit ! tt) (no_more !))) refl (tt, (record { fits = lit< tt }, tt)) $
    use0 𝓛 (‵ (To.own_val None (live 0 vnil ∷ []))) (made.none_of 𝓛 Kept) $
    use0 𝓛 (raw (fact 𝓤 (none_of ≡ kept))) (fact_i 𝓤 (none_of ≡ kept) (emp 𝓤) (sym none)) $
    nothing ! $ nothing ! $ fjoin ! $ returns_within ! Post refl (look_at ! 0 refl) $ free_all ! refl $
    keep ! (5 ∷ 0 ∷ 2 ∷ 1 ∷ []) $
    by ! (leaves 𝓛 ended hs c z (live 0 vnil) None (tt, tt) (tt, tt))) (λ wrong. absurd wrong)))
    (λ b o x is some low.
    let p = block_ptr b o in let w = word p h in let reported' = reported ∙ ap (λ (q : Ptr). word q h ∷ []) is in
    let good = word_good global p h fits in
    suffices ! (Run (w ∷ [])) (subst (λ (us : List Val). ent 𝓤 (Run (w ∷ [])) (Run us)) (sym (λ i. reported' i ++ []))
    (id⊢ 𝓤 (Run (w ∷ [])))) $
    enter ! 𝓣.C 𝓣.Λ fn (w ∷ []) Post $ alloc_all ! (λ l. pass_all ! refl (good, tt) $
    sets ! (of_opd ! (get_in ! (fld ! refl (stop !)) (sub ! 0 refl (whole !)))) refl (ptr_good p) $
    sets ! (of_opd ! (get_in ! (fld ! refl (stop !)) (sub ! 1 refl (whole !)))) refl fits $
    sets ! (bin ! (get ! refl) (lit ! tt) (tests_null p low)) refl (tt, tt) $
    first ! $ branches ! (get ! refl) (λ wrong. absurd wrong) (λ _. skips ! $
    let Ev = env fn.locals l in exec ! 𝓣.C 𝓣.Λ Ev (after 4 fn.body) (at_ret Ev Post) $
    sets ! (of_opd ! (get ! refl)) refl (ptr_good p) $
    sets ! (agg ! (and_then ! (get ! refl) (and_then ! (get ! refl) (no_more !)))) refl good $
    let d : Kept.Denot = record { at = p; alloc = a; value = x } in let some_val : Val = live 1 (vcons w vnil) in
    let some_good : Good (layout To) some_val = (and_tt _ good.0, (record { fits = lit< tt }, (good.1, tt))) in
    sets ! (agg ! (and_then ! (lit ! tt) (and_then ! (get ! refl) (no_more !)))) refl some_good $
    move ! (1 ∷ 0 ∷ []) $ pair_in global ! p a h $ fjoin ! $
    use1 𝓛 (‵ (To.own_val (Some d) (some_val ∷ []))) (made.Some-of 𝓛 Kept d w) $
    use0 𝓛 (raw (fact 𝓤 (some_of x ≡ kept))) (fact_i 𝓤 (some_of x ≡ kept) (emp 𝓤) (sym some)) $
    nothing ! $ nothing ! $ fjoin ! $ returns ! (look_at ! 0 refl) $ free_all ! refl $ keep ! (4 ∷ 0 ∷ 2 ∷ 1 ∷ []) $
    by ! (leaves 𝓛 ended hs c z some_val (Some d) (tt, tt) (tt, tt)))))))
