-- `none` is a null pointer, which owns nothing.
use Rattle.std.proofs.Common.{◌≡◌, List, [], ◌∷◌, ◌++◌, refl, sym, subst}
use mir.Val.{Val}
use base.Logic.{SProp, ent, emp, id⊢}
use base.Fml.{ftrue}
use prog.Wp.{WpFn}
use types.Kit.{‵, raw, ◌⊛◌, ◌$◌, ◌∵◌, !, qed, by, move, keep, split, fsplit, fjoin, use0, feq_i, suffices}
use types.Run.{lit, no_more, and_then, returns, enter}
use types.ByLocal.{alloc_all, pass_all, free_all, look_at, get, sets}
use types.Part.{agg}
use contract.Monad.{fact, fact_i}
use contract.Running.{tables}
use denote.Exit.{yes}
use denote.RattleType.{owns}
use denote.Signature.{types_at, plain}
use denote.RawPtr.{Ptr, null_ptr}
use denote.Steps.{nothing}
use denote.Triple.Walked.{Stays, stay_dropped, walk_of, Goes-dropped}
use Rattle.std.specs.Prelude.{Option, None}
use Rattle.std.proofs.alloc.Calls.{handle_tells}
use Rattle.std.proofs.raw_atomic.Walks.{proved_at, leaves}
use Rattle.std.specs.contracts.alloc.Global as heap
use Rattle.cosvigle_c.specs.declared.kept.Kept.{Kept as Value}
use Rattle.cosvigle_c.proofs.Pairs.{global, word, word_good, pair_in}
use Rattle.cosvigle_c.specs.contracts.handle.Handle.none.{ended, clauses}
use Rattle.cosvigle_c.specs.contracts.handle.Handle.none.Key.{name as #self}
use Rattle.cosvigle_c.proofs.handle.Handle.none.Statement.{statement}
use Rattle.cosvigle_c.proofs.handle.Handle.none.Code as code

abbrev none_of : Option Value
none_of = None

pub none_spec : {M : Type 1} → statement M
none_spec 𝓤 𝓛 𝓜 𝓡 wired =
    let H = 𝓛.H in let 𝓣 = tables 𝓤 H 𝓜 𝓡 𝓡.env in let c = clauses 𝓛 𝓜.mem 𝓡.returns in
    let hs : Stays ended.signature.params ended.kept = (stay_dropped (plain (λ _. heap.the_row)) yes, tt) in
    proved_at 𝓛 ended hs c 𝓜 𝓡 (Goes-dropped 𝓛 0 (plain (λ _. heap.the_row)) yes (λ κs x f. refl), tt)
    #self code.function (code.unfolded 𝓤 H 𝓜 𝓡 wired) (λ z are.
    let κs = z.0.0 in let a = z.0.3.0 in
    let Post : Val → SProp 𝓤 = (walk_of 𝓛 ended hs c).post z in
    let Run : List Val → SProp 𝓤 = λ ws. WpFn 𝓤 H 𝓣.C 𝓣.Λ code.function ws Post in
    let asked = raw ((c κs z.0.3).requires z.1) in
    qed 𝓛 ((‵ ftrue ⊛ ‵ (owns (types_at ended.signature.params κs) z.0.3 z.0.4)) ∷ asked ∷ []) ∵
    split ! $ move ! (1 ∷ []) $ fsplit ! $ handle_tells global ! a z.0.4.0 (λ h reported fits.
    suffices ! (Run (h ∷ [])) (subst (λ (us : List Val). ent 𝓤 (Run (h ∷ [])) (Run us)) (sym (λ i. reported i ++ []))
    (id⊢ 𝓤 (Run (h ∷ [])))) $
    enter ! 𝓣.C 𝓣.Λ code.function (h ∷ []) Post $ alloc_all ! (λ l. pass_all ! refl (fits, tt) $
    sets ! (agg ! (and_then ! (lit ! tt) (and_then ! (get ! refl) (no_more !)))) refl (word_good global null_ptr h fits) $
    pair_in global ! null_ptr a h $ feq_i ! Ptr null_ptr null_ptr refl $ move ! (1 ∷ 0 ∷ []) $ fjoin ! $
    use0 𝓛 (raw (fact 𝓤 (none_of ≡ none_of))) (fact_i 𝓤 (none_of ≡ none_of) (emp 𝓤) refl) $
    nothing ! $ nothing ! $ fjoin ! $ returns ! (look_at ! 0 refl) $ free_all ! refl $ keep ! (4 ∷ 0 ∷ 2 ∷ 1 ∷ []) $
    by ! (leaves 𝓛 ended hs c z (word null_ptr h) (record { at = null_ptr; alloc = a; kept = None }) (tt, tt) (tt, tt)))))
