-- A struct of a pointer and an allocator, as the machine has it. Assumes `Logic`.
--     word, word_good     its machine value, and that this is of its type
--     ptr_good            the same of a pointer
--     global              the allocator `Global`
--     pair_out, pair_in   steps: what the two fields own is taken apart, and made
--     holds_out           a step: what a handle owns is nothing, at null, or a value in a block of `Global`, whose
--                         pointer may be compared with null
use mathlib.Core.Path.{◌≡◌, refl, ◌∙◌}
use mathlib.Core.Bool.{◌&&◌, true}
use Prim.Native.Nat.{ℕ}
use mathlib.Core.List.{List, [], ◌∷◌, ◌++◌}
use lib.Dec.{T, lit<}
use seplogic.Ra.Ura.{Ura}
use mir.Syntax.{ty_ptr, impl, tnil, dnil}
use mir.Val.{Val, vstruct, vcons, vnil, of_list, has_ty, WT}
use base.Fml.{Fml}
use base.Logic.{ent, via, snd∗, fst∗, guard, guard_i, never}
use contract.Monad.{fact_use}
use mir.Raw.{raw as bare}
use types.Logic.{Logic, sem}
use types.Kit.{Item, Goal, Seq, Step, step, ‵, given, ◌$◌, move, drop, use1, learn, fsplit, fjoin, fpick, fpack, feq_i, feq_l}
use denote.RattleType.{RattleType, Valss}
use denote.Memory.{lone}
use denote.RawPtr.{Ptr, RawPtr, block_ptr, null_ptr, ptr_val, in_a_block, Testable}
use denote.Steps.{nothing}
use denote.Param.{layout}
use denote.Struct.Struct.{Shape, Struct, within}
use Rattle.std.proofs.alloc.Calls.{Al, Fits, handle_tells}
use Rattle.std.proofs.ResultValues.{and_tt}
use Rattle.std.specs.Prelude.{Option, Some, None}
use Rattle.std.specs.Box.Ownership.{box_owns}
use Rattle.std.specs.Ptr.{points_to}
use Rattle.std.proofs.GlobalToken.{dealloc_token-Testable}
use Rattle.std.specs.contracts.alloc.Global as heap
use Rattle.std.specs.declared.alloc.Global.{Global}
use Rattle.cosvigle_c.specs.Handle.{holds}
use Rattle.std.specs.contracts.impls.GlobalAllocator.TheImpl.{ghosts}
use Rattle.std.proofs.alloc.Global.TheLaws as heap_laws

abbrev pub word : Ptr → Val → Val
word p h = vstruct (vcons (ptr_val p) (vcons h vnil))

pub ptr_good : (p : Ptr) → T (has_ty ty_ptr (ptr_val p)) × WT (ptr_val p)
ptr_good (block_ptr b o) = (tt, tt)
ptr_good null_ptr = (tt, record { fits = lit< tt })

-- the allocator `Global`
abbrev pub global : Al
global =
    let none = impl [] tnil dnil in
    record { row = heap.the_row; laws = heap_laws.the_row_laws; g = ghosts; d = none; drops = none }

module _ (Z : Al) where
  pub word_good : (p : Ptr) (h : Val) → Fits Z h
      → T (has_ty ty_ptr (ptr_val p) && (has_ty (layout Z.row) h && true)) × WT (word p h)
  word_good (block_ptr b o) h fits = (and_tt (has_ty (layout Z.row) h) fits.0, (tt, (fits.1, tt)))
  word_good null_ptr h fits = (and_tt (has_ty (layout Z.row) h) fits.0, (record { fits = lit< tt }, (fits.1, tt)))

  abbrev pub pair : Shape
  pair = record { name = []; args = []; types = []; fields = RawPtr ∷ Z.row ∷ [] }

  abbrev pub owned_pair : Ptr → Z.row.Denot → List Val → Fml
  owned_pair p a vs = (Struct pair).own_val (p, (a, tt)) vs

  module _ {M : Type 1} {𝓤 : Ura M} {𝓛 : Logic 𝓤} {K : Type 0} {Γ : List (Item 𝓤)} {G : Goal 𝓤 𝓛.H} where
    pub pair_out : K → (p : Ptr) (a : Z.row.Denot) (vs : List Val)
        → ((h : Val) → vs ≡ word p h ∷ [] → Fits Z h → Seq K 𝓛 (‵ (Z.row.own_val a (h ∷ [])) ∷ Γ) G)
        → Seq K 𝓛 (‵ (owned_pair p a vs) ∷ Γ) G
    pair_out t p a vs k =
        fpick t (λ vss. fsplit t $ feq_l t (λ is. fsplit t $ feq_l t (λ at. fsplit t $
        handle_tells Z t a vss.1.0 (λ h reported fits. move t (1 ∷ []) $ drop t $
        k h (is ∙ (λ i. vstruct (of_list (at i ++ (reported i ++ []))) ∷ [])) fits))))

    pub pair_in : K → (p : Ptr) (a : Z.row.Denot) (h : Val)
        → Step K 𝓛 (‵ (owned_pair p a (word p h ∷ [])) ∷ Γ) G (‵ (Z.row.own_val a (h ∷ [])) ∷ Γ) G
    pair_in t p a h = step (λ s.
        nothing t $ move t (1 ∷ 0 ∷ []) $ fjoin t $
        feq_i t (List Val) (ptr_val p ∷ []) (ptr_val p ∷ []) refl $ fjoin t $
        feq_i t (List Val) (word p h ∷ []) (word p h ∷ []) refl $ fjoin t $
        fpack t (Valss (RawPtr ∷ Z.row ∷ [])) (within pair (p, (a, tt)) (word p h ∷ []))
        (ptr_val p ∷ [], (h ∷ [], tt)) $ s)

module _ (R : RattleType) (a : Global) where
  abbrev token : mir.Syntax.Ty → Ptr → Fml
  token = ghosts.dealloc_token a

  abbrev boxed : Ptr → R.Denot → Fml
  boxed = box_owns token R

  module _ {M : Type 1} {𝓤 : Ura M} (𝓛 : Logic 𝓤) where
    tested : (p : Ptr) (x : R.Denot) → ent 𝓤 (sem 𝓛 (boxed p x)) (guard 𝓤 (Testable p) (sem 𝓛 (boxed p x)))
    tested p x =
        let τ = bare (lone R.mir) in
        fact_use 𝓤 (Testable p)
        (via 𝓤 _ (snd∗ 𝓤 (sem 𝓛 (points_to R p x)) (sem 𝓛 (token τ p))) (dealloc_token-Testable 𝓛 a τ p))
        (guard_i 𝓤 (Testable p) (sem 𝓛 (boxed p x)))

  module _ {M : Type 1} {𝓤 : Ura M} {𝓛 : Logic 𝓤} {K : Type 0} {Γ : List (Item 𝓤)} {G : Goal 𝓤 𝓛.H} where
    pub holds_out : K → (p : Ptr) (value : Option R.Denot)
        → (p ≡ null_ptr → value ≡ None → Seq K 𝓛 Γ G)
        → ((b o : ℕ) (x : R.Denot) → p ≡ block_ptr b o → value ≡ Some x → Testable (block_ptr b o)
        → Seq K 𝓛 (‵ (boxed (block_ptr b o) x) ∷ Γ) G)
        → Seq K 𝓛 (‵ (holds token R p value) ∷ Γ) G
    holds_out t p None none some = feq_l t (λ e. none e refl)
    holds_out t p (Some x) none some =
        in_a_block t p (λ q. boxed q x) (fst∗ 𝓤 (never 𝓤) (sem 𝓛 (token (bare (lone R.mir)) null_ptr))) (λ b o e.
        use1 𝓛 (given (Testable (block_ptr b o)) (‵ (boxed (block_ptr b o) x))) (tested 𝓛 (block_ptr b o) x) $
        learn t (λ low. some b o x e refl low))
