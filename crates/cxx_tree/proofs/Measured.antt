-- The counts of nodes.
use Rattle.std.proofs.Common.{ℕ, ◌≡◌, ◌+◌, ◌<◌, true, false, List, [], ◌∷◌, ◌++◌, length, drop, slice_range, ◌-◌, refl, sym, ap, subst, ◌∙◌, arith, zero, suc}
use Rattle.std.proofs.Math.ListN.{get_or}
use Rattle.std.proofs.lemmas.Grind.{common_steps}
use Rattle.std.specs.Prelude.{Option, None, Some, MatchOption}
use Rattle.std.specs.List.{AllByRecursion}
use Rattle.cxx_tree.specs.declared.counts.Measure as stored
use Rattle.cxx_tree.specs.declared.arena.Entry as entry
use Rattle.cxx_tree.specs.declared.node.Range.{Range}
use Rattle.cxx_tree.specs.declared.node.List as handle
use Rattle.cxx_tree.specs.declared.node.Part.{Part}
use Rattle.cxx_tree.specs.Tree.{Tree}
use Rattle.cxx_tree.specs.Measure.{Measure, measure, measure_each, join, count}
use Rattle.cxx_tree.specs.Counts.{Row, Tallied, AreExact, AreCounted}
use Rattle.cxx_tree.specs.Stored.{Held, Store, forest, size, tree_at, trees_at, trees_in, list_at, IsRange, IsListBelow, IsPartBelow}
use Rattle.cxx_tree.proofs.Forest.{length-forest}

counted-at : (es : List entry.Entry) (ts : List Tree) → AreCounted es ts → (i : ℕ) (d : entry.Entry) → i < length ts → Row (get_or es i d).counts (measure (tree_at ts i)) × AreExact (measure (tree_at ts i))
unfolding AreCounted
counted-at [] [] h i d b = absurd (omega arith)
counted-at [] (t ∷ ts) h i d b = absurd h
counted-at (e ∷ es) [] h i d b = absurd h
counted-at (e ∷ es) (t ∷ ts) h zero d b = (h.0, h.1)
counted-at (e ∷ es) (t ∷ ts) h (suc i) d b = counted-at es ts h.2 i d (omega arith)

-- the counts of a node of an arena
pub counted-in : (es : List entry.Entry) (s a : Store) → AreCounted es (forest s) → s ≡ a → (i : ℕ) (d : entry.Entry) → i < size a → Row (get_or es i d).counts (measure (tree_at (forest a) i)) × AreExact (measure (tree_at (forest a) i))
counted-in es s a h e i d b =
    rw (← e) (counted-at es (forest s) h i d (omega (arith, b, ap size e, length-forest s)))

pub counted-length : (es : List entry.Entry) (ts : List Tree) → AreCounted es ts → length es ≡ length ts
unfolding AreCounted
counted-length [] [] h = refl
counted-length [] (t ∷ ts) h = absurd h
counted-length (e ∷ es) [] h = absurd h
counted-length (e ∷ es) (t ∷ ts) h = omega (arith, counted-length es ts h.2)

pub counted-push : (es : List entry.Entry) (ts : List Tree) (e : entry.Entry) (t : Tree) → AreCounted es ts → Row e.counts (measure t) → AreExact (measure t) → AreCounted (es ++ e ∷ []) (ts ++ t ∷ [])
unfolding AreCounted
counted-push [] [] e t h r x = (r, x, tt)
counted-push [] (u ∷ ts) e t h r x = absurd h
counted-push (d ∷ es) [] e t h r x = absurd h
counted-push (d ∷ es) (u ∷ ts) e t h r x = (h.0, h.1, counted-push es ts e t h.2 r x)

length-range : (is : List ℕ) (r : Range) → IsRange (length is) r → length (slice_range is r.from r.to) ≡ r.to - r.from
length-range is r b = grind (arith, common_steps, b.0, b.1)

-- lists of nodes, and parts, from the end
pub each-step : (ts : List Tree) (is : List ℕ) (k d : ℕ) → k < length is → measure_each (trees_at ts (drop k is)) ≡ join (measure (tree_at ts (get_or is k d))) (measure_each (trees_at ts (drop (k + 1) is)))
unfolding measure
each-step ts [] k d h = absurd (omega arith)
each-step ts (i ∷ is) zero d h = refl
each-step ts (i ∷ is) (suc k) d h =
    let e : suc k + 1 ≡ suc (k + 1) = omega arith in
    each-step ts is k d (omega arith)
    ∙ ap (λ (j : ℕ). join (measure (tree_at ts (get_or is k d))) (measure_each (trees_at ts (drop j (i ∷ is))))) (sym e)

pub in-list : (n : ℕ) (is : List ℕ) (k d : ℕ) → AllByRecursion (λ t. t < n) is → k < length is → get_or is k d < n
in-list n [] k d h b = absurd (omega arith)
in-list n (i ∷ is) zero d h b = h.0
in-list n (i ∷ is) (suc k) d h b = in-list n is k d h.1 (omega arith)

pub in-parts : (h : Held) (n : ℕ) (ps : List Part) (k : ℕ) (d : Part) → AllByRecursion (IsPartBelow h n) ps → k < length ps → IsPartBelow h n (get_or ps k d)
in-parts h n [] k d b l = absurd (omega arith)
in-parts h n (p ∷ ps) zero d b l = b.0
in-parts h n (p ∷ ps) (suc k) d b l = in-parts h n ps k d b.1 (omega arith)

pub count-trees_at : (ts : List Tree) (is : List ℕ) → count (trees_at ts is) ≡ length is
unfolding count
count-trees_at ts [] = refl
count-trees_at ts (i ∷ is) = omega (arith, count-trees_at ts is)

pub count-range : (h : Held) (ts : List Tree) (n : ℕ) (l : handle.List) → IsListBelow h n l → count (trees_in h ts l) ≡ l.range.to - l.range.from
count-range h ts n l b =
    let long : length (list_at h l) ≡ l.range.to - l.range.from = length-range h.lists l.range b.0 in
    count-trees_at ts (list_at h l) ∙ long

-- a tree that is within the limits
pub row-fit : (c : stored.Measure) (m : Measure) → Row c m → m.fits ≡ true
unfolding Row
row-fit c m r = r.1

pub tallied-some : (o : Option stored.Measure) (c : stored.Measure) (m : Measure) → Tallied o m → o ≡ Some c → Row c m × AreExact m
unfolding Tallied
tallied-some o c m t e = subst (λ (x : Option stored.Measure). MatchOption x (m.fits ≡ false) (λ d. Row d m × AreExact m)) e t

pub tallied-none : (o : Option stored.Measure) (m : Measure) → Tallied o m → o ≡ None → m.fits ≡ false
unfolding Tallied
tallied-none o m t e = subst (λ (x : Option stored.Measure). MatchOption x (m.fits ≡ false) (λ d. Row d m × AreExact m)) e t

pub ruleset measured = (in-list, in-parts)
