-- A list of arguments, cut where the scopes begin.
use Rattle.std.proofs.Common.{◌≡◌, ℕ, ◌+◌, ◌-◌, ◌<◌, ◌≤◌, List, [], ◌∷◌, ◌++◌, length, map, get_or, set, take, drop, slice_range, slice_get, option_map, IfSome, zero, suc, refl, sym, ap, ◌∙◌, arith}
use Rattle.std.proofs.lemmas.List.{length-append, drop-append-le, drop-take, take_all, drop_all, length-drop, length-map, length-take-le, map_push, take-map, drop-map}
use Rattle.std.proofs.lemmas.List.Elements.{All-push, All-take, All-drop}
use Rattle.std.proofs.lemmas.Option.{slice_get-map}
use Rattle.demangle_text.specs.declared.pieces.Piece.{Piece}
use Rattle.demangle_text.specs.Shape.{Shape}
use Rattle.demangle_text.specs.Pieces.{AreStarts, Store, IsStore, IsPiece, shape_in}
use Rattle.demangle_text.specs.State.{IsLiving, shape, scopes, parts_at, last_args, with_arg}
use Rattle.growing_text.proofs.Parts.{part-append, part-take}
use Rattle.demangle_text.proofs.Texts.{slice_get-All}

-- the elements from a place on
pub slice_get_from : {X : Type 0} (n i : ℕ) (xs : List X) → slice_get (drop n xs) i ≡ slice_get xs (n + i)
slice_get_from zero i xs = let same : i ≡ 0 + i = omega arith in ap (λ (k : ℕ). slice_get xs k) same
slice_get_from (suc n) i [] = refl
slice_get_from (suc n) i (x ∷ xs) = let next : suc (n + i) ≡ suc n + i = omega arith in slice_get_from n i xs ∙ ap (λ (k : ℕ). slice_get (x ∷ xs) k) next

-- there are as many parts as places
pub length-parts_at : {X : Type 0} (starts : List ℕ) (xs : List X) → length (parts_at starts xs) ≡ length starts
length-parts_at [] xs = refl
length-parts_at (s ∷ []) xs = refl
length-parts_at (s ∷ t ∷ rest) xs = ap (λ (n : ℕ). suc n) (length-parts_at (t ∷ rest) xs)

-- the places still fit when there are more arguments
pub AreStarts-more : (starts : List ℕ) (n m : ℕ) → n ≤ m → AreStarts starts n → AreStarts starts m
AreStarts-more [] n m le h = tt
AreStarts-more (s ∷ []) n m le h = omega arith
AreStarts-more (s ∷ t ∷ rest) n m le h = (h.0, AreStarts-more (t ∷ rest) n m le h.1)

-- a new place at the end
pub AreStarts-push : (starts : List ℕ) (n : ℕ) → AreStarts starts n → AreStarts (starts ++ n ∷ []) n
AreStarts-push [] n h = omega arith
AreStarts-push (s ∷ []) n h = (h, omega arith)
AreStarts-push (s ∷ t ∷ rest) n h = (h.0, AreStarts-push (t ∷ rest) n h.1)

-- no place lies past the last argument
pub start_within : (starts : List ℕ) (n k : ℕ) → AreStarts starts n → k < length starts → get_or starts k 0 ≤ n
start_within [] n k h lt = absurd (omega arith)
start_within (s ∷ []) n zero h lt = h
start_within (s ∷ []) n (suc k) h lt = absurd (omega arith)
start_within (s ∷ t ∷ rest) n zero h lt = omega (arith, start_within (t ∷ rest) n zero h.1 (omega arith))
start_within (s ∷ t ∷ rest) n (suc k) h lt = start_within (t ∷ rest) n k h.1 (omega arith)

-- nor before the first
start_after : (t : ℕ) (rest : List ℕ) (n k : ℕ) → AreStarts (t ∷ rest) n → k < length rest → t ≤ get_or rest k 0
start_after t [] n k h lt = absurd (omega arith)
start_after t (u ∷ rest) n zero h lt = h.0
start_after t (u ∷ rest) n (suc k) h lt = omega (arith, start_after u rest n k h.1 (omega arith), h.0)

-- the first places fit the arguments up to the next place
pub AreStarts-take : (starts : List ℕ) (n k : ℕ) → AreStarts starts n → k < length starts → AreStarts (take k starts) (get_or starts k 0)
AreStarts-take [] n k h lt = absurd (omega arith)
AreStarts-take (s ∷ []) n zero h lt = tt
AreStarts-take (s ∷ []) n (suc k) h lt = absurd (omega arith)
AreStarts-take (s ∷ t ∷ rest) n zero h lt = tt
AreStarts-take (s ∷ t ∷ rest) n (suc zero) h lt = h.0
AreStarts-take (s ∷ t ∷ rest) n (suc (suc k)) h lt = (h.0, AreStarts-take (t ∷ rest) n (suc k) h.1 (omega arith))

-- the first parts are those of the arguments up to the next place
pub parts_at-take : {X : Type 0} (starts : List ℕ) (xs : List X) (n k : ℕ) → AreStarts starts n → k < length starts
    → parts_at (take k starts) (take (get_or starts k 0) xs) ≡ take k (parts_at starts xs)
parts_at-take [] xs n k h lt = absurd (omega arith)
parts_at-take (s ∷ []) xs n zero h lt = refl
parts_at-take (s ∷ []) xs n (suc k) h lt = absurd (omega arith)
parts_at-take (s ∷ t ∷ rest) xs n zero h lt = refl
parts_at-take (s ∷ t ∷ rest) xs n (suc zero) h lt =
    let m : t ≡ s + (t - s) = omega (arith, h.0) in
    let part : drop s (take t xs) ≡ slice_range xs s t = ap (λ (i : ℕ). drop s (take i xs)) m ∙ drop-take s (t - s) xs in
    ap (λ p. p ∷ []) part
parts_at-take (s ∷ t ∷ rest) xs n (suc (suc k)) h lt =
    let after : t ≤ get_or rest k 0 = start_after t rest n k h.1 (omega arith) in
    let part = part-take xs (get_or rest k 0) s t h.0 after in
    let more = parts_at-take (t ∷ rest) xs n (suc k) h.1 (omega arith) in
    cc (part, more)

-- a scope with no argument
pub parts_at-open : {X : Type 0} (starts : List ℕ) (xs : List X) (n : ℕ) → n ≡ length xs → parts_at (starts ++ n ∷ []) xs ≡ parts_at starts xs ++ [] ∷ []
parts_at-open [] xs n e = ap (λ p. p ∷ []) (drop_all n xs (omega arith))
parts_at-open (s ∷ []) xs n e =
    let all : slice_range xs s n ≡ drop s xs = take_all (n - s) (drop s xs) (omega (arith, length-drop s xs)) in
    let none : drop n xs ≡ [] = drop_all n xs (omega arith) in
    cc
parts_at-open (s ∷ t ∷ rest) xs n e = ap (λ ps. slice_range xs s t ∷ ps) (parts_at-open (t ∷ rest) xs n e)

-- the arguments of the last scope, and another one for them, after a first scope
last_args-more : (args : List Shape) (scopes : List (List Shape)) → 0 < length scopes → last_args (args ∷ scopes) ≡ last_args scopes
last_args-more args scopes some =
    let e : length (args ∷ scopes) - 1 ≡ suc (length scopes - 1) = omega arith in
    ap (λ (k : ℕ). get_or (args ∷ scopes) k []) e

with_arg-more : (s : Shape) (args : List Shape) (scopes : List (List Shape)) → 0 < length scopes → with_arg s (args ∷ scopes) ≡ args ∷ with_arg s scopes
with_arg-more s args scopes some =
    let e : length (args ∷ scopes) - 1 ≡ suc (length scopes - 1) = omega arith in
    ap (λ (k : ℕ). set (args ∷ scopes) k (get_or (args ∷ scopes) k [] ++ s ∷ [])) e

-- the last scope begins at the last place
pub last_args-parts_at : (starts : List ℕ) (xs : List Shape) (n : ℕ) → n ≡ length starts → 0 < n → last_args (parts_at starts xs) ≡ drop (get_or starts (n - 1) 0) xs
last_args-parts_at [] xs n e some = absurd (omega arith)
last_args-parts_at (s ∷ []) xs n e some =
    let one : n - 1 ≡ 0 = omega arith in
    ap (λ (k : ℕ). drop (get_or (s ∷ []) k 0) xs) (sym one)
last_args-parts_at (s ∷ t ∷ rest) xs n e some =
    let more : 0 < length (parts_at (t ∷ rest) xs) = omega (arith, length-parts_at (t ∷ rest) xs) in
    let m : n - 1 ≡ suc (n - 1 - 1) = omega arith in
    last_args-more (slice_range xs s t) (parts_at (t ∷ rest) xs) more
    ∙ last_args-parts_at (t ∷ rest) xs (n - 1) (omega arith) (omega arith)
    ∙ ap (λ (k : ℕ). drop (get_or (s ∷ t ∷ rest) k 0) xs) (sym m)

-- an argument for the last scope
pub parts_at-push : (starts : List ℕ) (xs : List Shape) (x : Shape) → AreStarts starts (length xs) → 0 < length starts → parts_at starts (xs ++ x ∷ []) ≡ with_arg x (parts_at starts xs)
parts_at-push [] xs x h some = absurd (omega arith)
parts_at-push (s ∷ []) xs x h some = ap (λ p. p ∷ []) (drop-append-le s xs (x ∷ []) h)
parts_at-push (s ∷ t ∷ rest) xs x h some =
    let some : 0 < length (parts_at (t ∷ rest) xs) = omega (arith, length-parts_at (t ∷ rest) xs) in
    let within : t ≤ length xs = start_within (t ∷ rest) (length xs) zero h.1 (omega arith) in
    let part = part-append xs (x ∷ []) s t h.0 within in
    let more = parts_at-push (t ∷ rest) xs x h.1 (omega arith) in
    let both : parts_at (s ∷ t ∷ rest) (xs ++ x ∷ []) ≡ slice_range xs s t ∷ with_arg x (parts_at (t ∷ rest) xs) = cc in
    both ∙ sym (with_arg-more x (slice_range xs s t) (parts_at (t ∷ rest) xs) some)

-- a buffer whose arguments or their places change, and nothing else
module _ (s new : Store) (output : new.output_text ≡ s.output_text) (spill : new.spill_text ≡ s.spill_text) (marked_len : new.marked_len ≡ s.marked_len) where
  shape_same : shape new ≡ shape s
  unfolding shape
  shape_same = ap (λ (ts : List ℕ). λ (p : Piece). shape_in ts new.spill_text p) output ∙ ap (λ (ts : List ℕ). λ (p : Piece). shape_in s.output_text ts p) spill

  frame_fits : IsStore s → new.marked_len ≤ length new.output_text
  frame_fits i = rw (marked_len, output) i.main_frame

  -- the scopes, by the arguments and their places
  scopes_are : (args : List Piece) (starts : List ℕ) → new.arg_pieces ≡ args → new.scope_starts ≡ starts → scopes new ≡ parts_at starts (map (shape s) args)
  unfolding scopes
  scopes_are args starts by_args by_starts = cc (shape_same)

  -- a scope is opened
  pub scopes-open : new.arg_pieces ≡ s.arg_pieces → new.scope_starts ≡ s.scope_starts ++ length s.arg_pieces ∷ [] → scopes new ≡ scopes s ++ [] ∷ []
  unfolding scopes
  scopes-open args starts =
      scopes_are s.arg_pieces (s.scope_starts ++ length s.arg_pieces ∷ []) args starts
      ∙ parts_at-open s.scope_starts (map (shape s) s.arg_pieces) (length s.arg_pieces) (sym (length-map s.arg_pieces (shape s)))

  pub IsStore-open : IsStore s → new.saved_pieces ≡ s.saved_pieces → new.arg_pieces ≡ s.arg_pieces → new.scope_starts ≡ s.scope_starts ++ length s.arg_pieces ∷ [] → IsStore new
  IsStore-open i saved args starts = record {
    saved_lie = rw (output, spill, saved) i.saved_lie;
    args_lie = rw (output, spill, args) i.args_lie;
    starts_fit = rw (args, starts) (AreStarts-push s.scope_starts (length s.arg_pieces) i.starts_fit);
    main_frame = frame_fits i;
  }

  -- the last scope gains an argument
  pub scopes-arg : IsStore s → (p : Piece) → new.arg_pieces ≡ s.arg_pieces ++ p ∷ [] → new.scope_starts ≡ s.scope_starts → 0 < length (scopes s) → scopes new ≡ with_arg (shape s p) (scopes s)
  unfolding scopes
  scopes-arg i p args starts some =
      let xs = map (shape s) s.arg_pieces in
      let n = length-map s.arg_pieces (shape s) in
      let fit : AreStarts s.scope_starts (length xs) = AreStarts-more s.scope_starts (length s.arg_pieces) (length xs) (omega arith) i.starts_fit in
      let there : 0 < length s.scope_starts = omega (arith, length-parts_at s.scope_starts xs) in
      scopes_are (s.arg_pieces ++ p ∷ []) s.scope_starts args starts
      ∙ ap (parts_at s.scope_starts) (map_push (shape s) s.arg_pieces p)
      ∙ parts_at-push s.scope_starts xs (shape s p) fit there

  pub IsStore-arg : IsStore s → (p : Piece) → IsLiving s p → new.saved_pieces ≡ s.saved_pieces → new.arg_pieces ≡ s.arg_pieces ++ p ∷ [] → new.scope_starts ≡ s.scope_starts → IsStore new
  unfolding IsLiving
  IsStore-arg i p lies saved args starts = record {
    saved_lie = rw (output, spill, saved) i.saved_lie;
    args_lie = rw (output, spill, args) (All-push (IsPiece s.output_text s.spill_text) s.arg_pieces p i.args_lie lies);
    starts_fit = rw (args, starts) (AreStarts-more s.scope_starts (length s.arg_pieces) (length (s.arg_pieces ++ p ∷ [])) (omega (arith, length-append s.arg_pieces (p ∷ []))) i.starts_fit);
    main_frame = frame_fits i;
  }

  -- the first scopes are kept
  pub scopes-kept : IsStore s → (n from : ℕ) → n < length s.scope_starts → from ≡ get_or s.scope_starts n 0
      → new.arg_pieces ≡ take from s.arg_pieces → new.scope_starts ≡ take n s.scope_starts
      → scopes new ≡ take n (scopes s)
  unfolding scopes
  scopes-kept i n from there e args starts =
      scopes_are (take from s.arg_pieces) (take n s.scope_starts) args starts
      ∙ ap (parts_at (take n s.scope_starts)) (sym (take-map (shape s) from s.arg_pieces) ∙ ap (λ (k : ℕ). take k (map (shape s) s.arg_pieces)) e)
      ∙ parts_at-take s.scope_starts (map (shape s) s.arg_pieces) (length s.arg_pieces) n i.starts_fit there

  pub IsStore-kept : IsStore s → (n from : ℕ) → n < length s.scope_starts → from ≡ get_or s.scope_starts n 0
      → new.saved_pieces ≡ s.saved_pieces → new.arg_pieces ≡ take from s.arg_pieces
      → new.scope_starts ≡ take n s.scope_starts → IsStore new
  IsStore-kept i n from there e saved args starts =
      let within : from ≤ length s.arg_pieces = omega (arith, start_within s.scope_starts (length s.arg_pieces) n i.starts_fit there) in
      let m : length (take from s.arg_pieces) ≡ get_or s.scope_starts n 0 = length-take-le from s.arg_pieces within ∙ e in
      record {
        saved_lie = rw (output, spill, saved) i.saved_lie;
        args_lie = rw (output, spill, args) (All-take (IsPiece s.output_text s.spill_text) from s.arg_pieces i.args_lie);
        starts_fit = rw (args, starts, m) (AreStarts-take s.scope_starts (length s.arg_pieces) n i.starts_fit there);
        main_frame = frame_fits i;
      }

-- there are as many scopes as places
pub length-scopes : (s : Store) → length (scopes s) ≡ length s.scope_starts
unfolding scopes
length-scopes s = length-parts_at s.scope_starts (map (shape s) s.arg_pieces)

-- as many as a count of the scopes
pub length-starts : (s b : Store) (n : ℕ) → s ≡ b → n ≡ length (scopes b) → n ≡ length s.scope_starts
length-starts s b n e count = count ∙ ap (λ (v : Store). length (scopes v)) (sym e) ∙ length-scopes s

-- an argument of the last scope
module _ (s : Store) (i n from : ℕ) (all : n ≡ length s.scope_starts) (some : 0 < n) (e : from ≡ get_or s.scope_starts (n - 1) 0) where
  pub arg_within : IsStore s → from ≤ length s.arg_pieces
  arg_within h = omega (arith, start_within s.scope_starts (length s.arg_pieces) (n - 1) h.starts_fit (omega arith))

  pub arg_found : option_map (shape s) (slice_get (drop from s.arg_pieces) i) ≡ slice_get (last_args (scopes s)) i
  unfolding scopes
  arg_found =
      let xs = map (shape s) s.arg_pieces in
      sym (slice_get-map (shape s) (drop from s.arg_pieces) i)
      ∙ ap (λ (ys : List Shape). slice_get ys i) (sym (drop-map (shape s) from s.arg_pieces) ∙ ap (λ (k : ℕ). drop k xs) e ∙ sym (last_args-parts_at s.scope_starts xs n all some))

  pub arg_lives : IsStore s → IfSome (slice_get (drop from s.arg_pieces) i) (IsLiving s)
  unfolding IsLiving
  arg_lives h = slice_get-All (IsPiece s.output_text s.spill_text) (drop from s.arg_pieces) i (All-drop (IsPiece s.output_text s.spill_text) from s.arg_pieces h.args_lie)
