-- A gap between two texts, which is filled from its front on.
use Rattle.std.proofs.Common.{◌≡◌, ℕ, ◌+◌, ◌-◌, ◌≤◌, List, [], ◌++◌, length, take, drop, refl, sym, ap, ◌∙◌, subst, arith, append_assoc}
use Rattle.std.proofs.lemmas.List.{length-append, length-drop, length-take-le, take_at, drop_at, drop-append-le, take-append-drop, drop-drop, nil_from_length, append-nil}
use Rattle.std.specs.List.{copy_within}
use Rattle.growing_text.specs.Gap.{HasGap}
use Rattle.growing_text.proofs.Fronts.{front-inserted}

-- how long the whole is
pub length-HasGap : (front back all : List ℕ) (n : ℕ) → HasGap front back all n → length all ≡ length front + (n + length back)
length-HasGap front back all n h =
    ap length h.parts ∙ length-append front (h.gap ++ back) ∙ ap (λ (k : ℕ). length front + k) (length-append h.gap back ∙ ap (λ (k : ℕ). k + length back) h.long)

-- no gap is left
pub HasGap-filled : (front back all : List ℕ) → HasGap front back all 0 → all ≡ front ++ back
HasGap-filled front back all h = h.parts ∙ ap (λ (v : List ℕ). front ++ (v ++ back)) (nil_from_length h.gap h.long)

-- bytes at the front of the gap
pub HasGap-put : (front back all bytes new : List ℕ) (n m at k : ℕ) → HasGap front back all n → at ≡ length front → k ≡ length bytes → n ≡ k + m
    → new ≡ take at all ++ (bytes ++ drop (at + k) all) → HasGap (front ++ bytes) back new m
HasGap-put front back all bytes new n m at k h by_at by_k by_n is =
    let r = h.gap in
    let low : take at all ≡ front = ap (take at) h.parts ∙ take_at front (r ++ back) at (sym by_at) in
    let high : drop (at + k) all ≡ drop k r ++ back =
    sym (drop-drop k at all) ∙ ap (λ (v : List ℕ). drop k (drop at v)) h.parts ∙ ap (drop k) (drop_at front (r ++ back) at (sym by_at)) ∙ drop-append-le k r back (omega (arith, h.long)) in
    record {
      gap = drop k r;
      long = omega (arith, length-drop k r, h.long);
      parts = is ∙ ap (λ (v : List ℕ). v ++ (bytes ++ drop (at + k) all)) low ∙ ap (λ (v : List ℕ). front ++ (bytes ++ v)) high
          ∙ sym (append_assoc front bytes (drop k r ++ back));
    }

-- a text and bytes, one after the other, in gap for both
pub both-put : (front back all one bytes mid new : List ℕ) (n at k : ℕ) → HasGap front back all n → at ≡ length front → k ≡ length one → n ≡ k + length bytes
    → mid ≡ take at all ++ (one ++ drop (at + k) all) → new ≡ take (at + k) mid ++ (bytes ++ drop (at + k + length bytes) mid) → new ≡ front ++ ((one ++ bytes) ++ back)
both-put front back all one bytes mid new n at k h by_at by_k by_n is_mid is_new =
    let first = HasGap-put front back all one mid n (length bytes) at k h by_at by_k by_n is_mid in
    let there : at + k ≡ length (front ++ one) = omega (arith, length-append front one) in
    let second = HasGap-put (front ++ one) back mid bytes new (length bytes) 0 (at + k) (length bytes) first there refl (omega arith) is_new in
    HasGap-filled ((front ++ one) ++ bytes) back new second
    ∙ ap (λ (v : List ℕ). v ++ back) (append_assoc front one bytes) ∙ append_assoc front (one ++ bytes) back

-- what isn't longer than the gap fits in the whole
pub gap-fits : (front back all : List ℕ) (n at k : ℕ) → HasGap front back all n → at ≡ length front → k ≤ n → at + k ≤ length all
gap-fits front back all n at k h by_at fits = omega (arith, length-HasGap front back all n h)

-- three texts, one after the other, in gap for all
module _ (front back all a b d one two : List ℕ) (n at i j : ℕ) (h : HasGap front back all n) (by_at : at ≡ length front) (by_n : n ≡ length a + length d + length b)
    (is_one : one ≡ take at all ++ (a ++ drop (at + length a) all)) (by_i : i ≡ at + length a) where
  there-first : i ≡ length (front ++ a)
  there-first = omega (arith, length-append front a)

  pub gap-first : HasGap (front ++ a) back one (length b + length d)
  gap-first = HasGap-put front back all a one n (length b + length d) at (length a) h by_at refl (omega arith) is_one

  pub fits-first : i + length b ≤ length one
  fits-first = gap-fits (front ++ a) back one (length b + length d) i (length b) gap-first there-first (omega arith)

  module _ (is_two : two ≡ take i one ++ (b ++ drop (i + length b) one)) (by_j : j ≡ i + length b) where
    there-second : j ≡ length ((front ++ a) ++ b)
    there-second = omega (arith, there-first, length-append (front ++ a) b)

    pub gap-second : HasGap ((front ++ a) ++ b) back two (length d)
    gap-second = HasGap-put (front ++ a) back one b two (length b + length d) (length d) i (length b) gap-first there-first refl refl is_two

    pub fits-second : j + length d ≤ length two
    fits-second = gap-fits ((front ++ a) ++ b) back two (length d) j (length d) gap-second there-second (omega arith)

    pub three-put : (new : List ℕ) → new ≡ take j two ++ (d ++ drop (j + length d) two) → new ≡ front ++ ((a ++ (b ++ d)) ++ back)
    three-put new is =
        let last = HasGap-put ((front ++ a) ++ b) back two d new (length d) 0 j (length d) gap-second there-second refl (omega arith) is in
        HasGap-filled (((front ++ a) ++ b) ++ d) back new last
        ∙ ap (λ (v : List ℕ). v ++ back) (append_assoc (front ++ a) b d ∙ append_assoc front a (b ++ d)) ∙ append_assoc front (a ++ (b ++ d)) back

-- gap in the front of a vector, when what lies after it was copied to where it goes
pub HasGap-opened : (ys : List ℕ) (len at n : ℕ) → at ≤ len → len + n ≤ length ys
    → HasGap (take at (take len ys)) (drop at (take len ys)) (take (len + n) (copy_within ys at len (at + n))) n
HasGap-opened ys len at n within fits =
    let zs = copy_within ys at len (at + n) in
    let gap = take n (drop at zs) in
    let rest = take (len - at) (drop at ys) in
    let more = drop (at + n + (len - at)) ys in
    let parts : zs ≡ take (at + n) ys ++ (rest ++ more) = append_assoc (take (at + n) ys) rest more in
    let a = length-take-le (at + n) ys (omega arith) in
    let b = length-take-le (len - at) (drop at ys) (omega (arith, length-drop at ys)) in
    let c = length-drop (at + n + (len - at)) ys in
    let whole : length zs ≡ length ys = omega (arith, ap length parts, length-append (take (at + n) ys) (rest ++ more), length-append rest more) in
    let long : length gap ≡ n = length-take-le n (drop at zs) (omega (arith, length-drop at zs)) in
    let split : take at zs ++ (gap ++ drop n (drop at zs)) ≡ zs = ap (λ (v : List ℕ). take at zs ++ v) (take-append-drop n (drop at zs)) ∙ take-append-drop at zs in
    record {
      gap = gap;
      long = long;
      parts = ap (take (len + n)) (sym split) ∙ front-inserted ys gap len at n n within long fits refl;
    }

-- gap after the front of a vector
HasGap-after : (ys : List ℕ) (len n : ℕ) → len + n ≤ length ys → HasGap (take len ys) [] (take (len + n) ys) n
HasGap-after ys len n fits =
    let gap = take n (drop len ys) in
    let l = take len ys in
    let r = drop len ys in
    let k : length l ≡ len = length-take-le len ys (omega arith) in
    let long : length gap ≡ n = length-take-le n r (omega (arith, length-drop len ys)) in
    let all : ys ≡ (l ++ gap) ++ drop n r =
    sym (ap (λ (v : List ℕ). l ++ v) (take-append-drop n r) ∙ take-append-drop len ys) ∙ sym (append_assoc l gap (drop n r)) in
    let front : length (l ++ gap) ≡ len + n = omega (arith, length-append l gap) in
    record {
      gap = gap;
      long = long;
      parts = ap (take (len + n)) all ∙ take_at (l ++ gap) (drop n r) (len + n) front ∙ ap (λ (v : List ℕ). l ++ v) (sym (append-nil gap));
    }

-- gap after a text, where what is reserved begins with it
pub HasGap-made : (xs ys old : List ℕ) (len n : ℕ) → take len ys ≡ take len xs → take len xs ≡ old → len + n ≤ length ys → HasGap old [] (take (len + n) ys) n
HasGap-made xs ys old len n front is gap =
    subst (λ (v : List ℕ). HasGap v [] (take (len + n) ys) n) (front ∙ is) (HasGap-after ys len n gap)
