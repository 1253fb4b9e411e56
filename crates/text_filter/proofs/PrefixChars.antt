-- What the front of a word shows of its symbol.
use Rattle.std.proofs.Common.{◌≡◌, ℕ, suc, ◌+◌, ◌<◌, ◌≤◌, List, [], ◌∷◌, ◌++◌, Bool, true, false, ◌&&◌}
use Rattle.std.proofs.Common.{◌||◌, ◌==◌, Option, Some, None, ◌⊎◌, inl, inr, if◌then◌else◌, codes, length, drop, get_or}
use Rattle.std.proofs.Common.{refl, sym, ap, subst, ◌∙◌, arith}
use Rattle.std.specs.Prelude.{is_some, nat_lt, option_map}
use Rattle.std.proofs.Math.Seq.{drop-cons}
use Rattle.std.proofs.lemmas.Bool.{false≢true, and_parts, and_right, or_parts, eqb-true, ltb-false, cases_Bool, false_from_ne_true}
use Rattle.std.proofs.lemmas.List.{length-drop, drop_all, drop-append-le}
use Rattle.abi_scalars.specs.Bytes.{begins}
use Rattle.text_filter.specs.Replaced.{has_prefix, stripped, is_symbol, ends_section, section_len, dotted_len, mark_len, prefix_chars_len, past_prefix_chars, symbol_at, symbol_in, may_hold_symbol}

-- bytes that begin with a word are as long
begins-len : (word bytes : List ℕ) → begins word bytes ≡ true → length word ≤ length bytes
begins-len [] bytes front = omega arith
begins-len (c ∷ word) [] front = absurd (false≢true front)
begins-len (c ∷ word) (b ∷ bytes) front = let more = begins-len word bytes ((and_parts (b == c) (begins word bytes) front).1) in omega (arith, more)

-- what follows a front as long as the word changes nothing
begins-front : (word bytes rest : List ℕ) → length word ≤ length bytes → begins word (bytes ++ rest) ≡ begins word bytes
begins-front [] bytes rest long = refl
begins-front (c ∷ word) [] rest long = absurd (omega (arith, long))
begins-front (c ∷ word) (b ∷ bytes) rest long = ap (λ t. (b == c) && t) (begins-front word bytes rest (omega (arith, long)))

begins-append : (word bytes rest : List ℕ) → begins word bytes ≡ true → begins word (bytes ++ rest) ≡ true
begins-append word bytes rest front = begins-front word bytes rest (begins-len word bytes front) ∙ front

-- one of four
abbrev or4 : Bool → Bool → Bool → Bool → Bool
or4 a b c d = a || b || c || d

pub any_of : (a b c d : Bool) → or4 a b c d ≡ true → (a ≡ true) ⊎ ((b ≡ true) ⊎ ((c ≡ true) ⊎ (d ≡ true)))
any_of true b c d e = inl refl
any_of false true c d e = inr (inl refl)
any_of false false true d e = inr (inr (inl refl))
any_of false false false true e = inr (inr (inr refl))
any_of false false false false e = absurd (false≢true e)

from1 : (a b c d : Bool) → a ≡ true → or4 a b c d ≡ true
from1 true b c d e = refl
from1 false b c d e = absurd (false≢true e)

from2 : (a b c d : Bool) → b ≡ true → or4 a b c d ≡ true
from2 true b c d e = refl
from2 false true c d e = refl
from2 false false c d e = absurd (false≢true e)

from3 : (a b c d : Bool) → c ≡ true → or4 a b c d ≡ true
from3 true b c d e = refl
from3 false true c d e = refl
from3 false false true d e = refl
from3 false false false d e = absurd (false≢true e)

from4 : (a b c d : Bool) → d ≡ true → or4 a b c d ≡ true
from4 true b c d e = refl
from4 false true c d e = refl
from4 false false true d e = refl
from4 false false false true e = refl
from4 false false false false e = absurd (false≢true e)

-- five bytes show whether the prefix of a symbol stands there
has_prefix-front : (bytes rest : List ℕ) → 5 ≤ length bytes → has_prefix (bytes ++ rest) ≡ has_prefix bytes
has_prefix-front bytes rest long =
    ap (λ t. or4 t (begins (codes "__Z") (bytes ++ rest)) (begins (codes "___Z") (bytes ++ rest)) (begins (codes "____Z") (bytes ++ rest))) (begins-front (codes "_Z") bytes rest (omega (arith, long)))
    ∙ ap (λ t. or4 (begins (codes "_Z") bytes) t (begins (codes "___Z") (bytes ++ rest)) (begins (codes "____Z") (bytes ++ rest))) (begins-front (codes "__Z") bytes rest (omega (arith, long)))
    ∙ ap (λ t. or4 (begins (codes "_Z") bytes) (begins (codes "__Z") bytes) t (begins (codes "____Z") (bytes ++ rest))) (begins-front (codes "___Z") bytes rest (omega (arith, long)))
    ∙ ap (or4 (begins (codes "_Z") bytes) (begins (codes "__Z") bytes) (begins (codes "___Z") bytes)) (begins-front (codes "____Z") bytes rest (omega (arith, long)))

-- it stays one where more bytes follow
has_prefix-append : (bytes rest : List ℕ) → has_prefix bytes ≡ true → has_prefix (bytes ++ rest) ≡ true
has_prefix-append bytes rest has =
    let all = bytes ++ rest in
    let one : Bool = begins (codes "_Z") all in
    let two : Bool = begins (codes "__Z") all in
    let three : Bool = begins (codes "___Z") all in
    let four : Bool = begins (codes "____Z") all in
    elim (any_of (begins (codes "_Z") bytes) (begins (codes "__Z") bytes) (begins (codes "___Z") bytes) (begins (codes "____Z") bytes) has) [
      | inl first ↦ from1 one two three four (begins-append (codes "_Z") bytes rest first)
      | inr (inl second) ↦ from2 one two three four (begins-append (codes "__Z") bytes rest second)
      | inr (inr (inl third)) ↦ from3 one two three four (begins-append (codes "___Z") bytes rest third)
      | inr (inr (inr fourth)) ↦ from4 one two three four (begins-append (codes "____Z") bytes rest fourth)
    ]

-- what follows stays where an underscore is stripped
if_append : (t : Bool) (less more rest : List ℕ) → (if t then less ++ rest else more ++ rest) ≡ (if t then less else more) ++ rest
if_append true less more rest = refl
if_append false less more rest = refl

stripped-append : (strip : Bool) (bytes rest : List ℕ) → 0 < length bytes → stripped strip (bytes ++ rest) ≡ stripped strip bytes ++ rest
stripped-append strip [] rest some = absurd (omega (arith, some))
stripped-append true (byte ∷ bytes) rest some = if_append ((byte == 95) && true) bytes (byte ∷ bytes) rest
stripped-append false (byte ∷ bytes) rest some = refl

if_len : (t : Bool) (byte : ℕ) (bytes : List ℕ) → length (byte ∷ bytes) ≤ length (if t then bytes else byte ∷ bytes) + 1
if_len true byte bytes = omega arith
if_len false byte bytes = omega arith

stripped-len : (strip : Bool) (bytes : List ℕ) → length bytes ≤ length (stripped strip bytes) + 1
stripped-len strip [] = omega arith
stripped-len true (byte ∷ bytes) = if_len ((byte == 95) && true) byte bytes
stripped-len false (byte ∷ bytes) = omega arith

-- six bytes show whether a symbol stands there
is_symbol-front : (strip : Bool) (bytes rest : List ℕ) → 6 ≤ length bytes → is_symbol strip (bytes ++ rest) ≡ is_symbol strip bytes
is_symbol-front strip bytes rest long =
    ap has_prefix (stripped-append strip bytes rest (omega (arith, long)))
    ∙ has_prefix-front (stripped strip bytes) rest (omega (arith, long, stripped-len strip bytes))

-- a symbol has a byte
pub symbol_some : (strip : Bool) (bytes : List ℕ) → is_symbol strip bytes ≡ true → 0 < length bytes
symbol_some true [] is = absurd (false≢true is)
symbol_some false [] is = absurd (false≢true is)
symbol_some strip (byte ∷ bytes) is = omega arith

-- and stays one where more bytes follow
is_symbol-append : (strip : Bool) (bytes rest : List ℕ) → is_symbol strip bytes ≡ true → is_symbol strip (bytes ++ rest) ≡ true
is_symbol-append strip bytes rest is =
    ap has_prefix (stripped-append strip bytes rest (symbol_some strip bytes is)) ∙ has_prefix-append (stripped strip bytes) rest is

-- twelve bytes show it of a word that begins with no dot
mark_len-front : (word rest : List ℕ) → 6 ≤ length word → mark_len (word ++ rest) ≡ mark_len word
mark_len-front [] rest long = absurd (omega (arith, long))
mark_len-front (byte ∷ word) rest long =
    ap (λ t. if begins (codes "$") (byte ∷ word) then 1 else (if t then 6 else 0)) (begins-front (codes "__imp_") (byte ∷ word) rest long)

abbrev len_of : Bool → Bool → ℕ
len_of x y = if x then 1 else (if y then 6 else 0)

which_len : (x y : Bool) → len_of x y ≤ 6
which_len true y = omega arith
which_len false true = omega arith
which_len false false = omega arith

mark_len-most : (word : List ℕ) → mark_len word ≤ 6
mark_len-most word = which_len (begins (codes "$") word) (begins (codes "__imp_") word)

abbrev marked : Bool → List ℕ → Bool
marked strip word = is_symbol strip (drop (mark_len word) word)

shown : (strip : Bool) (word rest : List ℕ) → 12 ≤ length word → marked strip (word ++ rest) ≡ marked strip word
shown strip word rest long =
    let most = mark_len-most word in
    ap (λ n. is_symbol strip (drop n (word ++ rest))) (mark_len-front word rest (omega (arith, long)))
    ∙ ap (is_symbol strip) (drop-append-le (mark_len word) word rest (omega (arith, most, long)))
    ∙ is_symbol-front strip (drop (mark_len word) word) rest (omega (arith, most, long, length-drop (mark_len word) word))

-- bytes don't begin with two words that differ
begins-apart : (front word other bytes : List ℕ) (c d : ℕ) → (c ≡ d → ⊥) → begins (front ++ c ∷ word) bytes ≡ true → begins (front ++ d ∷ other) bytes ≡ false
begins-apart [] word other [] c d apart front_is = absurd (false≢true front_is)
begins-apart [] word other (b ∷ bytes) c d apart front_is =
    false_from_ne_true (begins (d ∷ other) (b ∷ bytes)) (λ yes.
    apart (sym (eqb-true b c ((and_parts (b == c) (begins word bytes) front_is).0)) ∙ eqb-true b d ((and_parts (b == d) (begins other bytes) yes).0)))
begins-apart (f ∷ front) word other [] c d apart front_is = absurd (false≢true front_is)
begins-apart (f ∷ front) word other (b ∷ bytes) c d apart front_is =
    and_right (b == f) (begins (front ++ d ∷ other) bytes)
    (begins-apart front word other bytes c d apart ((and_parts (b == f) (begins (front ++ c ∷ word) bytes) front_is).1))

-- the prefix of a symbol isn't `__imp_`, nor `_imp_`
not_imported_at : (bytes : List ℕ) → has_prefix bytes ≡ true → (begins (codes "__imp_") bytes ≡ false) × (begins (codes "_imp_") bytes ≡ false)
not_imported_at bytes has =
    elim (any_of (begins (codes "_Z") bytes) (begins (codes "__Z") bytes) (begins (codes "___Z") bytes) (begins (codes "____Z") bytes) has) [
      | inl one ↦ (
        begins-apart (codes "_") [] (codes "imp_") bytes 90 95 (λ e. absurd (omega (arith, e))) one,
        begins-apart (codes "_") [] (codes "mp_") bytes 90 105 (λ e. absurd (omega (arith, e))) one,
      )
      | inr (inl two) ↦ (
        begins-apart (codes "__") [] (codes "mp_") bytes 90 105 (λ e. absurd (omega (arith, e))) two,
        begins-apart (codes "_") (codes "Z") (codes "mp_") bytes 95 105 (λ e. absurd (omega (arith, e))) two,
      )
      | inr (inr (inl three)) ↦ (
        begins-apart (codes "__") (codes "Z") (codes "mp_") bytes 95 105 (λ e. absurd (omega (arith, e))) three,
        begins-apart (codes "_") (codes "_Z") (codes "mp_") bytes 95 105 (λ e. absurd (omega (arith, e))) three,
      )
      | inr (inr (inr four)) ↦ (
        begins-apart (codes "__") (codes "_Z") (codes "mp_") bytes 95 105 (λ e. absurd (omega (arith, e))) four,
        begins-apart (codes "_") (codes "__Z") (codes "mp_") bytes 95 105 (λ e. absurd (omega (arith, e))) four,
      )
    ]

not_imported_by : (t : Bool) (byte : ℕ) (bytes : List ℕ) → ((byte == 95) && true) ≡ t → has_prefix (if t then bytes else byte ∷ bytes) ≡ true → begins (codes "__imp_") (byte ∷ bytes) ≡ false
not_imported_by true byte bytes is has = and_right (byte == 95) (begins (codes "_imp_") bytes) (not_imported_at bytes has).1
not_imported_by false byte bytes is has = (not_imported_at (byte ∷ bytes) has).0

-- so a symbol doesn't begin with `__imp_`
not_imported : (strip : Bool) (bytes : List ℕ) → is_symbol strip bytes ≡ true → begins (codes "__imp_") bytes ≡ false
not_imported strip [] is = absurd (omega (arith, symbol_some strip [] is))
not_imported true (byte ∷ bytes) is = not_imported_by ((byte == 95) && true) byte bytes refl is
not_imported false (byte ∷ bytes) is = (not_imported_at (byte ∷ bytes) is).0

-- the prefix characters of a word with a symbol stay where more bytes follow
len_same : (x y z : Bool) → (x ≡ false → y ≡ z) → len_of x y ≡ len_of x z
len_same true y z same = refl
len_same false y z same = ap (len_of false) (same refl)

no_chars : (x y : Bool) → x ≡ false → y ≡ false → len_of x y ≡ 0
no_chars true y one two = absurd (false≢true (sym one))
no_chars false true one two = absurd (false≢true (sym two))
no_chars false false one two = refl

mark_len-append : (strip : Bool) (word rest : List ℕ) → marked strip word ≡ true → mark_len (word ++ rest) ≡ mark_len word
mark_len-append strip [] rest is = absurd (omega (arith, symbol_some strip [] is))
mark_len-append strip (byte ∷ word) rest is =
    let whole : List ℕ = byte ∷ word in
    let one : Bool = begins (codes "$") whole in
    len_same one (begins (codes "__imp_") (whole ++ rest)) (begins (codes "__imp_") whole) (λ none.
    elim (cases_Bool (begins (codes "__imp_") whole)) [
      | inl imported ↦ begins-append (codes "__imp_") whole rest imported ∙ sym imported
      | inr other ↦
          let here : is_symbol strip whole ≡ true = subst (λ n. is_symbol strip (drop n whole) ≡ true) (no_chars one (begins (codes "__imp_") whole) none other) is in
          not_imported strip (whole ++ rest) (is_symbol-append strip whole rest here) ∙ sym other
    ])

symbol_stays : (strip : Bool) (word rest : List ℕ) → marked strip word ≡ true → marked strip (word ++ rest) ≡ true
symbol_stays strip word rest is =
    let some = symbol_some strip (drop (mark_len word) word) is in
    ap (λ n. is_symbol strip (drop n (word ++ rest))) (mark_len-append strip word rest is)
    ∙ ap (is_symbol strip) (drop-append-le (mark_len word) word rest (omega (arith, some, length-drop (mark_len word) word)))
    ∙ is_symbol-append strip (drop (mark_len word) word) rest is

-- in a word that begins with no dot
mark_is : (strip : Bool) (word : List ℕ) → begins (codes ".") word ≡ false → prefix_chars_len strip word ≡ mark_len word
mark_is strip word undotted = ap (λ t. if t then dotted_len (section_len strip word) else mark_len word) undotted

-- whether there is a symbol
at-is : (all : Bool) (bytes : List ℕ) (has : Bool) → is_some (if all || has then Some bytes else None) ≡ (all || has)
at-is true bytes has = refl
at-is false bytes true = refl
at-is false bytes false = refl

pub symbol_in-is : (strip all : Bool) (word : List ℕ) → is_some (symbol_in strip all word) ≡ (all || is_symbol strip (past_prefix_chars strip word))
symbol_in-is strip all word = at-is all (stripped strip (past_prefix_chars strip word)) (is_symbol strip (past_prefix_chars strip word))

none_of : (found : Option (List ℕ)) → is_some found ≡ false → found ≡ None
none_of None without = refl
none_of (Some symbol) without = absurd (false≢true (sym without))

-- equal bytes begin alike
first_same : (word rest stem dots : List ℕ) → word ++ rest ≡ stem ++ dots → 0 < length word → 0 < length stem → begins (codes ".") stem ≡ begins (codes ".") word
first_same [] rest stem dots same some more = absurd (omega (arith, some))
first_same (w ∷ word) rest [] dots same some more = absurd (omega (arith, more))
first_same (w ∷ word) rest (s ∷ stem) dots same some more = let e = same in cc

or_false : (all : Bool) (has : Bool) → all ≡ false → (all || has) ≡ true → has ≡ true
or_false true has is e = absurd (false≢true (sym is))
or_false false has is e = e

-- no front of a word has a symbol where these first bytes of it show none
pub stem_plain : (strip all : Bool) (word rest stem dots : List ℕ) → may_hold_symbol strip all word ≡ false → word ++ rest ≡ stem ++ dots → symbol_in strip all stem ≡ None
stem_plain strip all word rest stem dots plain same =
    let parts = or_parts (nat_lt (length word) 12 || begins (codes ".") word) (is_some (symbol_in strip all word)) plain in
    let front = or_parts (nat_lt (length word) 12) (begins (codes ".") word) parts.0 in
    let long : 12 ≤ length word = ltb-false (length word) 12 front.0 in
    let unread = or_parts all (is_symbol strip (past_prefix_chars strip word)) (sym (symbol_in-is strip all word) ∙ parts.1) in
    let none : marked strip word ≡ false = subst (λ n. is_symbol strip (drop n word) ≡ false) (mark_is strip word front.1) unread.1 in
    none_of (symbol_in strip all stem) (false_from_ne_true (is_some (symbol_in strip all stem)) (λ yes.
    let symbol : is_symbol strip (past_prefix_chars strip stem) ≡ true =
    or_false all (is_symbol strip (past_prefix_chars strip stem)) unread.0 (sym (symbol_in-is strip all stem) ∙ yes) in
    let some = symbol_some strip (past_prefix_chars strip stem) symbol in
    let byte : 0 < length stem = omega (arith, some, length-drop (prefix_chars_len strip stem) stem) in
    let undotted : begins (codes ".") stem ≡ false = first_same word rest stem dots same (omega (arith, long)) byte ∙ front.1 in
    let here : marked strip stem ≡ true = subst (λ n. is_symbol strip (drop n stem) ≡ true) (mark_is strip stem undotted) symbol in
    false≢true (sym none ∙ sym (shown strip word rest long) ∙ ap (marked strip) same ∙ symbol_stays strip stem dots here)))

-- such a word has a byte
pub plain_some : (strip all : Bool) (word : List ℕ) → may_hold_symbol strip all word ≡ false → 0 < length word
plain_some strip all word plain =
    let front = or_parts (nat_lt (length word) 12 || begins (codes ".") word) (is_some (symbol_in strip all word)) plain in
    let long : 12 ≤ length word = ltb-false (length word) 12 ((or_parts (nat_lt (length word) 12) (begins (codes ".") word) front.0).0) in
    omega (arith, long)

-- past a byte that isn't the dot in front of a symbol
section_step : (strip : Bool) (byte : ℕ) (bytes : List ℕ) → ends_section strip (byte ∷ bytes) ≡ false → section_len strip (byte ∷ bytes) ≡ option_map suc (section_len strip bytes)
section_step strip byte bytes none = ap (λ t. if t then Some 1 else option_map suc (section_len strip bytes)) none

one_more : (at : ℕ) (len : Option ℕ) → option_map (λ n. at + n) (option_map suc len) ≡ option_map (λ n. at + 1 + n) len
one_more at None = refl
one_more at (Some n) = ap Some (omega arith)

pub section_on : (strip : Bool) (word : List ℕ) (at : ℕ) → at < length word → ends_section strip (drop at word) ≡ false
    → option_map (λ n. at + n) (section_len strip (drop at word)) ≡ option_map (λ n. at + 1 + n) (section_len strip (drop (at + 1) word))
section_on strip word at inside none =
    let byte = drop-cons word at 0 inside in
    let place : suc at ≡ at + 1 = omega arith in
    ap (option_map (λ n. at + n)) (ap (section_len strip) byte
    ∙ section_step strip (get_or word at 0) (drop (suc at) word) (subst (λ l. ends_section strip l ≡ false) byte none))
    ∙ one_more at (section_len strip (drop (suc at) word))
    ∙ ap (λ k. option_map (λ n. at + 1 + n) (section_len strip (drop k word))) place

pub section_here : (strip : Bool) (word : List ℕ) (at : ℕ) → at < length word → ends_section strip (drop at word) ≡ true → section_len strip (drop at word) ≡ Some 1
section_here strip word at inside ends =
    let byte = drop-cons word at 0 inside in
    ap (section_len strip) byte
    ∙ ap (λ t. if t then Some 1 else option_map suc (section_len strip (drop (suc at) word))) (sym (ap (ends_section strip) byte) ∙ ends)

pub section_none : (strip : Bool) (word : List ℕ) (at : ℕ) → length word ≤ at → section_len strip (drop at word) ≡ None
section_none strip word at past = ap (section_len strip) (drop_all at word past)
