-- Where prefixes and words stand.
use Rattle.std.proofs.Common.{◌≡◌, ◌≢◌, ℕ, suc, ◌+◌, ◌-◌, min, ◌<◌, ◌≤◌, List, [], ◌∷◌, ◌++◌, Bool, true, false, ◌&&◌, ◌||◌}
use Rattle.std.proofs.Common.{◌==◌, Some, None, Result, Ok, Err, OnOk, ◌⊎◌, inl, inr, if◌then◌else◌, nat_le, codes}
use Rattle.std.proofs.Common.{length, take, drop, get_or, refl, sym, ap, subst, ◌∙◌, arith, append_assoc, append-nil}
use Rattle.std.proofs.lemmas.List.{length-drop, length-take-le, get_or-take, get_or-drop, get_or_past, take-append-drop, take-take, take_all, take_rest, drop-take, drop-drop}
use Rattle.std.proofs.Math.Seq.{take-add, drop-cons}
use Rattle.std.proofs.lemmas.List.Elements.{All-cons, All-tail, All-get_or, All-from_get_or, All-drop, All-same}
use Rattle.std.proofs.lemmas.Bool.{false≢true, and_parts, or_cases, eqb-true, leb-true, cases_lt, cases_Bool}
use Rattle.std.proofs.lemmas.Str.{IsUtf8-from_ascii}
use Rattle.std.specs.Prelude.{All, IsUtf8}
use Rattle.abi_scalars.specs.Bytes.{is, is_between, is_digit, one_of, begins}
use Rattle.text_filter.specs.Printed.{ReplaceOptions, AnswersEach}
use Rattle.text_filter.specs.Replaced.{is_word_byte, IsWordByte, IsDot, ends_in_dot, has_prefix, stripped, prefix_chars_len, past_prefix_chars, symbol_in, IsWordAnswer, IsReplaced, no_byte, one_word}
use Rattle.text_filter.specs.Progress.{underscore, capital_z, HasNone, IsFirst, HasPrefixNowhere, IsFirstPrefix, HasNoWord, HasNothingToRead, IsFirstToRead, AreWordBytes, IsBoundary, Extends, AppendsReplaced}
use Rattle.text_filter.proofs.ReplacedText.{nothing-left, more_replaced, unread}

-- no prefix ends before the place
abbrev pub NoneUpTo : List ℕ → ℕ → Type 0
NoneUpTo bytes place = (k : ℕ) → suc k < place → get_or bytes k 0 ≡ underscore → get_or bytes (suc k) 0 ≡ capital_z → ⊥

-- nor up to the next `Z`
none_up_to : (bytes : List ℕ) (at more : ℕ) → NoneUpTo bytes at → IsFirst capital_z (drop at bytes) more → NoneUpTo bytes (at + more)
none_up_to bytes at more none first k low one two =
    elim (cases_lt (suc k) at) [
      | inl before ↦ none k before one two
      | inr after ↦
          let j : ℕ = suc k - at in
          let below : j < more = omega (arith, after, low) in
          let inside : j < length (take more (drop at bytes)) = omega (arith, below, first.inside, length-take-le more (drop at bytes) (omega (arith, first.inside))) in
          let place : at + j ≡ suc k = omega (arith, after) in
          All-get_or (λ byte. byte ≢ capital_z) (take more (drop at bytes)) j 0 inside first.before
          (get_or-take more (drop at bytes) j 0 below ∙ get_or-drop at bytes j 0 ∙ ap (λ n. get_or bytes n 0) place ∙ two)
    ]

no_prefix-take : (bytes : List ℕ) (n : ℕ) → n ≤ length bytes → NoneUpTo bytes n → HasPrefixNowhere (take n bytes)
no_prefix-take bytes n inside none k one two =
    let long : length (take n bytes) ≡ n = length-take-le n bytes inside in
    elim (cases_lt (suc k) n) [
      | inl low ↦ none k low (sym (get_or-take n bytes k 0 (omega (arith, low))) ∙ one) (sym (get_or-take n bytes (suc k) 0 low) ∙ two)
      | inr high ↦ absurd (omega (arith, sym (get_or_past (take n bytes) (suc k) 0 (omega (arith, high, long))) ∙ two))
    ]

-- the rest, as a slice has it
first_in_rest : (bytes : List ℕ) (at more : ℕ) → IsFirst capital_z (take (length bytes - at) (drop at bytes)) more → IsFirst capital_z (drop at bytes) more
first_in_rest bytes at more first = subst (λ l. IsFirst capital_z l more) (take_rest bytes at) first

-- an underscore before the next `Z` begins the first prefix
pub prefix_found : (bytes : List ℕ) (at more : ℕ) → at ≤ length bytes → NoneUpTo bytes at → IsFirst capital_z (take (length bytes - at) (drop at bytes)) more
    → 0 < at + more → get_or bytes (at + more - 1) 0 ≡ underscore → IsFirstPrefix bytes (at + more - 1)
prefix_found bytes at more low none first some is_underscore =
    let rest = first_in_rest bytes at more first in
    let inside : at + more < length bytes = omega (arith, rest.inside, length-drop at bytes) in
    let next : suc (at + more - 1) ≡ at + more = omega (arith, some) in
    record {
      inside = omega (arith, inside);
      underscore = is_underscore;
      capital_z = ap (λ n. get_or bytes n 0) next ∙ sym (get_or-drop at bytes more 0) ∙ rest.found;
      before = no_prefix-take bytes (at + more - 1) (omega (arith, inside)) (λ k below. none_up_to bytes at more none rest k (omega (arith, below)));
    }

-- no underscore before it begins none
pub none_past : (bytes : List ℕ) (at more : ℕ) → NoneUpTo bytes at → IsFirst capital_z (take (length bytes - at) (drop at bytes)) more
    → (0 < at + more → get_or bytes (at + more - 1) 0 ≢ underscore) → NoneUpTo bytes (at + more + 1)
none_past bytes at more none first other k low one two =
    elim (cases_lt (suc k) (at + more)) [
      | inl before ↦ none_up_to bytes at more none (first_in_rest bytes at more first) k before one two
      | inr after ↦
          let here : k ≡ at + more - 1 = omega (arith, after, low) in
          other (omega (arith, after, low)) (ap (λ n. get_or bytes n 0) (sym here) ∙ one)
    ]

-- no `Z` is left
pub none_left : (bytes : List ℕ) (at : ℕ) → NoneUpTo bytes at → HasNone capital_z (take (length bytes - at) (drop at bytes)) → HasPrefixNowhere bytes
none_left bytes at none rest k one two =
    elim (cases_lt (suc k) at) [
      | inl before ↦ none k before one two
      | inr after ↦
          let j : ℕ = suc k - at in
          let place : at + j ≡ suc k = omega (arith, after) in
          let byte : get_or (drop at bytes) j 0 ≡ capital_z = get_or-drop at bytes j 0 ∙ ap (λ n. get_or bytes n 0) place ∙ two in
          let none_there : HasNone capital_z (drop at bytes) = subst (HasNone capital_z) (take_rest bytes at) rest in
          elim (cases_lt j (length (drop at bytes))) [
            | inl inside ↦ All-get_or (λ b. b ≢ capital_z) (drop at bytes) j 0 inside none_there byte
            | inr past ↦ absurd (omega (arith, sym (get_or_past (drop at bytes) j 0 past) ∙ byte))
          ]
    ]

-- a front of bytes in which nothing is read
pub nothing-front : (all : Bool) (bytes : List ℕ) (n : ℕ) → HasNothingToRead all bytes → HasNothingToRead all (take n bytes)
nothing-front all bytes n none = nothing-left all (take n bytes) (drop n bytes) (subst (HasNothingToRead all) (sym (take-append-drop n bytes)) none)

pub nothing-shorter : (all : Bool) (bytes : List ℕ) (n m : ℕ) → n ≤ m → HasNothingToRead all (take m bytes) → HasNothingToRead all (take n bytes)
nothing-shorter all bytes n m small none = subst (HasNothingToRead all) (take-take n m bytes small) (nothing-front all (take m bytes) n none)

-- in what is left, as a slice has it
pub nothing-rest : (all : Bool) (bytes : List ℕ) (done more : ℕ) → HasNothingToRead all (take more (take (length bytes - done) (drop done bytes))) → HasNothingToRead all (take more (drop done bytes))
nothing-rest all bytes done more none = subst (λ l. HasNothingToRead all (take more l)) (take_rest bytes done) none

-- in a byte that is in no word
nothing_one : (all : Bool) (bytes : List ℕ) (n : ℕ) → n ≤ 1 → n ≤ length bytes → is_word_byte (get_or bytes 0 0) ≡ false → HasNothingToRead all (take n bytes)
nothing_one false bytes n small inside ended = no_prefix-take bytes n inside (λ j low _ _. absurd (omega (arith, low, small)))
nothing_one true bytes n small inside ended = λ k word.
    let long : length (take n bytes) ≡ n = length-take-le n bytes inside in
    elim (cases_lt k n) [
      | inl low ↦
          let first : k ≡ 0 = omega (arith, low, small) in
          false≢true (sym ended ∙ ap is_word_byte (sym (get_or-take n bytes k 0 low ∙ ap (λ j. get_or bytes j 0) first)) ∙ word)
      | inr high ↦ false≢true (sym (ap is_word_byte (get_or_past (take n bytes) k 0 (omega (arith, high, long)))) ∙ word)
    ]

-- the bytes that were searched are in no word
pub no_word_before : (bytes : List ℕ) (at : ℕ) → at ≤ length bytes → ((k : ℕ) → k < at → is_word_byte (get_or bytes k 0) ≡ true → ⊥) → HasNoWord (take at bytes)
no_word_before bytes at inside none k word =
    let long : length (take at bytes) ≡ at = length-take-le at bytes inside in
    elim (cases_lt k at) [
      | inl low ↦ none k low (ap is_word_byte (sym (get_or-take at bytes k 0 low)) ∙ word)
      | inr high ↦ false≢true (sym (ap is_word_byte (get_or_past (take at bytes) k 0 (omega (arith, high, long)))) ∙ word)
    ]

pub no_word_left : (bytes : List ℕ) (at : ℕ) → length bytes ≤ at → ((k : ℕ) → k < at → is_word_byte (get_or bytes k 0) ≡ true → ⊥) → HasNoWord bytes
no_word_left bytes at past none k word =
    elim (cases_lt k at) [
      | inl low ↦ none k low word
      | inr high ↦ false≢true (sym (ap is_word_byte (get_or_past bytes k 0 (omega (arith, high, past)))) ∙ word)
    ]

-- the first word that is read, by its prefix
pub first_by_prefix : (bytes : List ℕ) (place : ℕ) → IsFirstPrefix bytes place → IsFirstToRead false bytes place
first_by_prefix bytes place first =
    record { inside = first.inside; word = ap is_word_byte first.underscore; before = first.before }

-- a word that is read has a byte
pub some_word : (all : Bool) (bytes : List ℕ) (from more end : ℕ) → IsFirstToRead all (take (length bytes - from) (drop from bytes)) more → from + more ≤ end
    → is_word_byte (get_or bytes end 0) ≡ false → from + more < end
some_word all bytes from more end first low ended =
    elim (cases_lt (from + more) end) [
      | inl below ↦ below
      | inr above ↦
          let there : is_word_byte (get_or bytes (from + more) 0) ≡ true =
          ap is_word_byte (sym (ap (λ l. get_or l more 0) (take_rest bytes from) ∙ get_or-drop from bytes more 0)) ∙ first.word in
          let same : end ≡ from + more = omega (arith, above, low) in
          absurd (false≢true (sym ended ∙ ap (λ n. is_word_byte (get_or bytes n 0)) same ∙ there))
    ]

-- a byte of words is ASCII
between_below : (low high byte : ℕ) → (nat_le low byte && nat_le byte high) ≡ true → byte ≤ high
between_below low high byte is = leb-true byte high ((and_parts (nat_le low byte) (nat_le byte high) is).1)

word_byte_ascii : (byte : ℕ) → is_word_byte byte ≡ true → byte < 128
word_byte_ascii byte is =
    elim (or_cases (is_between "A" "Z" byte || is_between "a" "z" byte || is_digit byte) (one_of (codes "_$.") byte) is) [
      | inl front ↦ elim (or_cases (is_between "A" "Z" byte || is_between "a" "z" byte) (is_digit byte) front) [
        | inl letter ↦ elim (or_cases (is_between "A" "Z" byte) (is_between "a" "z" byte) letter) [
          | inl upper ↦ omega (arith, between_below 65 90 byte upper)
          | inr lower ↦ omega (arith, between_below 97 122 byte lower)
        ]
        | inr digit ↦ omega (arith, between_below 48 57 byte digit)
      ]
      | inr mark ↦ elim (or_cases (byte == 95) ((byte == 36) || ((byte == 46) || false)) mark) [
        | inl one ↦ omega (arith, eqb-true byte 95 one)
        | inr more ↦ elim (or_cases (byte == 36) ((byte == 46) || false) more) [
          | inl two ↦ omega (arith, eqb-true byte 36 two)
          | inr last ↦ elim (or_cases (byte == 46) false last) [
            | inl three ↦ omega (arith, eqb-true byte 46 three)
            | inr none ↦ absurd (false≢true none)
          ]
        ]
      ]
    ]

-- so bytes of words are UTF-8
pub word_utf8 : (word : List ℕ) → All IsWordByte word → IsUtf8 word
word_utf8 word all =
    IsUtf8-from_ascii word (λ i.
    elim (cases_lt i (length word)) [
      | inl inside ↦ word_byte_ascii (get_or word i 0) (All-get_or IsWordByte word i 0 inside all)
      | inr past ↦ omega (arith, get_or_past word i 0 past)
    ])

-- the last byte, where it is a dot
ends_in_dot-last : (bytes : List ℕ) → ends_in_dot bytes ≡ true → (0 < length bytes) × (is "." (get_or bytes (length bytes - 1) 0) ≡ true)
ends_in_dot-last [] ends = absurd (false≢true ends)
ends_in_dot-last (byte ∷ []) ends = (omega arith, ends)
ends_in_dot-last (byte ∷ next ∷ bytes) ends =
    let more = ends_in_dot-last (next ∷ bytes) ends in
    let place : suc (length (next ∷ bytes) - 1) ≡ length (byte ∷ next ∷ bytes) - 1 = omega arith in
    (omega arith, subst (λ k. is "." (get_or (byte ∷ next ∷ bytes) k 0) ≡ true) place more.1)

pub undotted_at : (word : List ℕ) (len : ℕ) → len ≤ length word → get_or word (len - 1) 0 ≢ 46 → ends_in_dot (take len word) ≡ false
undotted_at word len inside no_dot =
    elim (cases_Bool (ends_in_dot (take len word))) [
      | inl ends ↦
          let long : length (take len word) ≡ len = length-take-le len word inside in
          let last = ends_in_dot-last (take len word) ends in
          let dot : get_or (take len word) (length (take len word) - 1) 0 ≡ 46 = eqb-true (get_or (take len word) (length (take len word) - 1) 0) 46 last.1 in
          absurd (no_dot (sym (get_or-take len word (len - 1) 0 (omega (arith, last.0, long))) ∙ ap (λ k. get_or (take len word) (k - 1) 0) (sym long) ∙ dot))
      | inr none ↦ none
    ]

-- bytes of words from one place on, and more of them
pub words_joined : (bytes : List ℕ) (low mid high : ℕ) → AreWordBytes bytes low mid → AreWordBytes bytes mid high → AreWordBytes bytes low high
words_joined bytes low mid high first second k above below =
    elim (cases_lt k mid) [ inl before ↦ first k above before | inr after ↦ second k after below ]

pub word_slice : (bytes : List ℕ) (low high : ℕ) → low ≤ high → high ≤ length bytes → AreWordBytes bytes low high → All IsWordByte (take (high - low) (drop low bytes))
word_slice bytes low high ordered inside word =
    let long : length (take (high - low) (drop low bytes)) ≡ high - low = length-take-le (high - low) (drop low bytes) (omega (arith, length-drop low bytes)) in
    All-from_get_or IsWordByte (take (high - low) (drop low bytes)) 0 (λ k below.
    let small : k < high - low = omega (arith, below, long) in
    subst (λ byte. is_word_byte byte ≡ true) (sym (get_or-take (high - low) (drop low bytes) k 0 small ∙ get_or-drop low bytes k 0))
    (word (low + k) (omega arith) (omega (arith, small))))

-- the symbol is among the bytes
stripped_words : (t : Bool) (byte : ℕ) (bytes : List ℕ) → All IsWordByte (byte ∷ bytes) → All IsWordByte (if t then bytes else byte ∷ bytes)
stripped_words true byte bytes all = All-tail IsWordByte byte bytes all
stripped_words false byte bytes all = all

words_stripped : (strip : Bool) (bytes : List ℕ) → All IsWordByte bytes → All IsWordByte (stripped strip bytes)
words_stripped true [] all = all
words_stripped true (byte ∷ bytes) all = stripped_words ((byte == 95) && true) byte bytes all
words_stripped false bytes all = all

found_is : (b : Bool) (bytes symbol : List ℕ) → (if b then Some bytes else None) ≡ Some symbol → symbol ≡ bytes
found_is true bytes symbol is = cc
found_is false bytes symbol is = absurd (cc)

pub symbol_words : (strip all : Bool) (word symbol : List ℕ) → symbol_in strip all word ≡ Some symbol → All IsWordByte word → All IsWordByte symbol
symbol_words strip all word symbol is words =
    let bytes = past_prefix_chars strip word in
    let rest : All IsWordByte bytes = All-drop IsWordByte (prefix_chars_len strip word) word words in
    All-same IsWordByte symbol (stripped strip bytes) (found_is (all || has_prefix (stripped strip bytes)) (stripped strip bytes) symbol is)
    (words_stripped strip bytes rest)

-- a word, and what is written for it
pub word_replaced : (options : ReplaceOptions) (word answer : List ℕ) (stem : ℕ) → 0 < length word → All IsWordByte word → All IsDot (drop stem word)
    → ends_in_dot (take stem word) ≡ false → IsWordAnswer options (take stem word) answer → IsReplaced options word (answer ++ drop stem word)
word_replaced options word answer stem some all dotted undotted is_answer =
    let whole : take stem word ++ drop stem word ≡ word = take-append-drop stem word in
    let nonempty : take stem word ++ drop stem word ≢ [] = λ e. absurd (omega (arith, some, ap length (sym whole ∙ e))) in
    subst (IsReplaced options word) (append-nil (answer ++ drop stem word))
    (subst (λ l. IsReplaced options l ((answer ++ drop stem word) ++ [])) (append-nil (take stem word ++ drop stem word) ∙ whole)
    (one_word (drop stem word) nonempty (All-same IsWordByte (take stem word ++ drop stem word) word whole all) dotted undotted is_answer refl no_byte))

-- the word itself
pub word_stays : (options : ReplaceOptions) (word : List ℕ) (stem : ℕ) → 0 < length word → All IsWordByte word → All IsDot (drop stem word)
    → ends_in_dot (take stem word) ≡ false → IsWordAnswer options (take stem word) (take stem word) → IsReplaced options word word
word_stays options word stem some all dotted undotted is_answer =
    subst (IsReplaced options word) (take-append-drop stem word) (word_replaced options word (take stem word) stem some all dotted undotted is_answer)

-- after bytes in which nothing is read a word was replaced too
pub turn_replaced : (options : ReplaceOptions) (laws : AnswersEach options.printing) (text old before mid after : List ℕ) (done more start end : ℕ) → end ≤ length text → done ≤ start → start ≤ done + more → start ≤ end
    → IsBoundary text done → IsBoundary text start → AppendsReplaced options (take done text) old before → HasNothingToRead options.all (take more (drop done text))
    → mid ≡ before ++ take (start - done) (drop done text) → AppendsReplaced options (take (end - start) (drop start text)) mid after
    → AppendsReplaced options (take end text) old after
turn_replaced options laws text old before mid after done more start end inside low high ordered first second (written, replaced, before_is) none mid_is (answer, is_answer, after_is) =
    let front : List ℕ = take (start - done) (drop done text) in
    let stays : IsReplaced options front front = unread options laws front (nothing-shorter options.all (drop done text) (start - done) more (omega (arith, high)) none) in
    let up_to : IsReplaced options (take (done + (start - done)) text) (written ++ front) =
    more_replaced options text written front done (start - done) (omega (arith, inside, low, ordered)) first replaced stays in
    let to_start : IsReplaced options (take start text) (written ++ front) = subst (λ n. IsReplaced options (take n text) (written ++ front)) (omega (arith, low)) up_to in
    let to_end : IsReplaced options (take (start + (end - start)) text) ((written ++ front) ++ answer) =
    more_replaced options text (written ++ front) answer start (end - start) (omega (arith, inside, ordered)) second to_start is_answer in (
      (written ++ front) ++ answer,
      subst (λ n. IsReplaced options (take n text) ((written ++ front) ++ answer)) (omega (arith, ordered)) to_end,
      after_is ∙ ap (λ l. l ++ answer) (mid_is ∙ ap (λ l. l ++ front) before_is ∙ append_assoc old written front) ∙ append_assoc old (written ++ front) answer,
    )

-- what stands from one place up to another
abbrev pub part : List ℕ → ℕ → ℕ → List ℕ
part text low high = take (high - low) (drop low text)

pub part_len : (text : List ℕ) (low high : ℕ) → high ≤ length text → length (part text low high) ≡ high - low
part_len text low high inside = length-take-le (high - low) (drop low text) (omega (arith, length-drop low text, inside))

parts_joined : (text : List ℕ) (low mid high : ℕ) → low ≤ mid → mid ≤ high → part text low mid ++ part text mid high ≡ part text low high
parts_joined text low mid high first second =
    sym (ap (λ n. take n (drop low text)) (omega (arith, first, second)) ∙ take-add (mid - low) (high - mid) (drop low text)
    ∙ ap (λ l. part text low mid ++ take (high - mid) l) (drop-drop (mid - low) low text ∙ ap (λ n. drop n text) (omega (arith, first))))

more_parts : (output text : List ℕ) (low mid high : ℕ) → low ≤ mid → mid ≤ high
    → output ++ part text low high ≡ (output ++ part text low mid) ++ part text mid high
more_parts output text low mid high first second =
    ap (λ l. output ++ l) (sym (parts_joined text low mid high first second)) ∙ sym (append_assoc output (part text low mid) (part text mid high))

-- one more word stays, and is yet to be appended
pub stays_replaced : (options : ReplaceOptions) (laws : AnswersEach options.printing) (text old output : List ℕ) (done from more start end : ℕ) → done ≤ from → from ≤ start → start ≤ from + more → start ≤ end
    → end ≤ length text → IsBoundary text from → IsBoundary text start → AppendsReplaced options (take from text) old (output ++ part text done from)
    → HasNothingToRead options.all (take more (drop from text)) → IsReplaced options (part text start end) (part text start end)
    → AppendsReplaced options (take end text) old (output ++ part text done end)
stays_replaced options laws text old output done from more start end kept low high ordered inside first second so_far none replaced =
    turn_replaced options laws text old (output ++ part text done from) (output ++ part text done start) (output ++ part text done end) from more start end
    inside low high ordered first second so_far none (more_parts output text done from start kept low)
    (part text start end, replaced, more_parts output text done start end (omega (arith, kept, low)) ordered)

-- the prefix characters of a word are appended with what stands before it, and the dots at its end are yet to be
answer_placed : (output text answer : List ℕ) (done start chars stem end : ℕ) → done ≤ start → chars ≤ stem → start + stem ≤ end
    → (output ++ (part text done (start + chars) ++ answer)) ++ part text (start + stem) end
    ≡ (output ++ part text done start) ++ ((take chars (part text start end) ++ answer) ++ drop stem (part text start end))
answer_placed output text answer done start chars stem end first second third =
    let before = part text done start in
    let front = take chars (part text start end) in
    let dots = drop stem (part text start end) in
    let front_is : front ≡ part text start (start + chars) =
    take-take chars (end - start) (drop start text) (omega (arith, second, third)) ∙ ap (λ n. take n (drop start text)) (omega arith) in
    let dots_are : part text (start + stem) end ≡ dots =
    sym (ap (λ n. drop stem (take n (drop start text))) (omega (arith, third)) ∙ drop-take stem (end - (start + stem)) (drop start text)
    ∙ ap (take (end - (start + stem))) (drop-drop stem start text)) in
    let whole : part text done (start + chars) ≡ before ++ front =
    sym (ap (λ l. before ++ l) front_is ∙ parts_joined text done start (start + chars) first (omega arith)) in
    append_assoc output (part text done (start + chars) ++ answer) (part text (start + stem) end)
    ∙ ap (λ l. output ++ l) (ap (λ l. (part text done (start + chars) ++ answer) ++ l) dots_are ∙ ap (λ l. (l ++ answer) ++ dots) whole
    ∙ ap (λ l. l ++ dots) (append_assoc before front answer) ∙ append_assoc before (front ++ answer) dots)
    ∙ sym (append_assoc output before ((front ++ answer) ++ dots))

-- one more word is answered
pub answer_replaced : (options : ReplaceOptions) (laws : AnswersEach options.printing) (text old output answer after : List ℕ) (done from more start chars stem end : ℕ) → done ≤ from → from ≤ start → start ≤ from + more
    → start < end → end ≤ length text → IsBoundary text from → IsBoundary text start → AppendsReplaced options (take from text) old (output ++ part text done from)
    → HasNothingToRead options.all (take more (drop from text)) → All IsWordByte (part text start end) → All IsDot (drop stem (part text start end))
    → ends_in_dot (take stem (part text start end)) ≡ false → chars ≤ stem → start + stem ≤ end
    → IsWordAnswer options (take stem (part text start end)) (take chars (take stem (part text start end)) ++ answer)
    → after ≡ output ++ (part text done (start + chars) ++ answer)
    → AppendsReplaced options (take end text) old (after ++ part text (start + stem) end)
answer_replaced options laws text old output answer after done from more start chars stem end kept low high some inside first second so_far none all dotted undotted chars_in stem_in is_answer after_is =
    let word = part text start end in
    let front = take chars (take stem word) in
    turn_replaced options laws text old (output ++ part text done from) (output ++ part text done start) (after ++ part text (start + stem) end) from more start end
    inside low high (omega (arith, some)) first second so_far none (more_parts output text done from start kept low) (
      (front ++ answer) ++ drop stem word,
      word_replaced options word (front ++ answer) stem (omega (arith, some, part_len text start end inside)) all dotted undotted is_answer,
      ap (λ l. l ++ part text (start + stem) end) after_is
          ∙ answer_placed output text answer done start chars stem end (omega (arith, kept, low)) chars_in stem_in
          ∙ ap (λ l. (output ++ part text done start) ++ ((l ++ answer) ++ drop stem word)) (sym (take-take chars stem word chars_in)),
    )

-- the byte at a word's end is in no word, and stays
pub end_past : (options : ReplaceOptions) (laws : AnswersEach options.printing) (text old output : List ℕ) (done end past : ℕ) → done ≤ end → end ≤ length text → past ≡ min (end + 1) (length text)
    → is_word_byte (get_or text end 0) ≡ false → AppendsReplaced options (take end text) old (output ++ part text done end)
    → AppendsReplaced options (take past text) old (output ++ part text done past)
end_past options laws text old output done end past kept inside past_is ended (written, replaced, output_is) =
    let rest : List ℕ = part text end past in
    let byte : is_word_byte (get_or (drop end text) 0 0) ≡ false = ap is_word_byte (get_or-drop end text 0 0) ∙ subst (λ k. is_word_byte (get_or text k 0) ≡ false) (omega arith) ended in
    let none : HasNothingToRead options.all rest =
    nothing_one options.all (drop end text) (past - end) (omega (arith, past_is)) (omega (arith, past_is, inside, length-drop end text)) byte in
    let up_to : IsReplaced options (take (end + (past - end)) text) (written ++ rest) =
    more_replaced options text written rest end (past - end) inside (λ _ _. ended) replaced (unread options laws rest none) in (
      written ++ rest,
      subst (λ n. IsReplaced options (take n text) (written ++ rest)) (omega (arith, past_is, inside)) up_to,
      more_parts output text done end past kept (omega (arith, past_is, inside)) ∙ ap (λ l. l ++ rest) output_is ∙ append_assoc old written rest,
    )

-- the place after it is a boundary
pub boundary_past : (text : List ℕ) (end past : ℕ) → end ≤ length text → past ≡ min (end + 1) (length text)
    → is_word_byte (get_or text end 0) ≡ false → IsBoundary text past
boundary_past text end past inside past_is ended some word =
    elim (cases_lt end (length text)) [
      | inl low ↦ absurd (false≢true (sym ended ∙ ap (λ k. is_word_byte (get_or text k 0)) (omega (arith, low, past_is)) ∙ word))
      | inr high ↦ subst (λ k. is_word_byte (get_or text k 0) ≡ false) (omega (arith, high, inside, past_is)) ended
    ]

-- nothing more is read
rest_replaced : (options : ReplaceOptions) (laws : AnswersEach options.printing) (text old before after : List ℕ) (done : ℕ) → done ≤ length text → IsBoundary text done
    → AppendsReplaced options (take done text) old before → HasNothingToRead options.all (take (length text - done) (drop done text))
    → after ≡ before ++ take (length text - done) (drop done text) → AppendsReplaced options text old after
rest_replaced options laws text old before after done inside boundary (written, replaced, before_is) none after_is =
    let rest : List ℕ = take (length text - done) (drop done text) in
    let all : take (done + (length text - done)) text ≡ text = take_all (done + (length text - done)) text (omega (arith, inside)) in (
      written ++ rest,
      subst (λ l. IsReplaced options l (written ++ rest)) all (more_replaced options text written rest done (length text - done) inside boundary replaced (unread options laws rest none)),
      after_is ∙ ap (λ l. l ++ rest) before_is ∙ append_assoc old written rest,
    )

pub extended : (old output more after : List ℕ) → Extends old output → after ≡ output ++ more → Extends old after
extended old output more after (front, output_is) after_is = (front ++ more, after_is ∙ ap (λ l. l ++ more) output_is ∙ append_assoc old front more)

pub rest_appended : {T E : Type 0} (r : Result T E) (options : ReplaceOptions) (laws : AnswersEach options.printing) (text old output after : List ℕ) (done from : ℕ) → done ≤ from → from ≤ length text → IsBoundary text from
    → AppendsReplaced options (take from text) old (output ++ part text done from) → HasNothingToRead options.all (part text from (length text))
    → OnOk r (after ≡ output ++ part text done (length text)) → OnOk r (AppendsReplaced options text old after)
rest_appended (Ok _) options laws text old output after done from kept inside boundary so_far none after_is =
    rest_replaced options laws text old (output ++ part text done from) after from inside boundary so_far none (after_is ∙ more_parts output text done from (length text) kept inside)
rest_appended (Err _) options laws text old output after done from kept inside boundary so_far none after_is = tt

-- one byte more of a word, in front
pub word_down : (bytes : List ℕ) (place : ℕ) → place < length bytes → is_word_byte (get_or bytes place 0) ≡ true → All IsWordByte (drop (suc place) bytes) → All IsWordByte (drop place bytes)
word_down bytes place inside is all =
    All-same IsWordByte (drop place bytes) (get_or bytes place 0 ∷ drop (suc place) bytes) (drop-cons bytes place 0 inside)
    (All-cons IsWordByte (get_or bytes place 0) (drop (suc place) bytes) is all)

-- a word at the front
pub rest_of_word : (bytes : List ℕ) (end : ℕ) → end ≤ length bytes → AreWordBytes bytes 0 end → All IsWordByte (take end bytes)
rest_of_word bytes end inside word = subst (λ n. All IsWordByte (take n bytes)) (omega arith) (word_slice bytes 0 end (omega arith) inside word)
