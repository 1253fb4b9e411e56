-- Replaced text, word by word and piece by piece.
use Rattle.std.proofs.Common.{◌≡◌, ◌≢◌, ℕ, zero, suc, ◌+◌, ◌-◌, ◌<◌, ◌≤◌, List, [], ◌∷◌, ◌++◌, Bool, true, false, ◌&&◌}
use Rattle.std.proofs.Common.{◌||◌, ◌==◌, Option, Some, None, ◌⊎◌, inl, inr, if◌then◌else◌, codes, length, take, drop}
use Rattle.std.proofs.Common.{get_or, refl, sym, ap, subst, ◌∙◌, arith, append_assoc, append-nil}
use Rattle.std.proofs.lemmas.List.{length-take-le, get_or-take, get_or-drop, get_or_append_left, get_or_past, take-append-drop}
use Rattle.std.proofs.lemmas.List.Elements.{All-nil, All-cons, All-head, All-tail, All-push, All-same}
use Rattle.std.proofs.lemmas.Bool.{false≢true, and_parts, eqb-true, cases_lt, false_from_ne_true}
use Rattle.std.proofs.Math.Seq.{take-add}
use Rattle.std.specs.Prelude.{All}
use Rattle.abi_scalars.specs.Bytes.{is, begins}
use Rattle.text_filter.specs.Printed.{ReplaceOptions, AnswersEach}
use Rattle.text_filter.specs.Replaced.{is_word_byte, IsWordByte, begins_word, ends_word, IsDot, ends_in_dot, prefix_chars_len, prefix_chars}
use Rattle.text_filter.specs.Replaced.{has_prefix, stripped, is_symbol, past_prefix_chars, symbol_in, IsWordAnswer, answered, unanswered}
use Rattle.text_filter.specs.Replaced.{no_symbol, IsReplaced, no_byte, other, one_word}
use Rattle.text_filter.specs.Progress.{underscore, capital_z, HasPrefixNowhere, HasNothingToRead, AreWordBytes, IsBoundary}
use Rattle.text_filter.proofs.PrefixChars.{any_of, symbol_some}

ends_word-cons : (byte : ℕ) (bytes : List ℕ) → ends_word bytes ≡ true → ends_word (byte ∷ bytes) ≡ true
ends_word-cons byte [] ends = absurd (false≢true ends)
ends_word-cons byte (next ∷ bytes) ends = ends

ends_word-append : (front bytes : List ℕ) → ends_word bytes ≡ true → ends_word (front ++ bytes) ≡ true
ends_word-append [] bytes ends = ends
ends_word-append (byte ∷ front) bytes ends = ends_word-cons byte (front ++ bytes) (ends_word-append front bytes ends)

-- bytes of words end in one
ends_word-all : (word : List ℕ) → word ≢ [] → All IsWordByte word → ends_word word ≡ true
ends_word-all [] some all = absurd (some refl)
ends_word-all (byte ∷ []) some all = All-head IsWordByte byte [] all
ends_word-all (byte ∷ next ∷ bytes) some all = ends_word-all (next ∷ bytes) (λ e. cc) (All-tail IsWordByte byte (next ∷ bytes) all)

-- the last byte, by its place
ends_word-last : (bytes : List ℕ) → ends_word bytes ≡ true → (0 < length bytes) × (is_word_byte (get_or bytes (length bytes - 1) 0) ≡ true)
ends_word-last [] ends = absurd (false≢true ends)
ends_word-last (byte ∷ []) ends = (omega arith, ends)
ends_word-last (byte ∷ next ∷ bytes) ends =
    let more = ends_word-last (next ∷ bytes) ends in
    let place : suc (length (next ∷ bytes) - 1) ≡ length (byte ∷ next ∷ bytes) - 1 = omega arith in
    (omega arith, subst (λ k. is_word_byte (get_or (byte ∷ next ∷ bytes) k 0) ≡ true) place more.1)

-- the first byte, by its place
begins_word-at : (bytes : List ℕ) → begins_word bytes ≡ is_word_byte (get_or bytes 0 0)
begins_word-at [] = refl
begins_word-at (byte ∷ bytes) = refl

begins_word-take : (n : ℕ) (bytes : List ℕ) → begins_word bytes ≡ false → begins_word (take n bytes) ≡ false
begins_word-take zero bytes none = refl
begins_word-take (suc n) [] none = refl
begins_word-take (suc n) (byte ∷ bytes) none = none

-- no byte of a word follows a word
next_after : (word bytes rest : List ℕ) → ends_word word ≡ true → begins_word bytes ≡ false → (ends_word (word ++ bytes) ≡ true → begins_word rest ≡ false)
    → begins_word (bytes ++ rest) ≡ false
next_after word [] rest ends next parted = parted (subst (λ l. ends_word l ≡ true) (sym (append-nil word)) ends)
next_after word (byte ∷ bytes) rest ends next parted = next

-- bytes after bytes, where no word goes on
pub IsReplaced-append : (options : ReplaceOptions) {first text rest more : List ℕ} → IsReplaced options first text → IsReplaced options rest more
    → (ends_word first ≡ true → begins_word rest ≡ false) → IsReplaced options (first ++ rest) (text ++ more)
IsReplaced-append options no_byte second parted = second
IsReplaced-append options (other {byte = byte} {bytes = bytes} no_word first) second parted =
    other no_word (IsReplaced-append options first second (λ ends. parted (ends_word-cons byte bytes ends)))
IsReplaced-append options {rest = rest} {more = more} (one_word {word = word} {bytes = bytes} {answer = answer} {text = text} dots some all dotted undotted is_answer next first) second parted =
    subst (λ l. IsReplaced options l (((answer ++ dots) ++ text) ++ more)) (sym (append_assoc (word ++ dots) bytes rest))
    (subst (IsReplaced options ((word ++ dots) ++ (bytes ++ rest))) (sym (append_assoc (answer ++ dots) text more))
    (one_word dots some all dotted undotted is_answer
    (next_after (word ++ dots) bytes rest (ends_word-all (word ++ dots) some all) next parted)
    (IsReplaced-append options first second (λ ends. parted (ends_word-append (word ++ dots) bytes ends)))))

-- no word goes on from whole words
pub whole_parted : (words rest : List ℕ) → ends_word words ≡ false → ends_word words ≡ true → begins_word rest ≡ false
whole_parted words rest whole ends = absurd (false≢true (sym whole ∙ ends))

-- what ends bytes, where more follow
ends_word-past : (front bytes : List ℕ) (byte : ℕ) → ends_word (front ++ byte ∷ bytes) ≡ ends_word (byte ∷ bytes)
ends_word-past [] bytes byte = refl
ends_word-past (first ∷ []) bytes byte = refl
ends_word-past (first ∷ next ∷ front) bytes byte = ends_word-past (next ∷ front) bytes byte

-- whole words after whole words, or after none
pub whole-append : (first second : List ℕ) → ends_word second ≡ false → (second ≡ [] → ends_word first ≡ false) → ends_word (first ++ second) ≡ false
whole-append first [] whole before = subst (λ l. ends_word l ≡ false) (sym (append-nil first)) (before refl)
whole-append first (byte ∷ bytes) whole before = ends_word-past first bytes byte ∙ whole

-- what follows in whole words
pub whole-drop : (words : List ℕ) (n : ℕ) → ends_word words ≡ false → ends_word (drop n words) ≡ false
whole-drop words n whole =
    false_from_ne_true (ends_word (drop n words)) (λ ends.
    false≢true (sym whole ∙ subst (λ l. ends_word l ≡ true) (take-append-drop n words) (ends_word-append (take n words) (drop n words) ends)))

-- the last byte decides
ends_word-at : (bytes : List ℕ) → 0 < length bytes → ends_word bytes ≡ is_word_byte (get_or bytes (length bytes - 1) 0)
ends_word-at [] some = absurd (omega (arith, some))
ends_word-at (byte ∷ []) some = refl
ends_word-at (byte ∷ next ∷ bytes) some =
    let place : suc (length (next ∷ bytes) - 1) ≡ length (byte ∷ next ∷ bytes) - 1 = omega arith in
    ends_word-at (next ∷ bytes) (omega arith) ∙ ap (λ k. is_word_byte (get_or (byte ∷ next ∷ bytes) k 0)) place

-- bytes up to one that is in no word
pub whole_at : (bytes : List ℕ) (place : ℕ) → place < length bytes → is_word_byte (get_or bytes place 0) ≡ false → ends_word (take (place + 1) bytes) ≡ false
whole_at bytes place inside no_word =
    let long : length (take (place + 1) bytes) ≡ place + 1 = length-take-le (place + 1) bytes (omega (arith, inside)) in
    ends_word-at (take (place + 1) bytes) (omega (arith, long))
    ∙ ap is_word_byte (ap (λ k. get_or (take (place + 1) bytes) k 0) (omega (arith, long)) ∙ get_or-take (place + 1) bytes place 0 (omega arith))
    ∙ no_word

-- a word ends before whole words do
pub word_within : (bytes : List ℕ) (end : ℕ) → 0 < length bytes → ends_word bytes ≡ false → AreWordBytes bytes 0 end → end ≤ length bytes → end < length bytes
word_within bytes end some whole word high =
    elim (cases_lt end (length bytes)) [
      | inl low ↦ low
      | inr past ↦ absurd (false≢true (sym (sym (ends_word-at bytes some) ∙ whole) ∙ word (length bytes - 1) (omega arith) (omega (arith, some, past))))
    ]

-- nor at a boundary
boundary_parted : (bytes : List ℕ) (n m : ℕ) → n ≤ length bytes → IsBoundary bytes n → ends_word (take n bytes) ≡ true
    → begins_word (take m (drop n bytes)) ≡ false
boundary_parted bytes n m inside boundary ends =
    let long : length (take n bytes) ≡ n = length-take-le n bytes inside in
    let last = ends_word-last (take n bytes) ends in
    let some : 0 < n = omega (arith, last.0, long) in
    let place : length (take n bytes) - 1 ≡ n - 1 = ap (λ k. k - 1) long in
    let byte : get_or (take n bytes) (n - 1) 0 ≡ get_or bytes (n - 1) 0 = get_or-take n bytes (n - 1) 0 (omega (arith, some)) in
    let before : is_word_byte (get_or bytes (n - 1) 0) ≡ true =
    ap is_word_byte (sym byte ∙ ap (λ k. get_or (take n bytes) k 0) (sym place)) ∙ last.1 in
    let after : get_or (drop n bytes) 0 0 ≡ get_or bytes n 0 = get_or-drop n bytes 0 0 ∙ ap (λ k. get_or bytes k 0) (omega arith) in
    begins_word-take m (drop n bytes) (begins_word-at (drop n bytes) ∙ ap is_word_byte after ∙ boundary some before)

-- more bytes after a boundary
pub more_replaced : (options : ReplaceOptions) (bytes text more : List ℕ) (n m : ℕ) → n ≤ length bytes → IsBoundary bytes n → IsReplaced options (take n bytes) text
    → IsReplaced options (take m (drop n bytes)) more → IsReplaced options (take (n + m) bytes) (text ++ more)
more_replaced options bytes text more n m inside boundary first second =
    subst (λ l. IsReplaced options l (text ++ more)) (sym (take-add n m bytes))
    (IsReplaced-append options first second (boundary_parted bytes n m inside boundary))

-- a word is its stem and the dots at its end
pub record Split (word : List ℕ) : Type 0 where
  pub stem : List ℕ
  pub dots : List ℕ
  pub word_is : word ≡ stem ++ dots
  pub dotted : All IsDot dots
  pub undotted : ends_in_dot stem ≡ false

split_more : (byte : ℕ) (stem dots : List ℕ) → All IsDot dots → ends_in_dot stem ≡ false → (t : Bool) → is "." byte ≡ t → Split (byte ∷ (stem ++ dots))
split_more byte [] dots dotted undotted true dot =
    record { stem = []; dots = byte ∷ dots; word_is = refl; dotted = All-cons IsDot byte dots dot dotted; undotted = refl }
split_more byte [] dots dotted undotted false dot =
    record { stem = byte ∷ []; dots = dots; word_is = refl; dotted = dotted; undotted = dot }
split_more byte (next ∷ stem) dots dotted undotted t dot =
    record { stem = byte ∷ next ∷ stem; dots = dots; word_is = refl; dotted = dotted; undotted = undotted }

pub split_of : (word : List ℕ) → Split word
split_of [] = record { stem = []; dots = []; word_is = refl; dotted = All-nil IsDot; undotted = refl }
split_of (byte ∷ bytes) =
    let more = split_of bytes in
    subst (λ l. Split (byte ∷ l)) (sym more.word_is) (split_more byte more.stem more.dots more.dotted more.undotted (is "." byte) refl)

-- parts of bytes without a prefix
no_prefix-right : (front bytes : List ℕ) → HasPrefixNowhere (front ++ bytes) → HasPrefixNowhere bytes
no_prefix-right [] bytes none = none
no_prefix-right (byte ∷ front) bytes none = no_prefix-right front bytes (λ k. none (suc k))

pub no_prefix-left : (bytes rest : List ℕ) → HasPrefixNowhere (bytes ++ rest) → HasPrefixNowhere bytes
no_prefix-left bytes rest none k first second =
    elim (cases_lt (suc k) (length bytes)) [
      | inl low ↦ none k (get_or_append_left bytes rest 0 k (omega (arith, low)) ∙ first) (get_or_append_left bytes rest 0 (suc k) low ∙ second)
      | inr high ↦ absurd (omega (arith, sym (get_or_past bytes (suc k) 0 high) ∙ second))
    ]

-- bytes that begin with the prefix of a symbol
begins_prefix : (bytes : List ℕ) → begins (underscore ∷ capital_z ∷ []) bytes ≡ true → HasPrefixNowhere bytes → ⊥
begins_prefix [] front none = absurd (false≢true front)
begins_prefix (first ∷ []) front none = absurd (false≢true ((and_parts (first == underscore) false front).1))
begins_prefix (first ∷ second ∷ bytes) front none =
    let one = and_parts (first == underscore) ((second == capital_z) && true) front in
    let two = and_parts (second == capital_z) true one.1 in
    none 0 (eqb-true first underscore one.0) (eqb-true second capital_z two.0)

after_underscore : (word bytes : List ℕ) → begins (underscore ∷ word) bytes ≡ true → HasPrefixNowhere bytes → ((rest : List ℕ) → begins word rest ≡ true → HasPrefixNowhere rest → ⊥) → ⊥
after_underscore word [] front none goes_on = absurd (false≢true front)
after_underscore word (byte ∷ bytes) front none goes_on =
    goes_on bytes ((and_parts (byte == underscore) (begins word bytes) front).1) (λ k. none (suc k))

-- a symbol has a prefix
prefix_somewhere : (bytes : List ℕ) → has_prefix bytes ≡ true → HasPrefixNowhere bytes → ⊥
prefix_somewhere bytes has none =
    elim (any_of (begins (codes "_Z") bytes) (begins (codes "__Z") bytes) (begins (codes "___Z") bytes) (begins (codes "____Z") bytes) has) [
      | inl one ↦ begins_prefix bytes one none
      | inr (inl two) ↦ after_underscore (codes "_Z") bytes two none begins_prefix
      | inr (inr (inl three)) ↦
          after_underscore (codes "__Z") bytes three none (λ rest front no. after_underscore (codes "_Z") rest front no begins_prefix)
      | inr (inr (inr four)) ↦
          after_underscore (codes "___Z") bytes four none (λ rest front no.
          after_underscore (codes "__Z") rest front no (λ rest2 front2 no2. after_underscore (codes "_Z") rest2 front2 no2 begins_prefix))
    ]

stripped_by : (t : Bool) (byte : ℕ) (bytes : List ℕ) → has_prefix (if t then bytes else byte ∷ bytes) ≡ true → HasPrefixNowhere (byte ∷ bytes) → ⊥
stripped_by true byte bytes has none = prefix_somewhere bytes has (λ k. none (suc k))
stripped_by false byte bytes has none = prefix_somewhere (byte ∷ bytes) has none

symbol_has_prefix : (strip : Bool) (bytes : List ℕ) → is_symbol strip bytes ≡ true → HasPrefixNowhere bytes → ⊥
symbol_has_prefix strip [] is none = absurd (omega (arith, symbol_some strip [] is))
symbol_has_prefix true (byte ∷ bytes) is none = stripped_by ((byte == 95) && true) byte bytes is none
symbol_has_prefix false (byte ∷ bytes) is none = prefix_somewhere (byte ∷ bytes) is none

-- past the prefix characters
no_prefix-drop : (n : ℕ) (word : List ℕ) → HasPrefixNowhere word → HasPrefixNowhere (drop n word)
no_prefix-drop n word none = no_prefix-right (take n word) (drop n word) (subst HasPrefixNowhere (sym (take-append-drop n word)) none)

found_symbol : (all has : Bool) (bytes symbol : List ℕ) → (if all || has then Some bytes else None) ≡ Some symbol → all ≡ false → has ≡ true
found_symbol true has bytes symbol is one = absurd (false≢true (sym one))
found_symbol false true bytes symbol is one = refl
found_symbol false false bytes symbol is one = absurd (cc)

word_has_prefix : (strip all : Bool) (word symbol : List ℕ) → symbol_in strip all word ≡ Some symbol → all ≡ false → HasPrefixNowhere word → ⊥
word_has_prefix strip all word symbol is prefixed none =
    let bytes = past_prefix_chars strip word in
    symbol_has_prefix strip bytes (found_symbol all (is_symbol strip bytes) (stripped strip bytes) symbol is prefixed)
    (no_prefix-drop (prefix_chars_len strip word) word none)

-- what is written for a word: the word itself, where no prefix is in it and no other word is read
record WordText (options : ReplaceOptions) (word : List ℕ) : Type 0 where
  answer : List ℕ
  is_answer : IsWordAnswer options word answer
  same : options.all ≡ false → HasPrefixNowhere word → answer ≡ word

symbol_text : (options : ReplaceOptions) (word symbol : List ℕ) → symbol_in options.strip options.all word ≡ Some symbol → (found : Option (List ℕ)) → options.printing symbol found → WordText options word
symbol_text options word symbol is None none = record { answer = word; is_answer = unanswered is none; same = λ _ _. refl }
symbol_text options word symbol is (Some text) has =
    record {
      answer = prefix_chars options.strip word ++ text;
      is_answer = answered is has;
      same = λ prefixed none. absurd (word_has_prefix options.strip options.all word symbol is prefixed none);
    }

word_text : (options : ReplaceOptions) (laws : AnswersEach options.printing) (word : List ℕ) (found : Option (List ℕ)) → symbol_in options.strip options.all word ≡ found → WordText options word
word_text options laws word None is = record { answer = word; is_answer = no_symbol is; same = λ _ _. refl }
word_text options laws word (Some symbol) is = let found = laws.each symbol in symbol_text options word symbol is found.0 found.1

-- parts of bytes in which nothing is read
word_byte_at : (byte : ℕ) → byte ≡ 0 → is_word_byte byte ≡ true → ⊥
word_byte_at byte is word = false≢true (sym (ap is_word_byte is) ∙ word)

pub nothing-right : (all : Bool) (front bytes : List ℕ) → HasNothingToRead all (front ++ bytes) → HasNothingToRead all bytes
nothing-right all [] bytes none = none
nothing-right true (byte ∷ front) bytes none = nothing-right true front bytes (λ k. none (suc k))
nothing-right false (byte ∷ front) bytes none = nothing-right false front bytes (λ k. none (suc k))

pub nothing-left : (all : Bool) (bytes rest : List ℕ) → HasNothingToRead all (bytes ++ rest) → HasNothingToRead all bytes
nothing-left true bytes rest none = λ k word.
    elim (cases_lt k (length bytes)) [
      | inl low ↦ none k (ap is_word_byte (get_or_append_left bytes rest 0 k low) ∙ word)
      | inr high ↦ word_byte_at (get_or bytes k 0) (get_or_past bytes k 0 high) word
    ]
nothing-left false bytes rest none = no_prefix-left bytes rest none

-- bytes have a replaced text: they themselves, where nothing in them is read
record BytesText (options : ReplaceOptions) (bytes : List ℕ) : Type 0 where
  text : List ℕ
  replaced : IsReplaced options bytes text
  same : HasNothingToRead options.all bytes → text ≡ bytes

-- a word, and what follows it
same_after : (options : ReplaceOptions) (word bytes : List ℕ) (split : Split word) (found : WordText options split.stem) (rest : BytesText options bytes) → word ≢ [] → All IsWordByte word
    → (all : Bool) → options.all ≡ all → HasNothingToRead all (word ++ bytes) → (found.answer ++ split.dots) ++ rest.text ≡ word ++ bytes
same_after options [] bytes split found rest some words true is none = absurd (some refl)
same_after options (byte ∷ word) bytes split found rest some words true is none = absurd (none 0 (All-head IsWordByte byte word words))
same_after options word bytes split found rest some words false is none =
    let in_word : HasPrefixNowhere (split.stem ++ split.dots) = subst HasPrefixNowhere split.word_is (no_prefix-left word bytes none) in
    ap (λ l. (l ++ split.dots) ++ rest.text) (found.same is (no_prefix-left split.stem split.dots in_word))
    ∙ ap (λ l. l ++ rest.text) (sym split.word_is)
    ∙ ap (λ l. word ++ l) (rest.same (subst (λ a. HasNothingToRead a bytes) (sym is) (no_prefix-right word bytes none)))

after_word : (options : ReplaceOptions) (laws : AnswersEach options.printing) (word bytes : List ℕ) → word ≢ [] → All IsWordByte word → begins_word bytes ≡ false → BytesText options bytes → BytesText options (word ++ bytes)
after_word options laws word bytes some all next rest =
    let split = split_of word in
    let found = word_text options laws split.stem (symbol_in options.strip options.all split.stem) refl in
    let text : List ℕ = (found.answer ++ split.dots) ++ rest.text in
    let back : split.stem ++ split.dots ≡ word = sym split.word_is in
    record {
      text = text;
      replaced = subst (λ l. IsReplaced options (l ++ bytes) text) back
          (one_word split.dots (λ e. some (split.word_is ∙ e)) (All-same IsWordByte (split.stem ++ split.dots) word back all) split.dotted split.undotted found.is_answer next rest.replaced);
      same = same_after options word bytes split found rest some all options.all refl;
    }

-- there may be no byte of the word yet
after_front : (options : ReplaceOptions) (laws : AnswersEach options.printing) (word bytes : List ℕ) → All IsWordByte word → begins_word bytes ≡ false → BytesText options bytes → BytesText options (word ++ bytes)
after_front options laws [] bytes all next rest = rest
after_front options laws (byte ∷ word) bytes all next rest = after_word options laws (byte ∷ word) bytes (λ e. cc) all next rest

none_text : (options : ReplaceOptions) → BytesText options []
none_text options = record { text = []; replaced = no_byte; same = λ _. refl }

-- the next byte is in the word, or none of words
at_byte : (options : ReplaceOptions) (laws : AnswersEach options.printing) (word bytes : List ℕ) (byte : ℕ) → All IsWordByte word → (t : Bool) → is_word_byte byte ≡ t
    → (All IsWordByte (word ++ byte ∷ []) → BytesText options ((word ++ byte ∷ []) ++ bytes)) → BytesText options bytes
    → BytesText options (word ++ byte ∷ bytes)
at_byte options laws word bytes byte all true is longer rest =
    subst (BytesText options) (append_assoc word (byte ∷ []) bytes) (longer (All-push IsWordByte word byte all is))
at_byte options laws word bytes byte all false is longer rest =
    after_front options laws word (byte ∷ bytes) all is
    (record { text = byte ∷ rest.text; replaced = other is rest.replaced; same = λ none. ap (λ l. byte ∷ l) (rest.same (nothing-right options.all (byte ∷ []) bytes none)) })

from_word : (options : ReplaceOptions) (laws : AnswersEach options.printing) (word bytes : List ℕ) → All IsWordByte word → BytesText options (word ++ bytes)
from_word options laws word [] all = after_front options laws word [] all refl (none_text options)
from_word options laws word (byte ∷ bytes) all =
    at_byte options laws word bytes byte all (is_word_byte byte) refl (λ longer. from_word options laws (word ++ byte ∷ []) bytes longer)
    (from_word options laws [] bytes (All-nil IsWordByte))

-- all bytes have a replaced text
pub replaced_of : (options : ReplaceOptions) (laws : AnswersEach options.printing) (bytes : List ℕ) → (text : List ℕ) × IsReplaced options bytes text
replaced_of options laws bytes = let found = from_word options laws [] bytes (All-nil IsWordByte) in (found.text, found.replaced)

-- bytes stay in which nothing is read
pub unread : (options : ReplaceOptions) (laws : AnswersEach options.printing) (bytes : List ℕ) → HasNothingToRead options.all bytes → IsReplaced options bytes bytes
unread options laws bytes none =
    let found = from_word options laws [] bytes (All-nil IsWordByte) in
    subst (IsReplaced options bytes) (found.same none) found.replaced
