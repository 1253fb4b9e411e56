-- Where lines end.
use Rattle.std.proofs.Common.{false, ◌≡◌, ◌≢◌, inl, inr, ℕ, zero, suc, ◌+◌, ◌-◌, ◌<◌, ◌≤◌, List, [], ◌∷◌, ◌++◌, None, not, eqb, length, take, drop, get_or, sym, ap, subst, ◌∙◌, arith, append_assoc}
use Rattle.std.proofs.lemmas.Bool.{eqb-true, eqb-false, cases_lt}
use Rattle.std.proofs.lemmas.List.{get_or-take, get_or-drop, length-take-le, length-drop, length-append, take_more, length_push, get_or_push, get_or_append_left, drop_at, drop-drop, take-append-drop, take_rest}
use Rattle.std.proofs.lemmas.List.Elements.{All-from_get_or, All-get_or}
use Rattle.std.proofs.lemmas.Simd.{run_in_chunk_fails, run_in_chunk_stops}
use Rattle.std.proofs.Math.Seq.{take-add}
use Rattle.std.proofs.lemmas.Str.{IsUtf8-take, IsUtf8-drop, IsCharBoundary-after_ascii}
use Rattle.std.specs.Prelude.{IsUtf8}
use Rattle.std.specs.Simd.Lanes.{chunk}
use Rattle.std.specs.List.{prefix_len}
use Rattle.text_filter.specs.Printed.{Placement, Lines, Words, ReplaceOptions, Printing, AnswersEach, printing_of}
use Rattle.text_filter.specs.Filtered.{line_feed, EndsInLineFeed, AreWhole, AreLinesAnswered, no_line, one_more, AreWholeFiltered, IsLineAnswer}
use Rattle.text_filter.specs.Replaced.{ends_word}
use Rattle.text_filter.specs.Progress.{HasNone, IsFirst, EndsAt, HasNothingToRead, AppendsReplaced, AppendsFiltered}
use Rattle.text_filter.proofs.FilteredText.{AreLinesAnswered-append, AreWholeFiltered-append}
use Rattle.text_filter.proofs.ReplacedText.{unread, whole-drop}
use Rattle.text_filter.proofs.LineAnswers.{other_line}

-- a byte is no line feed
abbrev pub is_other : ℕ → Type 0
is_other byte = byte ≢ line_feed

-- no byte of the front is the one that is wanted, place by place
none_at : (wanted : ℕ) (bytes : List ℕ) (at k : ℕ) → at ≤ length bytes → HasNone wanted (take at bytes) → k < at → get_or bytes k 0 ≢ wanted
none_at wanted bytes at k inside before below =
    subst (λ byte. byte ≢ wanted) (get_or-take at bytes k 0 below)
    (All-get_or (λ byte. byte ≢ wanted) (take at bytes) k 0 (omega (arith, length-take-le at bytes inside)) before)

none_before : (wanted : ℕ) (bytes : List ℕ) (at : ℕ) → at ≤ length bytes → ((k : ℕ) → k < at → get_or bytes k 0 ≢ wanted) → HasNone wanted (take at bytes)
none_before wanted bytes at inside each =
    All-from_get_or (λ byte. byte ≢ wanted) (take at bytes) 0 (λ k below.
    let low : k < at = omega (arith, length-take-le at bytes inside) in
    subst (λ byte. byte ≢ wanted) (sym (get_or-take at bytes k 0 low)) (each k low))

-- it isn't in lanes that were passed
pub lanes_passed : (wanted : ℕ) (bytes : List ℕ) (at count n : ℕ) → at + 32 ≤ length bytes → HasNone wanted (take at bytes)
    → count ≡ prefix_len (λ byte. not (eqb byte wanted)) (chunk at 32 bytes) → n ≤ count → n ≤ 32 → HasNone wanted (take (at + n) bytes)
lanes_passed wanted bytes at count n fits_16 before counted passed small =
    none_before wanted bytes (at + n) (omega arith) (λ k below.
    elim (cases_lt k at) [
      | inl low ↦ none_at wanted bytes at k (omega arith) before low
      | inr high ↦ eqb-false (get_or bytes k 0) wanted (run_in_chunk_fails (λ byte. eqb byte wanted) bytes at 32 count 0 fits_16 counted k high (omega arith))
    ])

-- the lanes with the first one
pub lanes_end : (wanted : ℕ) (bytes : List ℕ) (at count : ℕ) → at + 32 ≤ length bytes → HasNone wanted (take at bytes)
    → count ≡ prefix_len (λ byte. not (eqb byte wanted)) (chunk at 32 bytes) → count < 32 → IsFirst wanted bytes (at + count)
lanes_end wanted bytes at count fits_16 before counted small =
    record {
      inside = omega arith;
      found = eqb-true (get_or bytes (at + count) 0) wanted (run_in_chunk_stops (λ byte. eqb byte wanted) bytes at 32 count 0 fits_16 counted small);
      before = lanes_passed wanted bytes at count count fits_16 before counted (omega arith) (omega arith);
    }

-- what follows lines ends in a line feed where they all do
ended_after : (lines : List ℕ) (n : ℕ) → EndsInLineFeed lines → EndsInLineFeed (drop n lines)
ended_after lines n ended some =
    let left : length (drop n lines) ≡ length lines - n = length-drop n lines in
    get_or-drop n lines (length (drop n lines) - 1) 0
    ∙ ap (λ k. get_or lines k 0) (omega (arith, left))
    ∙ ended (omega (arith, left))

-- and what follows whole lines or words
pub whole_after : (placement : Placement) (lines : List ℕ) (n : ℕ) → AreWhole placement lines → AreWhole placement (drop n lines)
whole_after (Lines printing) lines n whole = ended_after lines n whole
whole_after (Words options) lines n whole = whole-drop lines n whole

-- so are words
pub whole_words : (placement : Placement) (options : ReplaceOptions) (text : List ℕ) → placement ≡ Words options → AreWhole placement text → ends_word text ≡ false
whole_words placement options text is whole = subst (λ s. AreWhole s text) is whole

-- the first line with its line feed
pub with_feed : (lines : List ℕ) (end : ℕ) → EndsAt lines end → take (end + 1) lines ≡ take end lines ++ line_feed ∷ []
with_feed lines end ends = take_more lines end 0 ends.inside ∙ ap (λ byte. take end lines ++ byte ∷ []) ends.found

-- the first line, and what is written for it
pub first_line : (printing : Printing) (lines answer : List ℕ) (end : ℕ) → EndsAt lines end → IsLineAnswer printing (take end lines) answer
    → AreLinesAnswered printing (take (end + 1) lines) (answer ++ line_feed ∷ [])
first_line printing lines answer end ends is_answer =
    subst (λ l. AreLinesAnswered printing l (answer ++ line_feed ∷ [])) (sym (with_feed lines end ends)) (one_more no_line ends.before is_answer)

-- the first byte of a line
front_byte : (lines : List ℕ) (end : ℕ) → get_or lines 0 0 ≢ 95 → get_or (take end lines) 0 0 ≢ 95
front_byte lines zero ordinary = λ e. absurd (omega (arith, e))
front_byte lines (suc end) ordinary = subst (λ byte. byte ≢ 95) (sym (get_or-take (suc end) lines 0 0 (omega arith))) ordinary

-- the first line, where it is ordinary
pub ordinary_line : (printing : Printing) (stays : (line : List ℕ) → get_or line 0 0 ≢ 95 → printing line None) (lines : List ℕ) (end : ℕ) → EndsAt lines end → get_or lines 0 0 ≢ 95 → AreLinesAnswered printing (take (end + 1) lines) (take (end + 1) lines)
ordinary_line printing stays lines end ends ordinary =
    subst (AreLinesAnswered printing (take (end + 1) lines)) (sym (with_feed lines end ends))
    (first_line printing lines (take end lines) end ends (other_line printing stays (take end lines) (front_byte lines end ordinary)))

-- one more line is inside
pub more_inside : (lines : List ℕ) (len end : ℕ) → EndsAt (take (length lines - len) (drop len lines)) end → len + (end + 1) ≤ length lines
more_inside lines len end ends =
    let there : EndsAt (drop len lines) end = subst (λ l. EndsAt l end) (take_rest lines len) ends in
    omega (arith, there.inside, length-drop len lines)

-- ordinary lines, and one more
pub more_ordinary : (printing : Printing) (stays : (line : List ℕ) → get_or line 0 0 ≢ 95 → printing line None) (lines : List ℕ) (len end : ℕ) → AreLinesAnswered printing (take len lines) (take len lines)
    → EndsAt (take (length lines - len) (drop len lines)) end → get_or lines len 0 ≢ 95
    → AreLinesAnswered printing (take (len + (end + 1)) lines) (take (len + (end + 1)) lines)
more_ordinary printing stays lines len end first ends ordinary =
    let rest : List ℕ = drop len lines in
    let there : EndsAt rest end = subst (λ l. EndsAt l end) (take_rest lines len) ends in
    let front : get_or rest 0 0 ≡ get_or lines len 0 = get_or-drop len lines 0 0 ∙ ap (λ n. get_or lines n 0) (omega arith) in
    let next = ordinary_line printing stays rest end there (λ is. ordinary (sym front ∙ is)) in
    subst (λ l. AreLinesAnswered printing l l) (sym (take-add len (end + 1) lines)) (AreLinesAnswered-append printing first next)

-- whole words of which none is read
pub unread_words : (placement : Placement) (laws : AnswersEach (printing_of placement)) (options : ReplaceOptions) (text : List ℕ) → placement ≡ Words options → ends_word text ≡ false → HasNothingToRead options.all text
    → AreWholeFiltered placement text text
unread_words placement laws options text is whole none =
    subst (λ s. AreWholeFiltered s text text) (sym is) (whole, unread options (subst (λ s. AnswersEach (printing_of s)) is laws) text none)

-- whole words were appended replaced
pub block_appended : (options : ReplaceOptions) (text before after : List ℕ) → ends_word text ≡ false → AppendsReplaced options text before after → AppendsFiltered (Words options) text before after
block_appended options text before after whole (replaced, is_replaced, after_is) = (replaced, (whole, is_replaced), after_is)

-- one line was appended
pub line_appended : (printing : Printing) (lines answer before after : List ℕ) (end : ℕ) → EndsAt lines end → IsLineAnswer printing (take end lines) answer → after ≡ before ++ (answer ++ line_feed ∷ [])
    → AppendsFiltered (Lines printing) (take (end + 1) lines) before after
line_appended printing lines answer before after end ends is_answer after_is = (answer ++ line_feed ∷ [], first_line printing lines answer end ends is_answer, after_is)

-- more lines were appended
pub lines_appended : (placement : Placement) (lines rest before after : List ℕ) (n m : ℕ) → AreWholeFiltered placement (take n lines) before → rest ≡ drop n lines
    → AppendsFiltered placement (take m rest) before after → AreWholeFiltered placement (take (n + m) lines) after
lines_appended placement lines rest before after n m first rest_is (text, filtered, after_is) =
    subst (λ l. AreWholeFiltered placement l after) (sym (take-add n m lines))
    (subst (AreWholeFiltered placement (take n lines ++ take m (drop n lines))) (sym after_is)
    (AreWholeFiltered-append placement (take n lines) before (take m (drop n lines)) text first
    (subst (λ l. AreWholeFiltered placement (take m l) text) rest_is filtered)))

-- lines of the rest were appended, and this is left of it
pub rest_appended : (placement : Placement) (lines rest left before after : List ℕ) (m : ℕ)
    → length rest ≤ length lines → rest ≡ drop (length lines - length rest) lines → AreWholeFiltered placement (take (length lines - length rest) lines) before
    → m ≤ length rest → AppendsFiltered placement (take m rest) before after → left ≡ drop m rest
    → (length left ≤ length lines) × (left ≡ drop (length lines - length left) lines) × AreWholeFiltered placement (take (length lines - length left) lines) after
rest_appended placement lines rest left before after m inside rest_is first bound appended left_is =
    let n : ℕ = length lines - length rest in
    let long : length left ≡ length rest - m = ap length left_is ∙ length-drop m rest in
    let more : n + m ≡ length lines - length left = omega arith in (
      omega arith,
      left_is ∙ ap (drop m) rest_is ∙ drop-drop m n lines ∙ ap (λ k. drop k lines) more,
      subst (λ k. AreWholeFiltered placement (take k lines) after) more (lines_appended placement lines rest before after n m first rest_is appended),
    )

-- a line feed is no part of a longer character
pub line_utf8 : (bytes : List ℕ) (end : ℕ) → EndsAt bytes end → IsUtf8 bytes → IsUtf8 (take end bytes)
line_utf8 bytes end ends utf8 =
    IsUtf8-take bytes end utf8 (let inside = ends.inside in omega arith, λ _ high. absurd (omega (arith, ends.found)))

-- whole lines end in a line feed
answered_ended : {printing : Printing} {lines text : List ℕ} → AreLinesAnswered printing lines text → EndsInLineFeed lines
answered_ended no_line some = absurd (omega (arith, some))
answered_ended (one_more {lines = lines} {line = line} before unended_line is_answer) some =
    let front : List ℕ = lines ++ line in
    let whole : front ++ line_feed ∷ [] ≡ lines ++ (line ++ line_feed ∷ []) = append_assoc lines line (line_feed ∷ []) in
    subst EndsInLineFeed whole (λ _. get_or_push front line_feed 0 (length (front ++ line_feed ∷ []) - 1) (omega (arith, length_push front line_feed))) some

-- what follows them
after_lines : (lines rest : List ℕ) → EndsInLineFeed lines → IsUtf8 (lines ++ rest) → IsUtf8 rest
after_lines [] rest ended utf8 = utf8
after_lines (byte ∷ bytes) rest ended utf8 =
    let lines : List ℕ = byte ∷ bytes in
    let last : ℕ = length lines - 1 in
    let some : 0 < length lines = omega arith in
    let all : length (lines ++ rest) ≡ length lines + length rest = length-append lines rest in
    let feed : get_or (lines ++ rest) last 0 ≡ line_feed = get_or_append_left lines rest 0 last (omega (arith, some)) ∙ ended some in
    subst IsUtf8 (drop_at lines rest (last + 1) (omega (arith, some)))
    (IsUtf8-drop (lines ++ rest) (last + 1) utf8
    (IsCharBoundary-after_ascii (lines ++ rest) last utf8 (omega (arith, some, all)) (omega (arith, feed))))

pub utf8_after : (placement : Placement) (lines text : List ℕ) (n : ℕ) (printing : Printing) → placement ≡ Lines printing → AreWholeFiltered placement (take n lines) text → IsUtf8 lines → IsUtf8 (drop n lines)
utf8_after placement lines text n printing is filtered utf8 =
    after_lines (take n lines) (drop n lines) (answered_ended (subst (λ s. AreWholeFiltered s (take n lines) text) is filtered)) (subst IsUtf8 (sym (take-append-drop n lines)) utf8)
