-- Filtered text, line by line and piece by piece.
use Rattle.std.proofs.Common.{◌≡◌, ◌≢◌, ℕ, Result, Ok, Err, OnErr, List, [], ◌∷◌, ◌++◌}
use Rattle.std.proofs.Common.{Option, take, drop, refl, sym, ap, subst, ◌∙◌, append_assoc, append-nil, Bool, true}
use Rattle.std.proofs.Common.{false, inl, inr, ◌⊎◌, Some, None}
use Rattle.std.proofs.lemmas.List.{take-append-drop}
use Rattle.std.proofs.lemmas.List.Elements.{All-nil, All-push}
use Rattle.std.specs.Str.{is_utf8}
use Rattle.std.proofs.lemmas.Str.{IsUtf8-from_is_utf8, is_utf8-from_IsUtf8}
use Rattle.std.proofs.lemmas.Bool.{false≢true, cases_eq}
use Rattle.std.proofs.KnownBytes.{Appends-nil, Appends-trans, Appends-kept}
use Rattle.std.specs.Io.KnownBytes.{Appends, Keeps}
use Rattle.text_filter.specs.Printed.{Placement, Lines, Words, ReplaceOptions, Printing, AnswersEach, printing_of}
use Rattle.text_filter.specs.Replaced.{no_byte}
use Rattle.text_filter.specs.Filtered.{line_feed, HasNoLineFeed, AreLinesAnswered, no_line}
use Rattle.text_filter.specs.Filtered.{one_more, IsAnswered, ended, unended, AreWholeFiltered, IsFiltered, IsBeginningOf}
use Rattle.text_filter.specs.Filtered.{IsBeginning, IsLineAnswer, answered, unanswered, not_utf8, WritesFiltered}
use Rattle.text_filter.specs.Filtered.{WritesBeginning}
use Rattle.text_filter.specs.Progress.{AppendsReplaced, WritesFrontOfBytes, WritesWholeFiltered, WritesBeginningOfAny, FiltersUpTo}
use Rattle.text_filter.proofs.ReplacedText.{IsReplaced-append, whole_parted, whole-append, replaced_of}

-- lines after lines, where each is a symbol
pub AreLinesAnswered-append : (printing : Printing) {lines text lines' text' : List ℕ} → AreLinesAnswered printing lines text → AreLinesAnswered printing lines' text' → AreLinesAnswered printing (lines ++ lines') (text ++ text')
AreLinesAnswered-append printing {lines} {text} first no_line =
    subst (λ l. AreLinesAnswered printing l (text ++ [])) (sym (append-nil lines)) (subst (AreLinesAnswered printing lines) (sym (append-nil text)) first)
AreLinesAnswered-append printing {lines} {text} first (one_more {lines = lines'} {text = text'} {line = line} {answer = answer} before unended_line is_answer) =
    subst (λ l. AreLinesAnswered printing l (text ++ (text' ++ (answer ++ line_feed ∷ [])))) (append_assoc lines lines' (line ++ line_feed ∷ []))
    (subst (AreLinesAnswered printing ((lines ++ lines') ++ (line ++ line_feed ∷ []))) (append_assoc text text' (answer ++ line_feed ∷ []))
    (one_more (AreLinesAnswered-append printing first before) unended_line is_answer))

-- bytes after such lines
IsAnswered-append : (printing : Printing) {lines text given text' : List ℕ} → AreLinesAnswered printing lines text → IsAnswered printing given text' → IsAnswered printing (lines ++ given) (text ++ text')
IsAnswered-append printing first (ended more) = ended (AreLinesAnswered-append printing first more)
IsAnswered-append printing {lines} {text} first (unended {lines = lines'} {text = text'} {line = line} {answer = answer} before some unended_line is_answer) =
    subst (λ l. IsAnswered printing l (text ++ (text' ++ answer))) (append_assoc lines lines' line)
    (subst (IsAnswered printing ((lines ++ lines') ++ line)) (append_assoc text text' answer)
    (unended (AreLinesAnswered-append printing first before) some unended_line is_answer))

-- no line
pub no_lines : (placement : Placement) → AreWholeFiltered placement [] []
no_lines (Lines printing) = no_line
no_lines (Words options) = (refl, no_byte)

-- lines after lines
pub AreWholeFiltered-append : (placement : Placement) (lines text lines' text' : List ℕ) → AreWholeFiltered placement lines text → AreWholeFiltered placement lines' text'
    → AreWholeFiltered placement (lines ++ lines') (text ++ text')
AreWholeFiltered-append (Lines printing) lines text lines' text' first second = AreLinesAnswered-append printing first second
AreWholeFiltered-append (Words options) lines text lines' text' first second =
    (whole-append lines lines' second.0 (λ _. first.0), IsReplaced-append options first.1 second.1 (whole_parted lines lines' first.0))

-- bytes after lines
IsFiltered-append : (placement : Placement) (lines text given text' : List ℕ) → AreWholeFiltered placement lines text → IsFiltered placement given text'
    → IsFiltered placement (lines ++ given) (text ++ text')
IsFiltered-append (Lines printing) lines text given text' first second = IsAnswered-append printing first second
IsFiltered-append (Words options) lines text given text' first second =
    IsReplaced-append options first.1 second (whole_parted lines given first.0)

-- a front after a text
pub IsBeginningOf-append : (text written more : List ℕ) → IsBeginningOf written more → IsBeginningOf (text ++ written) (text ++ more)
IsBeginningOf-append text written more is_front =
    (is_front.0, ap (λ l. text ++ l) is_front.1 ∙ sym (append_assoc text written is_front.0))

-- a line has an answer, or stands for itself
answer_of_line : (printing : Printing) (line : List ℕ) (b : Bool) → is_utf8 line ≡ b → (found : Option (List ℕ)) → printing line found → (text : List ℕ) × IsLineAnswer printing line text
answer_of_line printing line false bad found is_answer = (line, not_utf8 (λ good. false≢true (sym bad ∙ is_utf8-from_IsUtf8 line good)))
answer_of_line printing line true good None is_answer = (line, unanswered (IsUtf8-from_is_utf8 line good) is_answer)
answer_of_line printing line true good (Some text) is_answer = (text, answered (IsUtf8-from_is_utf8 line good) is_answer)

line_answered : (printing : Printing) (laws : AnswersEach printing) (line : List ℕ) → (text : List ℕ) × IsLineAnswer printing line text
line_answered printing laws line = let found = laws.each line in answer_of_line printing line (is_utf8 line) refl found.0 found.1

-- a last line has an answer, or stands for itself
last_answered : (printing : Printing) (laws : AnswersEach printing) (line : List ℕ) → HasNoLineFeed line → (text : List ℕ) × IsAnswered printing line text
last_answered printing laws [] unended_line = ([], ended no_line)
last_answered printing laws (byte ∷ bytes) unended_line =
    let found = line_answered printing laws (byte ∷ bytes) in
    (found.0, unended no_line (λ e. cc) unended_line found.1)

-- the next byte ends the line or is in it
at_byte : (printing : Printing) (laws : AnswersEach printing) (line bytes : List ℕ) (byte : ℕ) → HasNoLineFeed line → (byte ≡ line_feed) ⊎ (byte ≡ line_feed → ⊥)
    → ((text : List ℕ) × IsAnswered printing bytes text) → (HasNoLineFeed (line ++ byte ∷ []) → (text : List ℕ) × IsAnswered printing ((line ++ byte ∷ []) ++ bytes) text)
    → (text : List ℕ) × IsAnswered printing (line ++ byte ∷ bytes) text
at_byte printing laws line bytes byte unended_line (inl is_feed) rest longer =
    let found = line_answered printing laws line in
    let text : List ℕ = (found.0 ++ line_feed ∷ []) ++ rest.0 in (
      text,
      subst (λ l. IsAnswered printing l text) (append_assoc line (line_feed ∷ []) bytes ∙ ap (λ b. line ++ b ∷ bytes) (sym is_feed))
          (IsAnswered-append printing (one_more no_line unended_line found.1) rest.1),
    )
at_byte printing laws line bytes byte unended_line (inr no_feed) rest longer =
    let more = longer (All-push (λ b. b ≢ line_feed) line byte unended_line no_feed) in
    (more.0, subst (λ l. IsAnswered printing l more.0) (append_assoc line (byte ∷ []) bytes) more.1)

-- bytes after the beginning of a line have one
after_line : (printing : Printing) (laws : AnswersEach printing) (line bytes : List ℕ) → HasNoLineFeed line → (text : List ℕ) × IsAnswered printing (line ++ bytes) text
after_line printing laws line [] unended_line =
    let found = last_answered printing laws line unended_line in
    (found.0, subst (λ l. IsAnswered printing l found.0) (sym (append-nil line)) found.1)
after_line printing laws line (byte ∷ bytes) unended_line =
    at_byte printing laws line bytes byte unended_line (cases_eq byte line_feed)
    (after_line printing laws [] bytes (All-nil (λ b. b ≢ line_feed)))
    (λ longer. after_line printing laws (line ++ byte ∷ []) bytes longer)

-- all bytes have a filtered text
filtered_of : (placement : Placement) (laws : AnswersEach (printing_of placement)) (bytes : List ℕ) → (text : List ℕ) × IsFiltered placement bytes text
filtered_of (Lines printing) laws bytes = after_line printing laws [] bytes (All-nil (λ byte. byte ≢ line_feed))
filtered_of (Words options) laws bytes = replaced_of options laws bytes

-- a front of the filtered text of the first lines
of_lines : (placement : Placement) (laws : AnswersEach (printing_of placement)) (lines text given rest written : List ℕ) → given ≡ lines ++ rest → AreWholeFiltered placement lines text → IsBeginningOf written text
    → IsBeginning placement given written
of_lines placement laws lines text given rest written given_is filtered is_front =
    let more = filtered_of placement laws rest in (
      text ++ more.0,
      subst (λ l. IsFiltered placement l (text ++ more.0)) (sym given_is) (IsFiltered-append placement lines text rest more.0 filtered more.1),
      (is_front.0 ++ more.0, ap (λ l. l ++ more.0) is_front.1 ∙ append_assoc written is_front.0 more.0),
    )

-- no byte
nothing_filtered : (placement : Placement) → IsFiltered placement [] []
nothing_filtered (Lines printing) = ended no_line
nothing_filtered (Words options) = no_byte

-- no last line was written
pub no_last : (placement : Placement) (line : List ℕ) (at : Option (List ℕ)) → line ≡ [] → WritesFiltered placement line at at
no_last placement line at line_is = subst (λ l. WritesFiltered placement l at at) (sym line_is) ([], nothing_filtered placement, Appends-nil at)

-- a last line was written
pub last_written : (placement : Placement) (printing : Printing) (line answer : List ℕ) (before after : Option (List ℕ)) → placement ≡ Lines printing → line ≢ [] → HasNoLineFeed line → IsLineAnswer printing line answer
    → Appends before after answer → WritesFiltered placement line before after
last_written placement printing line answer before after is some unended_line is_answer writes =
    subst (λ s. WritesFiltered s line before after) (sym is) (answer, unended no_line some unended_line is_answer, writes)

-- nothing of it was written
pub last_unwritten : (placement : Placement) (laws : AnswersEach (printing_of placement)) (line : List ℕ) (at : Option (List ℕ)) → WritesBeginning placement line at at
last_unwritten placement laws line at =
    let found = filtered_of placement laws line in ([], (found.0, found.1, (found.0, refl)), Appends-nil at)

-- a front of it was written
pub last_begins : (placement : Placement) (printing : Printing) (line answer : List ℕ) (before after : Option (List ℕ)) → placement ≡ Lines printing → line ≢ [] → HasNoLineFeed line → IsLineAnswer printing line answer
    → WritesFrontOfBytes answer before after → WritesBeginning placement line before after
last_begins placement printing line answer before after is some unended_line is_answer (rest, writes) =
    subst (λ s. WritesBeginning s line before after) (sym is)
    (writes.front, (answer, unended no_line some unended_line is_answer, (rest, writes.bytes_are)), writes.written)

-- a last line was written replaced
pub last_replaced : (placement : Placement) (options : ReplaceOptions) (line old output bytes : List ℕ) (before after : Option (List ℕ)) → placement ≡ Words options → old ≡ []
    → AppendsReplaced options line old output → bytes ≡ output → Appends before after bytes → WritesFiltered placement line before after
last_replaced placement options line old output bytes before after is none (text, replaced, output_is) bytes_are writes =
    subst (λ s. WritesFiltered s line before after) (sym is)
    (text, replaced, subst (Appends before after) (bytes_are ∙ output_is ∙ ap (λ l. l ++ text) none) writes)

-- a front of its replaced text was written
pub replaced_begins : (placement : Placement) (options : ReplaceOptions) (line old output bytes : List ℕ) (before after : Option (List ℕ)) → placement ≡ Words options → old ≡ []
    → AppendsReplaced options line old output → bytes ≡ output → WritesFrontOfBytes bytes before after → WritesBeginning placement line before after
replaced_begins placement options line old output bytes before after is none (text, replaced, output_is) bytes_are (rest, writes) =
    subst (λ s. WritesBeginning s line before after) (sym is)
    (writes.front, (text, replaced, (rest, sym (bytes_are ∙ output_is ∙ ap (λ l. l ++ text) none) ∙ writes.bytes_are)), writes.written)

-- nothing was given yet
pub none_filtered : (placement : Placement) (given : List ℕ) (at : Option (List ℕ)) → FiltersUpTo placement given given at at
none_filtered placement given at = record { whole = []; text = []; given_is = refl; filtered = no_lines placement; written = Appends-nil at }

-- lines of what was left were written too
pub lines_filtered : (placement : Placement) (given rest : List ℕ) (n : ℕ) (before mid after : Option (List ℕ))
    → FiltersUpTo placement given rest before mid → WritesWholeFiltered placement (take n rest) mid after → FiltersUpTo placement given (drop n rest) before after
lines_filtered placement given rest n before mid after so_far (text, filtered, writes) =
    record {
      whole = so_far.whole ++ take n rest;
      text = so_far.text ++ text;
      given_is = so_far.given_is ∙ ap (λ l. so_far.whole ++ l) (sym (take-append-drop n rest)) ∙ sym (append_assoc so_far.whole (take n rest) (drop n rest));
      filtered = AreWholeFiltered-append placement so_far.whole so_far.text (take n rest) text so_far.filtered filtered;
      written = Appends-trans before mid after so_far.text text so_far.written writes;
    }

-- nothing of the next line was written
pub next_unwritten : (placement : Placement) (given left : List ℕ) (before mid after : Option (List ℕ))
    → FiltersUpTo placement given left before mid → Keeps mid after → FiltersUpTo placement given left before after
next_unwritten placement given left before mid after so_far keeps =
    record {
      whole = so_far.whole;
      text = so_far.text;
      given_is = so_far.given_is;
      filtered = so_far.filtered;
      written = Appends-kept before mid after so_far.text so_far.written keeps;
    }

-- whatever follows what was given
pub lines_before : (placement : Placement) (given left rest : List ℕ) (before after : Option (List ℕ))
    → FiltersUpTo placement given left before after → FiltersUpTo placement (given ++ rest) (left ++ rest) before after
lines_before placement given left rest before after so_far =
    record {
      whole = so_far.whole;
      text = so_far.text;
      given_is = ap (λ l. l ++ rest) so_far.given_is ∙ append_assoc so_far.whole left rest;
      filtered = so_far.filtered;
      written = so_far.written;
    }

-- what is written stays a beginning
pub filtered_begins : (placement : Placement) (laws : AnswersEach (printing_of placement)) (given left : List ℕ) (before after : Option (List ℕ)) → FiltersUpTo placement given left before after
    → WritesBeginning placement given before after
filtered_begins placement laws given left before after so_far = (
  so_far.text,
  of_lines placement laws so_far.whole so_far.text given left so_far.text so_far.given_is so_far.filtered ([], sym (append-nil so_far.text)),
  so_far.written,
)

-- nothing of lines was written
pub lines_unwritten : (placement : Placement) (laws : AnswersEach (printing_of placement)) (lines : List ℕ) (at : Option (List ℕ)) → WritesBeginningOfAny placement lines at at
lines_unwritten placement laws lines at rest = last_unwritten placement laws (lines ++ rest) at

-- a front of the text of the first lines was written
pub lines_begin : (placement : Placement) (laws : AnswersEach (printing_of placement)) (lines text : List ℕ) (n : ℕ) (before after : Option (List ℕ)) → AreWholeFiltered placement (take n lines) text → WritesFrontOfBytes text before after
    → WritesBeginningOfAny placement lines before after
lines_begin placement laws lines text n before after filtered (left, writes) rest = (
  writes.front,
  of_lines placement laws (take n lines) text (lines ++ rest) (drop n lines ++ rest) writes.front
      (ap (λ l. l ++ rest) (sym (take-append-drop n lines)) ∙ append_assoc (take n lines) (drop n lines) rest)
      filtered (left, writes.bytes_are),
  writes.written,
)

-- the lines of the next piece
pub piece_filtered : (placement : Placement) (given piece left left' : List ℕ) (before mid after : Option (List ℕ))
    → FiltersUpTo placement given left before mid → FiltersUpTo placement (left ++ piece) left' mid after
    → FiltersUpTo placement (given ++ piece) left' before after
piece_filtered placement given piece left left' before mid after so_far more =
    record {
      whole = so_far.whole ++ more.whole;
      text = so_far.text ++ more.text;
      given_is = ap (λ l. l ++ piece) so_far.given_is ∙ append_assoc so_far.whole left piece ∙ ap (λ l. so_far.whole ++ l) more.given_is ∙ sym (append_assoc so_far.whole more.whole left');
      filtered = AreWholeFiltered-append placement so_far.whole so_far.text more.whole more.text so_far.filtered more.filtered;
      written = Appends-trans before mid after so_far.text more.text so_far.written more.written;
    }

-- lines, and a last one
pub WritesFiltered-append : (placement : Placement) (given left : List ℕ) (before mid after : Option (List ℕ)) → FiltersUpTo placement given left before mid
    → WritesFiltered placement left mid after → WritesFiltered placement given before after
WritesFiltered-append placement given left before mid after so_far (text, filtered, writes) = (
  so_far.text ++ text,
  subst (λ l. IsFiltered placement l (so_far.text ++ text)) (sym so_far.given_is)
      (IsFiltered-append placement so_far.whole so_far.text left text so_far.filtered filtered),
  Appends-trans before mid after so_far.text text so_far.written writes,
)

-- a beginning after lines
IsBeginning-append : (placement : Placement) (lines text given written : List ℕ) → AreWholeFiltered placement lines text → IsBeginning placement given written
    → IsBeginning placement (lines ++ given) (text ++ written)
IsBeginning-append placement lines text given written first begins =
    (text ++ begins.0, IsFiltered-append placement lines text given begins.0 first begins.1, IsBeginningOf-append text written begins.0 begins.2)

-- a beginning of the next piece
pub piece_begins : (placement : Placement) (given piece left : List ℕ) (before mid after : Option (List ℕ))
    → FiltersUpTo placement given left before mid → WritesBeginning placement (left ++ piece) mid after
    → WritesBeginning placement (given ++ piece) before after
piece_begins placement given piece left before mid after so_far (written, begins, writes) = (
  so_far.text ++ written,
  subst (λ l. IsBeginning placement l (so_far.text ++ written)) (sym (ap (λ l. l ++ piece) so_far.given_is ∙ append_assoc so_far.whole left piece))
      (IsBeginning-append placement so_far.whole so_far.text (left ++ piece) written so_far.filtered begins),
  Appends-trans before mid after so_far.text written so_far.written writes,
)

-- a beginning of a last line
pub WritesBeginning-append : (placement : Placement) (given left : List ℕ) (before mid after : Option (List ℕ)) → FiltersUpTo placement given left before mid
    → WritesBeginning placement left mid after → WritesBeginning placement given before after
WritesBeginning-append placement given left before mid after so_far (written, begins, writes) = (
  so_far.text ++ written,
  subst (λ l. IsBeginning placement l (so_far.text ++ written)) (sym so_far.given_is)
      (IsBeginning-append placement so_far.whole so_far.text left written so_far.filtered begins),
  Appends-trans before mid after so_far.text written so_far.written writes,
)

-- a beginning of more lines
pub WritesBeginningOfAny-append : (placement : Placement) (given left : List ℕ) (before mid after : Option (List ℕ)) → FiltersUpTo placement given left before mid
    → WritesBeginningOfAny placement left mid after → WritesBeginningOfAny placement given before after
WritesBeginningOfAny-append placement given left before mid after so_far begins rest =
    WritesBeginning-append placement (given ++ rest) (left ++ rest) before mid after
    (lines_before placement given left rest before mid so_far)
    (begins rest)

-- what holds after a fault
pub at_fault : {T E P : Type 0} (r : Result T E) → P → OnErr r P
at_fault (Ok _) p = tt
at_fault (Err _) p = p
