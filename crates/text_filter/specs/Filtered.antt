-- The filtered text of a list of bytes.
use Rattle.std.specs.Prelude.{◌≡◌, ◌≢◌, ℕ, ◌-◌, ◌<◌, List, [], ◌∷◌, ◌++◌, All, true, false, IsUtf8, Option, Some, None, length, slice_index}
use Rattle.std.specs.Io.KnownBytes.{Appends, Consumes}
use Rattle.text_filter.specs.Printed.{Printing, ReplaceOptions, Placement, Lines, Words}
use Rattle.text_filter.specs.Replaced.{ends_word, IsKept, IsReplaced}

-- the byte that ends a line
abbrev pub line_feed : ℕ
line_feed = 10

-- no byte is a line feed
abbrev pub HasNoLineFeed : List ℕ → Type 0
HasNoLineFeed bytes = All (λ byte. byte ≢ line_feed) bytes

-- a line without its line feed, and what is written for it
pub data IsLineAnswer (printing : Printing) (line : List ℕ) : List ℕ → Type 0 where
  -- what is printed for it, if it is UTF-8 and something is printed
  answered : {text : List ℕ} → IsUtf8 line → printing line (Some text) → IsLineAnswer printing line text
  -- the line itself, if nothing is printed for it
  unanswered : IsUtf8 line → printing line None → IsLineAnswer printing line line
  -- the line itself, if it isn't UTF-8
  not_utf8 : ¬ (IsUtf8 line) → IsLineAnswer printing line line

-- lines that each end in a line feed, and what is written where each is a symbol
pub data AreLinesAnswered (printing : Printing) : List ℕ → List ℕ → Type 0 where
  -- there is none
  no_line : AreLinesAnswered printing [] []
  -- one more line: what is written for it is followed by the line feed
  one_more : {lines text line answer : List ℕ} → AreLinesAnswered printing lines text
      → HasNoLineFeed line → IsLineAnswer printing line answer
      → AreLinesAnswered printing (lines ++ (line ++ line_feed ∷ [])) (text ++ (answer ++ line_feed ∷ []))

-- bytes that were read, and what is written where each line is a symbol
pub data IsAnswered (printing : Printing) : List ℕ → List ℕ → Type 0 where
  -- they end in a line feed, or there are none
  ended : {lines text : List ℕ} → AreLinesAnswered printing lines text → IsAnswered printing lines text
  -- a last line has no line feed, and none is written for it
  unended : {lines text line answer : List ℕ} → AreLinesAnswered printing lines text
      → line ≢ [] → HasNoLineFeed line → IsLineAnswer printing line answer
      → IsAnswered printing (lines ++ line) (text ++ answer)

-- there is no byte, or the last is a line feed
abbrev pub EndsInLineFeed : List ℕ → Type 0
EndsInLineFeed bytes = 0 < length bytes → slice_index bytes (length bytes - 1) ≡ line_feed

-- bytes that were read, and their filtered text: where symbols stand in words, it is the replaced text
abbrev pub IsFiltered : Placement → List ℕ → List ℕ → Type 0
IsFiltered (Lines printing) bytes text = IsAnswered printing bytes text
IsFiltered (Words options) bytes text = IsReplaced options bytes text

-- In lines: bytes that are empty or end in a line feed. In words: bytes that are empty or end in a byte of no word.
abbrev pub AreWhole : Placement → List ℕ → Type 0
AreWhole (Lines printing) bytes = EndsInLineFeed bytes
AreWhole (Words options) bytes = ends_word bytes ≡ false

-- whole lines or words, and their filtered text
abbrev pub AreWholeFiltered : Placement → List ℕ → List ℕ → Type 0
AreWholeFiltered (Lines printing) whole text = AreLinesAnswered printing whole text
AreWholeFiltered (Words options) whole text = (ends_word whole ≡ false) × IsReplaced options whole text

-- written is a front of the text
abbrev pub IsBeginningOf : List ℕ → List ℕ → Type 0
IsBeginningOf written text = (rest : List ℕ) × (text ≡ written ++ rest)

-- a beginning of the filtered text of the bytes given was written
abbrev pub IsBeginning : Placement → List ℕ → List ℕ → Type 0
IsBeginning placement given written = (text : List ℕ) × IsFiltered placement given text × IsBeginningOf written text

-- the sink got the filtered text of what was given and nothing else, where its bytes are known
abbrev pub WritesFiltered : Placement → List ℕ → Option (List ℕ) → Option (List ℕ) → Type 0
WritesFiltered placement given before after =
    (text : List ℕ) × IsFiltered placement given text × Appends before after text

-- the sink got a beginning of the filtered text of what was given and nothing else, where its bytes are known
abbrev pub WritesBeginning : Placement → List ℕ → Option (List ℕ) → Option (List ℕ) → Type 0
WritesBeginning placement given before after =
    (written : List ℕ) × IsBeginning placement given written × Appends before after written

-- the source gave these bytes, where its bytes are known, and the sink got their filtered text and nothing else, where
-- its bytes are known
pub record FiltersAll (placement : Placement)
    (before after written_before written_after : Option (List ℕ)) : Type 0 where
  pub read : List ℕ
  pub consumed : Consumes before after read
  pub writes : WritesFiltered placement read written_before written_after

-- the source gave a front of its bytes, where they are known, and the sink got a beginning of their filtered text
pub record FiltersBeginning (placement : Placement)
    (before after written_before written_after : Option (List ℕ)) : Type 0 where
  pub read : List ℕ
  pub consumed : Consumes before after read
  pub begins : WritesBeginning placement read written_before written_after

-- the source gave whole lines or words and then these bytes, where its bytes are known, and the sink got the filtered
-- text of the former and nothing else
pub record FiltersWhole (placement : Placement)
    (before after written_before written_after : Option (List ℕ)) : Type 0 where
  pub whole : List ℕ
  pub left : List ℕ
  pub consumed : Consumes before after (whole ++ left)
  pub text : List ℕ
  pub filtered : AreWholeFiltered placement whole text
  pub written : Appends written_before written_after text

-- the source gave whole lines and a part of one more, where its bytes are known, and the sink got the filtered text
-- of the whole lines and nothing else
pub record FiltersAllButKept (printing : Printing)
    (before after written_before written_after : Option (List ℕ)) : Type 0 where
  pub whole : List ℕ
  pub line : List ℕ
  pub consumed : Consumes before after (whole ++ line)
  pub unended : HasNoLineFeed line
  pub text : List ℕ
  pub filtered : AreLinesAnswered printing whole text
  pub written : Appends written_before written_after text

-- the source gave these bytes and then those that are held back, where its bytes are known, and the sink got the
-- replaced text of the former and nothing else
pub record ReplacesAllButKept (options : ReplaceOptions)
    (before after written_before written_after : Option (List ℕ)) : Type 0 where
  pub given : List ℕ
  pub kept : List ℕ
  pub consumed : Consumes before after (given ++ kept)
  pub is_kept : IsKept options kept
  -- what is held back begins a word
  pub begins : ends_word given ≡ true → kept ≡ []
  pub text : List ℕ
  pub replaced : IsReplaced options given text
  pub written : Appends written_before written_after text
