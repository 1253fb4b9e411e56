-- What has been written on the way.
use Rattle.std.specs.Prelude.{◌≡◌, ◌≢◌, ℕ, suc, ◌-◌, ◌<◌, ◌≤◌, List, [], ◌++◌, All, Bool, true, false, Option, length, take, slice_index}
use Rattle.std.specs.Io.KnownBytes.{Appends, Consumes, IsAtEnd}
use Rattle.text_filter.specs.Printed.{ReplaceOptions, Placement, Lines, Words}
use Rattle.text_filter.specs.Filtered.{line_feed, HasNoLineFeed, AreWholeFiltered, IsBeginningOf, WritesBeginning, FiltersAllButKept, ReplacesAllButKept}
use Rattle.text_filter.specs.Replaced.{is_word_byte, IsWordByte, begins_word, ends_word, IsKept, IsReplaced}

-- no byte is this one
abbrev pub HasNone : ℕ → List ℕ → Type 0
HasNone wanted bytes = All (λ byte. byte ≢ wanted) bytes

-- the first such byte stands there
pub record IsFirst (wanted : ℕ) (bytes : List ℕ) (place : ℕ) : Type 0 where
  pub inside : place < length bytes
  pub found : slice_index bytes place ≡ wanted
  pub before : HasNone wanted (take place bytes)

-- the first line feed stands there
abbrev pub EndsAt : List ℕ → ℕ → Type 0
EndsAt bytes end = IsFirst line_feed bytes end

-- the two bytes of a symbol's prefix
abbrev pub underscore : ℕ
underscore = 95

abbrev pub capital_z : ℕ
capital_z = 90

-- `_Z` stands nowhere
abbrev pub HasPrefixNowhere : List ℕ → Type 0
HasPrefixNowhere bytes = (k : ℕ) → slice_index bytes k ≡ underscore → slice_index bytes (suc k) ≡ capital_z → ⊥

-- The first `_Z` stands there.
pub record IsFirstPrefix (bytes : List ℕ) (place : ℕ) : Type 0 where
  pub inside : place < length bytes
  pub underscore : slice_index bytes place ≡ underscore
  pub capital_z : slice_index bytes (suc place) ≡ capital_z
  pub before : HasPrefixNowhere (take place bytes)

-- no byte is one of words
abbrev pub HasNoWord : List ℕ → Type 0
HasNoWord bytes = (k : ℕ) → is_word_byte (slice_index bytes k) ≡ true → ⊥

-- The bytes have no word that is read: where all are, no word at all, and else no `_Z`.
abbrev pub HasNothingToRead : Bool → List ℕ → Type 0
HasNothingToRead true bytes = HasNoWord bytes
HasNothingToRead false bytes = HasPrefixNowhere bytes

-- The first word that is read has a byte there, and no word before it is read.
pub record IsFirstToRead (all : Bool) (bytes : List ℕ) (place : ℕ) : Type 0 where
  pub inside : place < length bytes
  pub word : is_word_byte (slice_index bytes place) ≡ true
  pub before : HasNothingToRead all (take place bytes)

-- from one place up to another all are bytes of words
abbrev pub AreWordBytes : List ℕ → ℕ → ℕ → Type 0
AreWordBytes bytes low high = (k : ℕ) → low ≤ k → k < high → is_word_byte (slice_index bytes k) ≡ true

-- the place does not stand between two bytes of a word
abbrev pub IsBoundary : List ℕ → ℕ → Type 0
IsBoundary bytes place =
    0 < place → is_word_byte (slice_index bytes (place - 1)) ≡ true → is_word_byte (slice_index bytes place) ≡ false

-- more was appended
abbrev pub Extends : List ℕ → List ℕ → Type 0
Extends before after = (more : List ℕ) × (after ≡ before ++ more)

-- the replaced text of the bytes was appended
abbrev pub AppendsReplaced : ReplaceOptions → List ℕ → List ℕ → List ℕ → Type 0
AppendsReplaced options bytes before after =
    (text : List ℕ) × IsReplaced options bytes text × (after ≡ before ++ text)

-- these bytes were written up to the rest
pub record WritesBytesUpTo (bytes rest : List ℕ) (before after : Option (List ℕ)) : Type 0 where
  pub front : List ℕ
  pub bytes_are : bytes ≡ front ++ rest
  pub written : Appends before after front

-- a front of these bytes was written
abbrev pub WritesFrontOfBytes : List ℕ → Option (List ℕ) → Option (List ℕ) → Type 0
WritesFrontOfBytes bytes before after = (rest : List ℕ) × WritesBytesUpTo bytes rest before after

-- the filtered text of whole lines or words was appended
abbrev pub AppendsFiltered : Placement → List ℕ → List ℕ → List ℕ → Type 0
AppendsFiltered placement whole before after =
    (text : List ℕ) × AreWholeFiltered placement whole text × (after ≡ before ++ text)

-- the filtered text of whole lines or words at the front of the bytes given was written, and these bytes are left
pub record FiltersUpTo (placement : Placement) (given left : List ℕ) (before after : Option (List ℕ)) : Type 0 where
  pub whole : List ℕ
  pub text : List ℕ
  pub given_is : given ≡ whole ++ left
  pub filtered : AreWholeFiltered placement whole text
  pub written : Appends before after text

-- the filtered text of whole lines or words at the front was written, and nothing of the next one
abbrev pub FiltersSome : Placement → List ℕ → Option (List ℕ) → Option (List ℕ) → Type 0
FiltersSome placement given before after = (left : List ℕ) × FiltersUpTo placement given left before after

-- the filtered text of these whole lines or words was written
abbrev pub WritesWholeFiltered : Placement → List ℕ → Option (List ℕ) → Option (List ℕ) → Type 0
WritesWholeFiltered placement whole before after =
    (text : List ℕ) × AreWholeFiltered placement whole text × Appends before after text

-- whatever follows these lines or words, a beginning of the filtered text of all was written
abbrev pub WritesBeginningOfAny : Placement → List ℕ → Option (List ℕ) → Option (List ℕ) → Type 0
WritesBeginningOfAny placement whole before after =
    (rest : List ℕ) → WritesBeginning placement (whole ++ rest) before after

-- The chunk has its first `kept` bytes as before, then what was read, up to `end`. If that is nothing, the input ends.
pub record ReadsMore (kept end : ℕ) (old new : List ℕ) (before after : Option (List ℕ)) : Type 0 where
  pub piece : List ℕ
  pub low : kept ≤ end
  pub inside : end ≤ length new
  pub chunk : take end new ≡ take kept old ++ piece
  pub consumed : Consumes before after piece
  pub ended : end ≡ kept → IsAtEnd after

-- `text` is the replaced text of `bytes`, which begin inside a word without a symbol. `word` is the rest of that word.
pub record StartsMidWord (options : ReplaceOptions) (bytes text : List ℕ) : Type 0 where
  pub word : List ℕ
  pub more : List ℕ
  pub more_text : List ℕ
  pub bytes_are : bytes ≡ word ++ more
  pub text_is : text ≡ word ++ more_text
  pub all : All IsWordByte word
  pub next : begins_word more ≡ false
  pub replaced : IsReplaced options more more_text

-- `text` is the replaced text of `bytes`. The truth value says whether they begin inside a word without a symbol.
abbrev pub IsReplacedFrom : ReplaceOptions → Bool → List ℕ → List ℕ → Type 0
IsReplacedFrom options true bytes text = StartsMidWord options bytes text
IsReplacedFrom options false bytes text = IsReplaced options bytes text

-- `text` is the replaced text of `bytes`. `mid_word`: the bytes begin inside a word without a symbol. `goes_on`: such
-- a word continues after them.
pub record ContinuesTo (options : ReplaceOptions) (mid_word : Bool) (bytes text : List ℕ) (goes_on : Bool)
    : Type 0 where
  pub goes :
      (rest more : List ℕ)
      → IsReplacedFrom options goes_on rest more
      → IsReplacedFrom options mid_word (bytes ++ rest) (text ++ more)
  pub ended : goes_on ≡ false → ends_word bytes ≡ false
  pub empty : goes_on ≡ false → bytes ≡ [] → mid_word ≡ false

-- The given bytes are `done ++ left`, and the replaced text of `done` was written. `mid_word` and `goes_on` are those
-- of `ContinuesTo`, for `done`.
pub record ReplacesUpTo (options : ReplaceOptions) (mid_word : Bool) (given left : List ℕ) (goes_on : Bool)
    (written_before written_after : Option (List ℕ)) : Type 0 where
  pub done : List ℕ
  pub text : List ℕ
  pub given_is : given ≡ done ++ left
  pub leads : ContinuesTo options mid_word done text goes_on
  pub written : Appends written_before written_after text

-- A beginning of the replaced text of the given bytes was written. `mid_word` is that of `ContinuesTo`.
abbrev pub ReplacesBeginning : ReplaceOptions → Bool → List ℕ → Option (List ℕ) → Option (List ℕ) → Type 0
ReplacesBeginning options mid_word given before after =
    (written : List ℕ)
    × ((text : List ℕ) × IsReplacedFrom options mid_word given text × IsBeginningOf written text)
    × Appends before after written

-- For all bytes `rest` it holds that a beginning of the replaced text of `given ++ rest` was written.
abbrev pub ReplacesBeginningOfAny : ReplaceOptions → Bool → List ℕ → Option (List ℕ) → Option (List ℕ) → Type 0
ReplacesBeginningOfAny options mid_word given before after =
    (rest : List ℕ) → ReplacesBeginning options mid_word (given ++ rest) before after

-- Bytes that are kept for the next turn. In lines they have no line feed. In words they begin a word that may hold a
-- symbol, or there are none.
abbrev pub AreKept : Placement → List ℕ → Type 0
AreKept (Lines printing) bytes = HasNoLineFeed bytes
AreKept (Words options) bytes = IsKept options bytes

-- The given bytes end in `left`, and the filtered text of those in front of `left` was written. In lines these are
-- whole lines, and `mid_word` and `goes_on` say nothing. In words `mid_word` and `goes_on` are those of `ReplacesUpTo`.
abbrev pub WritesChunkUpTo : Placement → Bool → List ℕ → List ℕ → Bool → Option (List ℕ) → Option (List ℕ) → Type 0
WritesChunkUpTo (Lines printing) mid_word given left goes_on written_before written_after =
    FiltersUpTo (Lines printing) given left written_before written_after
WritesChunkUpTo (Words options) mid_word given left goes_on written_before written_after =
    ReplacesUpTo options mid_word given left goes_on written_before written_after

-- The given bytes begin with whole lines or words, and the filtered text of these was written, and nothing else.
abbrev pub WritesSomeOfChunk : Placement → Bool → List ℕ → Option (List ℕ) → Option (List ℕ) → Type 0
WritesSomeOfChunk placement mid_word given before after =
    (left : List ℕ) × WritesChunkUpTo placement mid_word given left false before after

-- For all bytes `rest` it holds that a beginning of the filtered text of `given ++ rest` was written.
abbrev pub WritesChunkBeginning : Placement → Bool → List ℕ → Option (List ℕ) → Option (List ℕ) → Type 0
WritesChunkBeginning (Lines printing) mid_word given before after =
    WritesBeginningOfAny (Lines printing) given before after
WritesChunkBeginning (Words options) mid_word given before after =
    ReplacesBeginningOfAny options mid_word given before after

-- The bytes `read` were read. They end in `left`, and the filtered text of those in front of `left` was written.
-- `mid_word`: a word without a symbol continues after the written bytes. Then `left` is empty.
pub record CopiesUpTo (placement : Placement) (mid_word : Bool) (left : List ℕ)
    (before after written_before written_after : Option (List ℕ)) : Type 0 where
  pub read : List ℕ
  pub consumed : Consumes before after read
  pub mid_word_keeps_none : mid_word ≡ true → left ≡ []
  pub written : WritesChunkUpTo placement false read left mid_word written_before written_after

-- The filtered text of all bytes that were read was written, except for the last ones, which may be kept (`AreKept`).
abbrev pub WritesAllButKept : Placement → Option (List ℕ) → Option (List ℕ) → Option (List ℕ) → Option (List ℕ) → Type 0
WritesAllButKept (Lines printing) before after written_before written_after =
    FiltersAllButKept printing before after written_before written_after
WritesAllButKept (Words options) before after written_before written_after =
    ReplacesAllButKept options before after written_before written_after
