-- What was read and written, chunk by chunk.
use Rattle.std.proofs.Common.{◌≡◌, ◌≢◌, ◌↔◌, ◌+◌, ◌-◌, ◌<◌, ◌≤◌, ℕ, Bool, true, false, Result, Ok, Err, IsTrue, IsErrOf, List, [], ◌++◌, Option, Some, None, IfSome, length, take, drop}
use Rattle.std.proofs.Common.{refl, sym, ap, subst, ◌∙◌, arith, append_assoc, append-nil}
use Rattle.std.proofs.lemmas.List.{length-take-le, take-append-drop, take-append-le, take-take, take_rest, drop-drop}
use Rattle.std.proofs.lemmas.List.Elements.{All-nil}
use Rattle.std.proofs.lemmas.Bool.{false≢true}
use Rattle.text_filter.specs.Printed.{Printing, ReplaceOptions, Placement, Lines, Words, AnswersEach, printing_of}
use Rattle.text_filter.specs.declared.fault.FilterFault.{FilterFault}
use Rattle.text_filter.specs.declared.fault.FilterFault.TheVariants.{Read, Write, Memory}
use Rattle.text_filter.specs.Fault.{IsReadOutcome, IsWriteOutcome, IsRunOutcome}
use Rattle.std.proofs.KnownBytes.{Consumes-nil, Consumes-trans, Consumes-kept, Keeps-refl}
use Rattle.std.specs.Prelude.{All, IsErrAnd}
use Rattle.text_filter.specs.Replaced.{IsWordByte, IsKept, may_hold_symbol}
use Rattle.std.specs.Io.KnownBytes.{Appends, Consumes, IsAtEnd, Keeps}
use Rattle.text_filter.specs.Filtered.{line_feed, HasNoLineFeed, WritesFiltered, WritesBeginning, FiltersAll, FiltersBeginning, FiltersWhole}
use Rattle.text_filter.specs.Progress.{AreKept, CopiesUpTo, FiltersUpTo, ReplacesUpTo, WritesChunkUpTo, ContinuesTo, ReadsMore, ReplacesBeginning, ReplacesBeginningOfAny, WritesAllButKept, WritesChunkBeginning, WritesSomeOfChunk, FiltersSome, WritesBeginningOfAny}
use Rattle.text_filter.proofs.ChunkBytes.{nothing_read}
use Rattle.text_filter.proofs.WordTurns.{no_word_kept, none_replaced, replaced_on, given_more, front_after, front_passed, front_replaced, words_replaced, words_front, whole_words, all_but_kept, replaced_begun, last_on, last_begun, replaced_kept}
use Rattle.text_filter.proofs.FilteredText.{none_filtered, filtered_begins, piece_filtered, piece_begins, next_unwritten, lines_before, WritesFiltered-append, WritesBeginning-append}

-- nothing was written yet
none_written : (placement : Placement) (given : List ℕ) (at : Option (List ℕ)) → WritesChunkUpTo placement false given given false at at
none_written (Lines printing) given at = none_filtered (Lines printing) given at
none_written (Words options) given at = none_replaced options given at

-- the next piece was written
piece_written : (placement : Placement) (mid_word after : Bool) (given piece left left' : List ℕ) (t t' t'' : Option (List ℕ)) → WritesChunkUpTo placement false given left mid_word t t'
    → WritesChunkUpTo placement mid_word (left ++ piece) left' after t' t'' → WritesChunkUpTo placement false (given ++ piece) left' after t t''
piece_written (Lines printing) mid_word after given piece left left' t t' t'' so_far more = piece_filtered (Lines printing) given piece left left' t t' t'' so_far more
piece_written (Words options) mid_word after given piece left left' t t' t'' so_far more =
    replaced_on options false mid_word after (given ++ piece) (left ++ piece) left' t t' t'' (given_more options false mid_word given left piece t t' so_far) more

-- a beginning of it was
piece_begun : (placement : Placement) (mid_word : Bool) (given piece left : List ℕ) (t t' t'' : Option (List ℕ)) → WritesChunkUpTo placement false given left mid_word t t'
    → WritesChunkBeginning placement mid_word (left ++ piece) t' t'' → WritesBeginning placement (given ++ piece) t t''
piece_begun (Lines printing) mid_word given piece left t t' t'' so_far begins =
    piece_begins (Lines printing) given piece left t t' t'' so_far
    (subst (λ l. WritesBeginning (Lines printing) l t' t'') (append-nil (left ++ piece)) (begins []))
piece_begun (Words options) mid_word given piece left t t' t'' so_far begins =
    subst (λ l. ReplacesBeginning options false l t t'') (append-nil (given ++ piece))
    (front_after options false mid_word (given ++ piece) (left ++ piece) t t' t'' (given_more options false mid_word given left piece t t' so_far) begins [])

-- nothing more was written
written_kept : (placement : Placement) (mid_word after : Bool) (given left : List ℕ) (t t' t'' : Option (List ℕ)) → WritesChunkUpTo placement mid_word given left after t t' → Keeps t' t''
    → WritesChunkUpTo placement mid_word given left after t t''
written_kept (Lines printing) mid_word after given left t t' t'' so_far keeps = next_unwritten (Lines printing) given left t t' t'' so_far keeps
written_kept (Words options) mid_word after given left t t' t'' so_far keeps = replaced_kept options mid_word after given left t t' t'' so_far keeps

-- whole lines or words were written of what was read
whole_written : (placement : Placement) (read left : List ℕ) (s s' t t' : Option (List ℕ)) → Consumes s s' read → WritesChunkUpTo placement false read left false t t'
    → FiltersWhole placement s s' t t'
whole_written (Lines printing) read left s s' t t' consumed so_far =
    record {
      whole = so_far.whole;
      left = left;
      consumed = subst (Consumes s s') so_far.given_is consumed;
      text = so_far.text;
      filtered = so_far.filtered;
      written = so_far.written;
    }
whole_written (Words options) read left s s' t t' consumed so_far = whole_words options read left s s' t t' consumed so_far

-- and all of it but what is kept
written_but : (placement : Placement) (mid_word : Bool) (read left : List ℕ) (s s' t t' : Option (List ℕ)) → Consumes s s' read → WritesChunkUpTo placement false read left mid_word t t'
    → (mid_word ≡ true → left ≡ []) → AreKept placement left → WritesAllButKept placement s s' t t'
written_but (Lines printing) mid_word read left s s' t t' consumed so_far none kept =
    record {
      whole = so_far.whole;
      line = left;
      consumed = subst (Consumes s s') so_far.given_is consumed;
      unended = kept;
      text = so_far.text;
      filtered = so_far.filtered;
      written = so_far.written;
    }
written_but (Words options) mid_word read left s s' t t' consumed so_far none kept = all_but_kept options mid_word read left s s' t t' consumed so_far none kept

-- what is written stays a beginning
written_begun : (placement : Placement) (laws : AnswersEach (printing_of placement)) (mid_word : Bool) (read left : List ℕ) (t t' : Option (List ℕ)) → WritesChunkUpTo placement false read left mid_word t t' → WritesBeginning placement read t t'
written_begun (Lines printing) laws mid_word read left t t' so_far = filtered_begins (Lines printing) laws read left t t' so_far
written_begun (Words options) laws mid_word read left t t' so_far = replaced_begun options laws mid_word read left t t' so_far

-- what was left was written too
last_written : (placement : Placement) (mid_word : Bool) (read left : List ℕ) (t t' t'' : Option (List ℕ)) → WritesChunkUpTo placement false read left mid_word t t' → (mid_word ≡ true → left ≡ [])
    → WritesFiltered placement left t' t'' → WritesFiltered placement read t t''
last_written (Lines printing) mid_word read left t t' t'' so_far none writes = WritesFiltered-append (Lines printing) read left t t' t'' so_far writes
last_written (Words options) mid_word read left t t' t'' so_far none writes = last_on options mid_word read left t t' t'' so_far none writes

-- a beginning of it was
last_begins : (placement : Placement) (mid_word : Bool) (read left : List ℕ) (t t' t'' : Option (List ℕ)) → WritesChunkUpTo placement false read left mid_word t t' → (mid_word ≡ true → left ≡ [])
    → WritesBeginning placement left t' t'' → WritesBeginning placement read t t''
last_begins (Lines printing) mid_word read left t t' t'' so_far none begins = WritesBeginning-append (Lines printing) read left t t' t'' so_far begins
last_begins (Words options) mid_word read left t t' t'' so_far none begins = last_begun options mid_word read left t t' t'' so_far none begins

-- nothing was read yet
pub none_copied : (placement : Placement) (left : List ℕ) (source sink : Option (List ℕ)) → left ≡ [] → CopiesUpTo placement false left source source sink sink
none_copied placement left source sink left_is =
    record {
      read = [];
      consumed = Consumes-nil source;
      mid_word_keeps_none = λ _. left_is;
      written = subst (λ l. WritesChunkUpTo placement false [] l false sink sink) (sym left_is) (none_written placement [] sink);
    }

-- and nothing is kept
pub none_kept : (placement : Placement) (left : List ℕ) → left ≡ [] → AreKept placement left
none_kept (Lines printing) left left_is = subst HasNoLineFeed (sym left_is) (All-nil (λ byte. byte ≢ line_feed))
none_kept (Words options) left left_is = no_word_kept options left left_is

-- what was kept stands in front
pub still_kept : (placement : Placement) (kept end : ℕ) (old new : List ℕ) (s s' : Option (List ℕ)) → AreKept placement (take kept old) → ReadsMore kept end old new s s' → kept ≤ length old
    → AreKept placement (take kept (take end new))
still_kept placement kept end old new s s' are more within =
    subst (AreKept placement)
    (sym (ap (take kept) more.chunk ∙ take-append-le kept (take kept old) more.piece (omega (arith, length-take-le kept old within)) ∙ take-take kept kept old (omega arith))) are

-- no byte was kept where a word goes on
pub kept_none : (placement : Placement) (mid_word : Bool) (kept : ℕ) (old : List ℕ) (s s' t t' : Option (List ℕ)) → CopiesUpTo placement mid_word (take kept old) s s' t t' → kept ≤ length old
    → mid_word ≡ true → kept ≡ 0
kept_none placement mid_word kept old s s' t t' so_far within is = omega (arith, length-take-le kept old within, ap length (so_far.mid_word_keeps_none is))

-- one turn more
pub turn_copied : (placement : Placement) (mid_word after : Bool) (kept end : ℕ) (old new rest left : List ℕ) (s s' s'' t t' t'' : Option (List ℕ))
    → CopiesUpTo placement mid_word (take kept old) s s' t t' → ReadsMore kept end old new s' s'' → WritesChunkUpTo placement mid_word (take end new) left after t' t'' → rest ≡ left
    → (after ≡ true → left ≡ []) → CopiesUpTo placement after rest s s'' t t''
turn_copied placement mid_word after kept end old new rest left s s' s'' t t' t'' so_far more written rest_is none =
    subst (λ l. CopiesUpTo placement after l s s'' t t'') (sym rest_is)
    (record {
      read = so_far.read ++ more.piece;
      consumed = Consumes-trans s s' s'' so_far.read more.piece so_far.consumed more.consumed;
      mid_word_keeps_none = none;
      written = piece_written placement mid_word after so_far.read more.piece (take kept old) left t t' t'' so_far.written
          (subst (λ l. WritesChunkUpTo placement mid_word l left after t' t'') more.chunk written);
    })

-- a fault came in it
pub turn_fault : (placement : Placement) (mid_word : Bool) (kept end : ℕ) (old new : List ℕ) (s s' s'' t t' t'' : Option (List ℕ))
    → CopiesUpTo placement mid_word (take kept old) s s' t t' → ReadsMore kept end old new s' s'' → WritesChunkBeginning placement mid_word (take end new) t' t''
    → FiltersBeginning placement s s'' t t''
turn_fault placement mid_word kept end old new s s' s'' t t' t'' so_far more begins =
    record {
      read = so_far.read ++ more.piece;
      consumed = Consumes-trans s s' s'' so_far.read more.piece so_far.consumed more.consumed;
      begins = piece_begun placement mid_word so_far.read more.piece (take kept old) t t' t'' so_far.written
          (subst (λ l. WritesChunkBeginning placement mid_word l t' t'') more.chunk begins);
    }

-- memory was refused in it
pub turn_refused : (placement : Placement) (mid_word : Bool) (kept end : ℕ) (old new : List ℕ) (s s' s'' t t' t'' : Option (List ℕ))
    → CopiesUpTo placement mid_word (take kept old) s s' t t' → ReadsMore kept end old new s' s'' → WritesSomeOfChunk placement mid_word (take end new) t' t''
    → FiltersWhole placement s s'' t t''
turn_refused placement mid_word kept end old new s s' s'' t t' t'' so_far more (left, written) =
    whole_written placement (so_far.read ++ more.piece) left s s'' t t'' (Consumes-trans s s' s'' so_far.read more.piece so_far.consumed more.consumed)
    (piece_written placement mid_word false so_far.read more.piece (take kept old) left t t' t'' so_far.written
    (subst (λ l. WritesChunkUpTo placement mid_word l left false t' t'') more.chunk written))

-- nothing more was read
pub end_copied : (placement : Placement) (mid_word : Bool) (kept end : ℕ) (old new : List ℕ) (s s' s'' t t' : Option (List ℕ))
    → CopiesUpTo placement mid_word (take kept old) s s' t t' → ReadsMore kept end old new s' s'' → kept ≤ length old → end ≡ kept
    → CopiesUpTo placement mid_word (take kept new) s s'' t t'
end_copied placement mid_word kept end old new s s' s'' t t' so_far more within same =
    let none = nothing_read kept end old new s' s'' more within same in
    let held : take kept new ≡ take kept old = ap (λ n. take n new) (sym same) ∙ more.chunk ∙ ap (λ l. take kept old ++ l) none ∙ append-nil (take kept old) in
    subst (λ l. CopiesUpTo placement mid_word l s s'' t t') (sym held)
    (record {
      read = so_far.read;
      consumed = subst (Consumes s s'') (ap (λ l. so_far.read ++ l) none ∙ append-nil so_far.read)
          (Consumes-trans s s' s'' so_far.read more.piece so_far.consumed more.consumed);
      mid_word_keeps_none = so_far.mid_word_keeps_none;
      written = so_far.written;
    })

-- the source failed, and gave nothing
pub read_fault : (placement : Placement) (laws : AnswersEach (printing_of placement)) (mid_word : Bool) (left : List ℕ) (s s' s'' t t' : Option (List ℕ)) → CopiesUpTo placement mid_word left s s' t t' → Keeps s' s''
    → FiltersBeginning placement s s'' t t'
read_fault placement laws mid_word left s s' s'' t t' so_far keeps =
    record {
      read = so_far.read;
      consumed = Consumes-kept s s' s'' so_far.read so_far.consumed keeps;
      begins = written_begun placement laws mid_word so_far.read left t t' so_far.written;
    }

-- all but what is kept was written then
pub read_put : (placement : Placement) (mid_word : Bool) (left : List ℕ) (s s' s'' t t' : Option (List ℕ)) → CopiesUpTo placement mid_word left s s' t t' → AreKept placement left → Keeps s' s''
    → WritesAllButKept placement s s'' t t'
read_put placement mid_word left s s' s'' t t' so_far kept keeps =
    written_but placement mid_word so_far.read left s s'' t t' (Consumes-kept s s' s'' so_far.read so_far.consumed keeps) so_far.written so_far.mid_word_keeps_none kept

-- whole lines or words, if any byte is kept
whole_copied : (placement : Placement) (mid_word : Bool) (left : List ℕ) (s s' t t' : Option (List ℕ)) → CopiesUpTo placement mid_word left s s' t t' → 0 < length left → FiltersWhole placement s s' t t'
whole_copied placement true left s s' t t' so_far some = absurd (omega (arith, some, ap length (so_far.mid_word_keeps_none refl)))
whole_copied placement false left s s' t t' so_far some = whole_written placement so_far.read left s s' t t' so_far.consumed so_far.written

-- an allocation for more capacity failed
pub read_refused : (placement : Placement) (mid_word : Bool) (kept : ℕ) (old : List ℕ) (s s' s'' t t' : Option (List ℕ)) → CopiesUpTo placement mid_word (take kept old) s s' t t'
    → Keeps s' s'' → kept ≡ length old → 0 < length old → FiltersWhole placement s s'' t t'
read_refused placement mid_word kept old s s' s'' t t' so_far keeps full some =
    whole_copied placement mid_word (take kept old) s s'' t t'
    (record { read = so_far.read; consumed = Consumes-kept s s' s'' so_far.read so_far.consumed keeps; mid_word_keeps_none = so_far.mid_word_keeps_none; written = so_far.written })
    (omega (arith, some, full, length-take-le kept old (omega (arith, full))))

-- a source at its end has no byte left
pub at_end : (s s' : Option (List ℕ)) (read : List ℕ) → Consumes s s' read → IsAtEnd s' → IfSome s (λ _. s' ≡ Some [])
at_end None s' read consumes ends = tt
at_end (Some given) None read consumes ends = absurd consumes
at_end (Some given) (Some rest) read consumes ends = ap (λ l. Some l) ends

-- and all its bytes were read
pub all_read : (placement : Placement) (s s' t t' : Option (List ℕ)) (read : List ℕ) → Consumes s s' read → IsAtEnd s' → WritesFiltered placement read t t'
    → IfSome s (λ given. WritesFiltered placement given t t')
all_read placement None s' t t' read consumes ends writes = tt
all_read placement (Some given) None t t' read consumes ends writes = absurd consumes
all_read placement (Some given) (Some rest) t t' read consumes ends writes =
    subst (λ l. WritesFiltered placement l t t') (sym (consumes ∙ ap (λ l. read ++ l) ends ∙ append-nil read)) writes

-- the last line or word was written too
pub last_copied : (placement : Placement) (mid_word : Bool) (left : List ℕ) (s s' t t' t'' : Option (List ℕ)) → CopiesUpTo placement mid_word left s s' t t' → IsAtEnd s'
    → WritesFiltered placement left t' t'' → IfSome s (λ given. WritesFiltered placement given t t'')
last_copied placement mid_word left s s' t t' t'' so_far ends writes =
    all_read placement s s' t t'' so_far.read so_far.consumed ends (last_written placement mid_word so_far.read left t t' t'' so_far.written so_far.mid_word_keeps_none writes)

-- so all that was read was filtered
pub last_filtered : (placement : Placement) (mid_word : Bool) (left : List ℕ) (s s' t t' t'' : Option (List ℕ)) → CopiesUpTo placement mid_word left s s' t t'
    → WritesFiltered placement left t' t'' → FiltersAll placement s s' t t''
last_filtered placement mid_word left s s' t t' t'' so_far writes =
    record { read = so_far.read; consumed = so_far.consumed; writes = last_written placement mid_word so_far.read left t t' t'' so_far.written so_far.mid_word_keeps_none writes }

-- a fault came while it was written
pub last_fault : (placement : Placement) (mid_word : Bool) (left : List ℕ) (s s' t t' t'' : Option (List ℕ)) → CopiesUpTo placement mid_word left s s' t t' → WritesBeginning placement left t' t''
    → FiltersBeginning placement s s' t t''
last_fault placement mid_word left s s' t t' t'' so_far begins =
    record { read = so_far.read; consumed = so_far.consumed; begins = last_begins placement mid_word so_far.read left t t' t'' so_far.written so_far.mid_word_keeps_none begins }

-- memory was refused for it
pub last_refused : (placement : Placement) (mid_word : Bool) (left : List ℕ) (s s' t t' t'' : Option (List ℕ)) → CopiesUpTo placement mid_word left s s' t t' → 0 < length left → Keeps t' t''
    → FiltersWhole placement s s' t t''
last_refused placement mid_word left s s' t t' t'' so_far some keeps =
    whole_copied placement mid_word left s s' t t''
    (record { read = so_far.read; consumed = so_far.consumed; mid_word_keeps_none = so_far.mid_word_keeps_none; written = written_kept placement false mid_word so_far.read left t t' t'' so_far.written keeps }) some

-- the outcome, as the two faults' clauses say it
pub read_outcome : {T : Type 0} (r : Result T FilterFault) (source_failed sink_failed : Bool) → IsRunOutcome r source_failed sink_failed → IsErrOf r Read ↔ IsTrue source_failed
read_outcome (Ok v) f w h = (λ e. absurd (cc), λ t. absurd (false≢true (sym h.0 ∙ t)))
read_outcome (Err Read) f w h = (λ e. h.0, λ t. refl)
read_outcome (Err Write) f w h = (λ e. absurd (cc), λ t. absurd (false≢true (sym h.0 ∙ t)))
read_outcome (Err Memory) f w h = (λ e. absurd (cc), λ t. absurd (false≢true (sym h.0 ∙ t)))

pub write_outcome : {T : Type 0} (r : Result T FilterFault) (source_failed sink_failed : Bool) → IsRunOutcome r source_failed sink_failed → IsErrOf r Write ↔ IsTrue sink_failed
write_outcome (Ok v) f w h = (λ e. absurd (cc), λ t. absurd (false≢true (sym h.1 ∙ t)))
write_outcome (Err Read) f w h = (λ e. absurd (cc), λ t. absurd (false≢true (sym h.1 ∙ t)))
write_outcome (Err Write) f w h = (λ e. h.1, λ t. refl)
write_outcome (Err Memory) f w h = (λ e. absurd (cc), λ t. absurd (false≢true (sym h.1 ∙ t)))

-- the outcome of a run that ends with a fault of reading
read_fails : (T U : Type 0) (fault : FilterFault) (source_failed sink_failed : Bool) → sink_failed ≡ false → IsReadOutcome {T = U} (Err fault) source_failed
    → IsRunOutcome {T = T} (Err fault) source_failed sink_failed
read_fails T U Read f w is h = (h, is)
read_fails T U Write f w is h = absurd h
read_fails T U Memory f w is h = (h, is)

pub run_read : (T U : Type 0) (r : Result T FilterFault) (fault : FilterFault) (source_failed sink_failed : Bool) → sink_failed ≡ false
    → IsReadOutcome {T = U} (Err fault) source_failed → IsErrAnd r (λ e. e ≡ fault) → IsRunOutcome r source_failed sink_failed
run_read T U (Ok v) fault f w is h same = absurd same
run_read T U (Err e) fault f w is h same = subst (λ e. IsRunOutcome {T = T} (Err e) f w) (sym same) (read_fails T U fault f w is h)

-- or as writing does
pub run_last : {T : Type 0} (r : Result T FilterFault) (source_failed sink_failed : Bool) → source_failed ≡ false → IsWriteOutcome r sink_failed → IsRunOutcome r source_failed sink_failed
run_last (Ok v) f w is h = (is, h)
run_last (Err Read) f w is h = absurd h
run_last (Err Write) f w is h = (is, h)
run_last (Err Memory) f w is h = (is, h)

pub run_written : (T U : Type 0) (r : Result T FilterFault) (fault : FilterFault) (source_failed sink_failed : Bool) → source_failed ≡ false
    → IsWriteOutcome {T = U} (Err fault) sink_failed → IsErrAnd r (λ e. e ≡ fault) → IsRunOutcome r source_failed sink_failed
run_written T U (Ok v) fault f w is h same = absurd same
run_written T U (Err e) fault f w is h same = subst (λ e. IsRunOutcome {T = T} (Err e) f w) (sym same) (run_last {T = T} (Err fault) f w is h)

-- nothing was read and nothing written
pub none_read : (placement : Placement) (laws : AnswersEach (printing_of placement)) (source sink : Option (List ℕ)) → FiltersBeginning placement source source sink sink
none_read placement laws source sink = read_fault placement laws false [] source source source sink sink (none_copied placement [] source sink refl) (Keeps-refl source)

pub none_whole : (placement : Placement) (source sink : Option (List ℕ)) → FiltersWhole placement source source sink sink
none_whole placement source sink = whole_written placement [] [] source source sink sink (Consumes-nil source) (none_written placement [] sink)

-- a beginning of its text was
pub lines_front : (placement : Placement) (printing : Printing) (mid_word : Bool) (bytes : List ℕ) (n : ℕ) (t t' : Option (List ℕ)) → placement ≡ Lines printing
    → WritesBeginningOfAny placement (take n bytes) t t' → WritesChunkBeginning placement mid_word bytes t t'
lines_front (Lines p) printing mid_word bytes n t t' is begins = λ rest.
    subst (λ l. WritesBeginning (Lines p) l t t') (sym (append_assoc (take n bytes) (drop n bytes) rest) ∙ ap (λ l. l ++ rest) (take-append-drop n bytes))
    (begins (drop n bytes ++ rest))
lines_front (Words options) printing mid_word bytes n t t' is begins = absurd (cc)

-- memory was refused for one of its lines
pub lines_some : (placement : Placement) (printing : Printing) (mid_word : Bool) (bytes : List ℕ) (n : ℕ) (t t' : Option (List ℕ)) → placement ≡ Lines printing
    → FiltersSome placement (take n bytes) t t' → WritesSomeOfChunk placement mid_word bytes t t'
lines_some (Lines p) printing mid_word bytes n t t' is (left, filtered) = (
  left ++ drop n bytes,
  subst (λ l. FiltersUpTo (Lines p) l (left ++ drop n bytes) t t') (take-append-drop n bytes)
      (lines_before (Lines p) (take n bytes) left (drop n bytes) t t' filtered),
)
lines_some (Words options) printing mid_word bytes n t t' is some = absurd (cc)

-- the first word of a chunk was written as it is, with the byte after it, and no word goes on
past_first : (options : ReplaceOptions) (mid_word after : Bool) (bytes rest : List ℕ) (n : ℕ) (t t' : Option (List ℕ)) → ContinuesTo options mid_word (take n bytes) (take n bytes) after → after ≡ false
    → rest ≡ drop n bytes → Appends t t' (take n bytes) → ReplacesUpTo options mid_word bytes rest false t t'
past_first options mid_word after bytes rest n t t' leads outside rest_is writes =
    subst (λ l. ReplacesUpTo options mid_word bytes l false t t') (sym rest_is)
    (subst (λ a. ReplacesUpTo options mid_word bytes (drop n bytes) a t t') outside (front_passed options mid_word after bytes n t t' leads writes))

-- the word that was kept stands in front after it: no byte was kept where a word goes on
pub words_before : (placement : Placement) (options : ReplaceOptions) (mid_word : Bool) (bytes : List ℕ) (seen n : ℕ) → placement ≡ Words options → AreKept placement (take seen bytes)
    → (mid_word ≡ true → seen ≡ 0) → (mid_word ≡ false → n ≡ 0) → All IsWordByte (take seen (drop n bytes))
words_before placement options true bytes seen n is kept none outside =
    subst (λ k. All IsWordByte (take k (drop n bytes))) (sym (none refl)) (All-nil IsWordByte)
words_before placement options false bytes seen n is kept none outside =
    subst (λ k. All IsWordByte (take seen (drop k bytes))) (sym (outside refl)) ((subst (λ s. AreKept s (take seen bytes)) is kept).word)

-- whole words after it too
pub words_passed : (options : ReplaceOptions) (mid_word after : Bool) (bytes rest : List ℕ) (n whole : ℕ) (t t' t'' : Option (List ℕ)) → ContinuesTo options mid_word (take n bytes) (take n bytes) after
    → after ≡ false → rest ≡ drop n bytes → Appends t t' (take n bytes) → FiltersUpTo (Words options) (take whole rest) [] t' t''
    → ReplacesUpTo options mid_word bytes (drop whole rest) false t t''
words_passed options mid_word after bytes rest n whole t t' t'' leads outside rest_is writes filtered =
    replaced_on options mid_word false false bytes rest (drop whole rest) t t' t'' (past_first options mid_word after bytes rest n t t' leads outside rest_is writes)
    (front_replaced options false false rest (take whole rest) [] whole t' t'' (words_replaced options (take whole rest) [] t' t'' filtered) refl)

-- the word after them is kept if it may hold a symbol
pub word_held : (options : ReplaceOptions) (bytes rest : List ℕ) (n whole : ℕ) (may_hold : Bool) → rest ≡ drop n bytes → All IsWordByte (drop whole rest)
    → may_hold ≡ may_hold_symbol options.strip options.all (take (length rest - whole) (drop whole rest)) → may_hold ≡ true → IsKept options (drop (n + whole) bytes)
word_held options bytes rest n whole may_hold rest_is all may_hold_is is =
    subst (IsKept options) (ap (drop whole) rest_is ∙ drop-drop whole n bytes)
    (record { word = all; may_hold = subst (λ l. may_hold_symbol options.strip options.all l ≡ true) (take_rest rest whole) (sym may_hold_is ∙ is) })

-- a fault came while they were written
pub words_fault : (options : ReplaceOptions) (mid_word after : Bool) (bytes rest : List ℕ) (n whole : ℕ) (t t' t'' : Option (List ℕ)) → ContinuesTo options mid_word (take n bytes) (take n bytes) after
    → after ≡ false → rest ≡ drop n bytes → Appends t t' (take n bytes) → WritesBeginningOfAny (Words options) (take whole rest) t' t'' → ReplacesBeginningOfAny options mid_word bytes t t''
words_fault options mid_word after bytes rest n whole t t' t'' leads outside rest_is writes begins =
    front_after options mid_word false bytes rest t t' t'' (past_first options mid_word after bytes rest n t t' leads outside rest_is writes)
    (words_front options rest (take whole rest) whole t' t'' begins refl)

-- memory was refused for one of them
pub words_refused : (options : ReplaceOptions) (mid_word after : Bool) (bytes rest : List ℕ) (n whole : ℕ) (t t' t'' : Option (List ℕ)) → ContinuesTo options mid_word (take n bytes) (take n bytes) after
    → after ≡ false → rest ≡ drop n bytes → Appends t t' (take n bytes) → FiltersSome (Words options) (take whole rest) t' t'' → WritesSomeOfChunk (Words options) mid_word bytes t t''
words_refused options mid_word after bytes rest n whole t t' t'' leads outside rest_is writes (left, filtered) = (
  left ++ drop whole rest,
  replaced_on options mid_word false false bytes rest (left ++ drop whole rest) t t' t'' (past_first options mid_word after bytes rest n t t' leads outside rest_is writes)
      (front_replaced options false false rest (take whole rest) left whole t' t'' (words_replaced options (take whole rest) left t' t'' filtered) refl),
)
