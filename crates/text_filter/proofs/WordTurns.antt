-- What was read and written, word by word.
use Rattle.std.proofs.Common.{◌≡◌, ◌≢◌, ℕ, ◌+◌, ◌<◌, List, [], ◌∷◌, ◌++◌, Bool, true, false, Option, length, take, drop, get_or}
use Rattle.std.proofs.Common.{refl, sym, ap, subst, ◌∙◌, arith, append_assoc, append-nil}
use Rattle.std.proofs.lemmas.Bool.{false≢true}
use Rattle.std.proofs.lemmas.List.{take-append-drop, take_more}
use Rattle.std.proofs.lemmas.List.Elements.{All-nil, All-cons, All-append, All-same}
use Rattle.std.proofs.KnownBytes.{Appends-nil, Appends-trans, Appends-kept}
use Rattle.std.specs.Io.KnownBytes.{Appends, Consumes, Keeps}
use Rattle.std.specs.Prelude.{All}
use Rattle.text_filter.specs.Printed.{Words, ReplaceOptions, AnswersEach}
use Rattle.text_filter.specs.Replaced.{is_word_byte, IsWordByte, begins_word, ends_word, IsKept, may_hold_symbol, IsReplaced, no_byte, other, one_word, no_symbol}
use Rattle.text_filter.specs.Filtered.{IsBeginningOf, FiltersWhole, ReplacesAllButKept, WritesBeginning, WritesFiltered}
use Rattle.text_filter.specs.Progress.{AreWordBytes, StartsMidWord, FiltersUpTo, ReplacesUpTo, IsReplacedFrom, ContinuesTo, ReplacesBeginning, ReplacesBeginningOfAny, WritesFrontOfBytes, WritesBeginningOfAny}
use Rattle.text_filter.proofs.ReplacedText.{IsReplaced-append, whole_parted, whole-append, replaced_of, split_of}
use Rattle.text_filter.proofs.WordPlaces.{rest_of_word}
use Rattle.text_filter.proofs.PrefixChars.{stem_plain, plain_some}

-- all bytes have a replaced text, also where a word goes on in them
goes_at : (options : ReplaceOptions) (laws : AnswersEach options.printing) (byte : ℕ) (bytes : List ℕ) (t : Bool) → is_word_byte byte ≡ t → ((text : List ℕ) × StartsMidWord options bytes text)
    → (text : List ℕ) × StartsMidWord options (byte ∷ bytes) text
goes_at options laws byte bytes true is rest = (
  byte ∷ rest.0,
  record {
    word = byte ∷ rest.1.word;
    more = rest.1.more;
    more_text = rest.1.more_text;
    bytes_are = ap (λ l. byte ∷ l) rest.1.bytes_are;
    text_is = ap (λ l. byte ∷ l) rest.1.text_is;
    all = All-cons IsWordByte byte rest.1.word is rest.1.all;
    next = rest.1.next;
    replaced = rest.1.replaced;
  },
)
goes_at options laws byte bytes false is rest =
    let found = replaced_of options laws (byte ∷ bytes) in (
      found.0,
      record {
        word = [];
        more = byte ∷ bytes;
        more_text = found.0;
        bytes_are = refl;
        text_is = refl;
        all = All-nil IsWordByte;
        next = is;
        replaced = found.1;
      },
    )

-- no byte of the word
not_gone_on : (options : ReplaceOptions) (bytes text : List ℕ) → begins_word bytes ≡ false → IsReplaced options bytes text → StartsMidWord options bytes text
not_gone_on options bytes text next replaced =
    record {
      word = [];
      more = bytes;
      more_text = text;
      bytes_are = refl;
      text_is = refl;
      all = All-nil IsWordByte;
      next = next;
      replaced = replaced;
    }

goes_of : (options : ReplaceOptions) (laws : AnswersEach options.printing) (bytes : List ℕ) → (text : List ℕ) × StartsMidWord options bytes text
goes_of options laws [] = ([], not_gone_on options [] [] refl no_byte)
goes_of options laws (byte ∷ bytes) = goes_at options laws byte bytes (is_word_byte byte) refl (goes_of options laws bytes)

replaced_in : (options : ReplaceOptions) (laws : AnswersEach options.printing) (mid_word : Bool) (bytes : List ℕ) → (text : List ℕ) × IsReplacedFrom options mid_word bytes text
replaced_in options laws true bytes = goes_of options laws bytes
replaced_in options laws false bytes = replaced_of options laws bytes

nothing_in : (options : ReplaceOptions) (mid_word : Bool) → IsReplacedFrom options mid_word [] []
nothing_in options true = not_gone_on options [] [] refl no_byte
nothing_in options false = no_byte

-- what is left has one too, where no word goes on in it
left_in : (options : ReplaceOptions) (mid_word : Bool) (left text : List ℕ) → (mid_word ≡ true → left ≡ []) → IsReplaced options left text → IsReplacedFrom options mid_word left text
left_in options true left text none replaced = not_gone_on options left text (ap begins_word (none refl)) replaced
left_in options false left text none replaced = replaced

-- bytes after bytes
none_before : (first second : List ℕ) → first ++ second ≡ [] → (first ≡ []) × (second ≡ [])
none_before [] second none = (refl, none)
none_before (byte ∷ bytes) second none = absurd (cc)

leads_on : (options : ReplaceOptions) (mid_word mid after : Bool) (first text second more : List ℕ) → ContinuesTo options mid_word first text mid → ContinuesTo options mid second more after
    → ContinuesTo options mid_word (first ++ second) (text ++ more) after
leads_on options mid_word mid after first text second more one two =
    record {
      goes = λ rest end replaced.
          subst (λ l. IsReplacedFrom options mid_word l ((text ++ more) ++ end)) (sym (append_assoc first second rest))
          (subst (IsReplacedFrom options mid_word (first ++ (second ++ rest))) (sym (append_assoc text more end))
          (one.goes (second ++ rest) (more ++ end) (two.goes rest end replaced)));
      ended = λ is. whole-append first second (two.ended is) (λ none. one.ended (two.empty is none));
      empty = λ is all. let both = none_before first second all in one.empty (two.empty is both.1) both.0;
    }

-- no bytes yet
pub none_leads : (options : ReplaceOptions) → ContinuesTo options false [] [] false
none_leads options = record { goes = λ rest more replaced. replaced; ended = λ _. refl; empty = λ _ _. refl }

-- whole words
whole_leads : (options : ReplaceOptions) (words text : List ℕ) → ends_word words ≡ false → IsReplaced options words text → ContinuesTo options false words text false
whole_leads options words text whole replaced =
    record {
      goes = λ rest more next. IsReplaced-append options replaced next (whole_parted words rest whole);
      ended = λ _. whole;
      empty = λ _ _. refl;
    }

-- a word whose front shows no symbol stays
word_kept : (options : ReplaceOptions) (front rest bytes text : List ℕ) → All IsWordByte front → may_hold_symbol options.strip options.all front ≡ false → All IsWordByte rest
    → begins_word bytes ≡ false → IsReplaced options bytes text → IsReplaced options ((front ++ rest) ++ bytes) ((front ++ rest) ++ text)
word_kept options front rest bytes text all plain more next replaced =
    let word : List ℕ = front ++ rest in
    let split = split_of word in
    let back : split.stem ++ split.dots ≡ word = sym split.word_is in
    let some : split.stem ++ split.dots ≢ [] = λ e. absurd (omega (arith, plain_some options.strip options.all front plain, ap length ((none_before front rest (split.word_is ∙ e)).0))) in
    subst (λ l. IsReplaced options (l ++ bytes) (l ++ text)) back
    (one_word split.dots some (All-same IsWordByte (split.stem ++ split.dots) word back (All-append IsWordByte front rest all more)) split.dotted split.undotted
    (no_symbol (stem_plain options.strip options.all front rest split.stem split.dots plain split.word_is)) next replaced)

plain_leads : (options : ReplaceOptions) (word : List ℕ) → All IsWordByte word → may_hold_symbol options.strip options.all word ≡ false → ContinuesTo options false word word true
plain_leads options word all plain =
    record {
      goes = λ rest more goes.
          subst (λ l. IsReplaced options (word ++ l) (word ++ more)) (sym goes.bytes_are)
          (subst (λ l. IsReplaced options (word ++ (goes.word ++ goes.more)) (word ++ l)) (sym goes.text_is)
          (subst (λ l. IsReplaced options l (word ++ (goes.word ++ goes.more_text))) (append_assoc word goes.word goes.more)
          (subst (IsReplaced options ((word ++ goes.word) ++ goes.more)) (append_assoc word goes.word goes.more_text)
          (word_kept options word goes.word goes.more goes.more_text all plain goes.all goes.next goes.replaced))));
      ended = λ is. absurd (false≢true (sym is));
      empty = λ is _. absurd (false≢true (sym is));
    }

-- more bytes of it
pub on_leads : (options : ReplaceOptions) (word : List ℕ) → All IsWordByte word → ContinuesTo options true word word true
on_leads options word all =
    record {
      goes = λ rest more goes.
          record {
            word = word ++ goes.word;
            more = goes.more;
            more_text = goes.more_text;
            bytes_are = ap (λ l. word ++ l) goes.bytes_are ∙ sym (append_assoc word goes.word goes.more);
            text_is = ap (λ l. word ++ l) goes.text_is ∙ sym (append_assoc word goes.word goes.more_text);
            all = All-append IsWordByte word goes.word all goes.all;
            next = goes.next;
            replaced = goes.replaced;
          };
      ended = λ is. absurd (false≢true (sym is));
      empty = λ is _. absurd (false≢true (sym is));
    }

-- its last bytes, and the byte after it
past_leads : (options : ReplaceOptions) (word : List ℕ) (byte : ℕ) → All IsWordByte word → is_word_byte byte ≡ false → ContinuesTo options true (word ++ byte ∷ []) (word ++ byte ∷ []) false
past_leads options word byte all end =
    record {
      goes = λ rest more replaced.
          record {
            word = word;
            more = byte ∷ rest;
            more_text = byte ∷ more;
            bytes_are = append_assoc word (byte ∷ []) rest;
            text_is = append_assoc word (byte ∷ []) more;
            all = all;
            next = end;
            replaced = other end replaced;
          };
      ended = λ _. whole-append word (byte ∷ []) end (λ e. absurd (cc));
      empty = λ _ all_none. absurd (let both = none_before word (byte ∷ []) all_none in let e = both.1 in cc);
    }

-- the first word of bytes in which it goes on, and the byte after it
pub first_leads : (options : ReplaceOptions) (bytes : List ℕ) (end : ℕ) → end < length bytes → AreWordBytes bytes 0 end → is_word_byte (get_or bytes end 0) ≡ false
    → ContinuesTo options true (take (end + 1) bytes) (take (end + 1) bytes) false
first_leads options bytes end mid_word word ended =
    subst (λ l. ContinuesTo options true l l false) (sym (take_more bytes end 0 mid_word))
    (past_leads options (take end bytes) (get_or bytes end 0) (rest_of_word bytes end (omega (arith, mid_word)) word) ended)

-- nothing was given yet
pub none_replaced : (options : ReplaceOptions) (given : List ℕ) (at : Option (List ℕ)) → ReplacesUpTo options false given given false at at
none_replaced options given at = record { done = []; text = []; given_is = refl; leads = none_leads options; written = Appends-nil at }

-- more of what was left was replaced
pub replaced_on : (options : ReplaceOptions) (mid_word mid after : Bool) (given left left' : List ℕ) (t t' t'' : Option (List ℕ)) → ReplacesUpTo options mid_word given left mid t t'
    → ReplacesUpTo options mid left left' after t' t'' → ReplacesUpTo options mid_word given left' after t t''
replaced_on options mid_word mid after given left left' t t' t'' one two =
    record {
      done = one.done ++ two.done;
      text = one.text ++ two.text;
      given_is = one.given_is ∙ ap (λ l. one.done ++ l) two.given_is ∙ sym (append_assoc one.done two.done left');
      leads = leads_on options mid_word mid after one.done one.text two.done two.text one.leads two.leads;
      written = Appends-trans t t' t'' one.text two.text one.written two.written;
    }

-- more was given
pub given_more : (options : ReplaceOptions) (mid_word after : Bool) (given left piece : List ℕ) (t t' : Option (List ℕ)) → ReplacesUpTo options mid_word given left after t t'
    → ReplacesUpTo options mid_word (given ++ piece) (left ++ piece) after t t'
given_more options mid_word after given left piece t t' so_far =
    record {
      done = so_far.done;
      text = so_far.text;
      given_is = ap (λ l. l ++ piece) so_far.given_is ∙ append_assoc so_far.done left piece;
      leads = so_far.leads;
      written = so_far.written;
    }

-- whole words were written
pub words_replaced : (options : ReplaceOptions) (given left : List ℕ) (t t' : Option (List ℕ)) → FiltersUpTo (Words options) given left t t' → ReplacesUpTo options false given left false t t'
words_replaced options given left t t' so_far =
    record {
      done = so_far.whole;
      text = so_far.text;
      given_is = so_far.given_is;
      leads = whole_leads options so_far.whole so_far.text so_far.filtered.0 so_far.filtered.1;
      written = so_far.written;
    }

-- a front of the bytes was replaced
pub front_replaced : (options : ReplaceOptions) (mid_word after : Bool) (bytes front left : List ℕ) (n : ℕ) (t t' : Option (List ℕ)) → ReplacesUpTo options mid_word front left after t t' → front ≡ take n bytes
    → ReplacesUpTo options mid_word bytes (left ++ drop n bytes) after t t'
front_replaced options mid_word after bytes front left n t t' so_far front_is =
    subst (λ l. ReplacesUpTo options mid_word l (left ++ drop n bytes) after t t') (ap (λ l. l ++ drop n bytes) front_is ∙ take-append-drop n bytes)
    (given_more options mid_word after front left (drop n bytes) t t' so_far)

-- a word was passed on
pub word_passed : (options : ReplaceOptions) (word : List ℕ) (t t' : Option (List ℕ)) → All IsWordByte word → may_hold_symbol options.strip options.all word ≡ false → Appends t t' word
    → ReplacesUpTo options false word [] true t t'
word_passed options word t t' all plain writes =
    record { done = word; text = word; given_is = sym (append-nil word); leads = plain_leads options word all plain; written = writes }

-- bytes that stay were written
pub front_passed : (options : ReplaceOptions) (mid_word after : Bool) (bytes : List ℕ) (n : ℕ) (t t' : Option (List ℕ)) → ContinuesTo options mid_word (take n bytes) (take n bytes) after
    → Appends t t' (take n bytes) → ReplacesUpTo options mid_word bytes (drop n bytes) after t t'
front_passed options mid_word after bytes n t t' leads writes =
    record { done = take n bytes; text = take n bytes; given_is = sym (take-append-drop n bytes); leads = leads; written = writes }

-- a front of what the bytes lead to
front_of : (options : ReplaceOptions) (laws : AnswersEach options.printing) (mid_word after : Bool) (bytes text rest written : List ℕ) → ContinuesTo options mid_word bytes text after → IsBeginningOf written text
    → (all : List ℕ) × IsReplacedFrom options mid_word (bytes ++ rest) all × IsBeginningOf written all
front_of options laws mid_word after bytes text rest written leads is_front =
    let found = replaced_in options laws after rest in (
      text ++ found.0,
      leads.goes rest found.0 found.1,
      (is_front.0 ++ found.0, ap (λ l. l ++ found.0) is_front.1 ∙ append_assoc written is_front.0 found.0),
    )

-- a front of bytes that stay was written
pub stay_front : (options : ReplaceOptions) (laws : AnswersEach options.printing) (mid_word after : Bool) (bytes front : List ℕ) (n : ℕ) (t t' : Option (List ℕ)) → ContinuesTo options mid_word front front after → front ≡ take n bytes
    → WritesFrontOfBytes front t t' → ReplacesBeginningOfAny options mid_word bytes t t'
stay_front options laws mid_word after bytes front n t t' leads front_is (left, writes) rest =
    let whole : bytes ++ rest ≡ front ++ (drop n bytes ++ rest) =
    ap (λ l. l ++ rest) (sym (take-append-drop n bytes) ∙ ap (λ l. l ++ drop n bytes) (sym front_is)) ∙ append_assoc front (drop n bytes) rest in
    let found = front_of options laws mid_word after front front (drop n bytes ++ rest) writes.front leads (left, writes.bytes_are) in (
      writes.front,
      (found.0, subst (λ l. IsReplacedFrom options mid_word l found.0) (sym whole) found.1, found.2),
      writes.written,
    )

pub word_front : (options : ReplaceOptions) (laws : AnswersEach options.printing) (word : List ℕ) (t t' : Option (List ℕ)) → All IsWordByte word → may_hold_symbol options.strip options.all word ≡ false → WritesFrontOfBytes word t t'
    → ReplacesBeginningOfAny options false word t t'
word_front options laws word t t' all plain writes rest =
    let front = writes.1 in
    let found = front_of options laws false true word word rest front.front (plain_leads options word all plain) (writes.0, front.bytes_are) in
    (front.front, found, front.written)

-- a beginning of what was left
begins_after : (options : ReplaceOptions) (mid_word mid : Bool) (given left rest : List ℕ) (t t' t'' : Option (List ℕ)) → ReplacesUpTo options mid_word given left mid t t'
    → ReplacesBeginning options mid (left ++ rest) t' t'' → ReplacesBeginning options mid_word (given ++ rest) t t''
begins_after options mid_word mid given left rest t t' t'' so_far (written, (text, replaced, is_front), writes) = (
  so_far.text ++ written,
  (
    so_far.text ++ text,
    subst (λ l. IsReplacedFrom options mid_word l (so_far.text ++ text)) (sym (ap (λ l. l ++ rest) so_far.given_is ∙ append_assoc so_far.done left rest))
        (so_far.leads.goes (left ++ rest) text replaced),
    (is_front.0, ap (λ l. so_far.text ++ l) is_front.1 ∙ sym (append_assoc so_far.text written is_front.0)),
  ),
  Appends-trans t t' t'' so_far.text written so_far.written writes,
)

pub front_after : (options : ReplaceOptions) (mid_word mid : Bool) (given left : List ℕ) (t t' t'' : Option (List ℕ)) → ReplacesUpTo options mid_word given left mid t t'
    → ReplacesBeginningOfAny options mid left t' t'' → ReplacesBeginningOfAny options mid_word given t t''
front_after options mid_word mid given left t t' t'' so_far begins rest = begins_after options mid_word mid given left rest t t' t'' so_far (begins rest)

-- a front of whole words, before other bytes
pub words_front : (options : ReplaceOptions) (bytes words : List ℕ) (n : ℕ) (t t' : Option (List ℕ)) → WritesBeginningOfAny (Words options) words t t' → words ≡ take n bytes
    → ReplacesBeginningOfAny options false bytes t t'
words_front options bytes words n t t' begins words_are rest =
    let whole : words ++ (drop n bytes ++ rest) ≡ bytes ++ rest =
    sym (append_assoc words (drop n bytes) rest) ∙ ap (λ l. l ++ rest) (ap (λ l. l ++ drop n bytes) words_are ∙ take-append-drop n bytes) in
    subst (λ l. ReplacesBeginning options false l t t') whole (begins (drop n bytes ++ rest))

-- nothing is held back
pub no_word_kept : (options : ReplaceOptions) (word : List ℕ) → word ≡ [] → IsKept options word
no_word_kept options word word_is = subst (IsKept options) (sym word_is) (record { word = All-nil IsWordByte; may_hold = refl })

-- whole words were written of what was read
pub whole_words : (options : ReplaceOptions) (read left : List ℕ) (s s' t t' : Option (List ℕ)) → Consumes s s' read → ReplacesUpTo options false read left false t t'
    → FiltersWhole (Words options) s s' t t'
whole_words options read left s s' t t' consumed replaced =
    let leads = replaced.leads in
    record {
      whole = replaced.done;
      left = left;
      consumed = subst (Consumes s s') replaced.given_is consumed;
      text = replaced.text;
      filtered = (
        leads.ended refl,
        subst (λ l. IsReplaced options l replaced.text) (append-nil replaced.done)
            (subst (IsReplaced options (replaced.done ++ [])) (append-nil replaced.text) (leads.goes [] [] no_byte)),
      );
      written = replaced.written;
    }

-- the replaced text of what was done
done_replaced : (options : ReplaceOptions) (mid_word : Bool) (bytes text : List ℕ) → ContinuesTo options false bytes text mid_word → IsReplaced options bytes text
done_replaced options mid_word bytes text leads =
    subst (λ l. IsReplaced options l text) (append-nil bytes)
    (subst (IsReplaced options (bytes ++ [])) (append-nil text) (leads.goes [] [] (nothing_in options mid_word)))

-- what is held back begins a word
held_begins : (mid_word : Bool) (done word : List ℕ) → (mid_word ≡ false → ends_word done ≡ false) → (mid_word ≡ true → word ≡ []) → ends_word done ≡ true → word ≡ []
held_begins true done word ended none ends = none refl
held_begins false done word ended none ends = absurd (false≢true (sym (ended refl) ∙ ends))

-- the source gave these bytes, and all were written but those held back
pub all_but_kept : (options : ReplaceOptions) (mid_word : Bool) (read word : List ℕ) (s s' t t' : Option (List ℕ)) → Consumes s s' read → ReplacesUpTo options false read word mid_word t t'
    → (mid_word ≡ true → word ≡ []) → IsKept options word → ReplacesAllButKept options s s' t t'
all_but_kept options mid_word read word s s' t t' consumed replaced none kept =
    record {
      given = replaced.done;
      kept = word;
      consumed = subst (Consumes s s') replaced.given_is consumed;
      is_kept = kept;
      begins = held_begins mid_word replaced.done word replaced.leads.ended none;
      text = replaced.text;
      replaced = done_replaced options mid_word replaced.done replaced.text replaced.leads;
      written = replaced.written;
    }

-- what is written stays a beginning
pub replaced_begun : (options : ReplaceOptions) (laws : AnswersEach options.printing) (mid_word : Bool) (read word : List ℕ) (t t' : Option (List ℕ)) → ReplacesUpTo options false read word mid_word t t'
    → WritesBeginning (Words options) read t t'
replaced_begun options laws mid_word read word t t' replaced =
    let found = replaced_in options laws mid_word word in (
      replaced.text,
      (
        replaced.text ++ found.0,
        subst (λ l. IsReplaced options l (replaced.text ++ found.0)) (sym replaced.given_is) (replaced.leads.goes word found.0 found.1),
        (found.0, refl),
      ),
      replaced.written,
    )

-- the last word was written too
pub last_on : (options : ReplaceOptions) (mid_word : Bool) (read word : List ℕ) (t t' t'' : Option (List ℕ)) → ReplacesUpTo options false read word mid_word t t'
    → (mid_word ≡ true → word ≡ []) → WritesFiltered (Words options) word t' t'' → WritesFiltered (Words options) read t t''
last_on options mid_word read word t t' t'' replaced none (text, is_replaced, writes) = (
  replaced.text ++ text,
  subst (λ l. IsReplaced options l (replaced.text ++ text)) (sym replaced.given_is)
      (replaced.leads.goes word text (left_in options mid_word word text none is_replaced)),
  Appends-trans t t' t'' replaced.text text replaced.written writes,
)

-- a beginning of it was
pub last_begun : (options : ReplaceOptions) (mid_word : Bool) (read word : List ℕ) (t t' t'' : Option (List ℕ)) → ReplacesUpTo options false read word mid_word t t'
    → (mid_word ≡ true → word ≡ []) → WritesBeginning (Words options) word t' t'' → WritesBeginning (Words options) read t t''
last_begun options mid_word read word t t' t'' replaced none (written, (text, is_replaced, is_front), writes) = (
  replaced.text ++ written,
  (
    replaced.text ++ text,
    subst (λ l. IsReplaced options l (replaced.text ++ text)) (sym replaced.given_is)
        (replaced.leads.goes word text (left_in options mid_word word text none is_replaced)),
    (is_front.0, ap (λ l. replaced.text ++ l) is_front.1 ∙ sym (append_assoc replaced.text written is_front.0)),
  ),
  Appends-trans t t' t'' replaced.text written replaced.written writes,
)

-- nothing more was written
pub replaced_kept : (options : ReplaceOptions) (mid_word after : Bool) (given left : List ℕ) (t t' t'' : Option (List ℕ)) → ReplacesUpTo options mid_word given left after t t' → Keeps t' t''
    → ReplacesUpTo options mid_word given left after t t''
replaced_kept options mid_word after given left t t' t'' replaced keeps =
    record {
      done = replaced.done;
      text = replaced.text;
      given_is = replaced.given_is;
      leads = replaced.leads;
      written = Appends-kept t t' t'' replaced.text replaced.written keeps;
    }
