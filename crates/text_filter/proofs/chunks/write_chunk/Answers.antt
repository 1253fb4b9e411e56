use Rattle.text_filter.specs.Printed.{placed, worded}
use Rattle.std.proofs.Common.{arith}
use Rattle.std.proofs.Common.{◌≡◌, ◌+◌, ◌-◌, List, ℕ, [], true, false, length, take, drop, rules, refl, sym, ap, subst, ◌∙◌}
use Rattle.std.proofs.lemmas.List.{take_rest, drop-drop}
use Rattle.std.proofs.Math.Seq.{drop-length}
use Rattle.std.specs.Prelude.{All}
use Rattle.std.specs.Io.KnownBytes.{Appends}
use Rattle.text_filter.specs.Progress.{AreKept, ReplacesUpTo, WritesChunkUpTo, WritesFrontOfBytes, WritesChunkBeginning, WritesSomeOfChunk}
use Rattle.text_filter.specs.Replaced.{IsWordByte, may_hold_symbol}
use Rattle.text_filter.proofs.FilteredText.{at_fault}
use Rattle.text_filter.proofs.Copied.{lines_front, lines_some, none_kept, word_held, words_before, words_passed, words_fault, words_refused}
use Rattle.text_filter.proofs.WordTurns.{front_after, front_passed, replaced_on, stay_front, word_front, word_passed}
use Rattle.text_filter.proofs.chunks.write_chunk.Goals as goal

pub returns-in_err-write_whole-in-Lines-clause-err : goal.returns-in_err-write_whole-in-Lines-clause-err
returns-in_err-write_whole-in-Lines-clause-err g c =
    at_fault _ (lines_front (placed g.S.SymbolReader.all g.S.SymbolReader.prints c.args.placement) _ c.args.mid_word c.args.bytes.now c.whole_lines_len-ended.result _ _ (ap (placed g.S.SymbolReader.all g.S.SymbolReader.prints) c.in-Lines.is) c.in_err-write_whole-in-Lines.ensures.err)

pub returns-in_err-write_whole-in-Lines-clause-memory : goal.returns-in_err-write_whole-in-Lines-clause-memory
returns-in_err-write_whole-in-Lines-clause-memory g c = λ refused.
    lines_some (placed g.S.SymbolReader.all g.S.SymbolReader.prints c.args.placement) _ c.args.mid_word c.args.bytes.now c.whole_lines_len-ended.result _ _ (ap (placed g.S.SymbolReader.all g.S.SymbolReader.prints) c.in-Lines.is) (c.in_err-write_whole-in-Lines.ensures.memory (search rules))

pub returns-in_ok-write_whole-in-Lines-clause-bound : goal.returns-in_ok-write_whole-in-Lines-clause-bound
returns-in_ok-write_whole-in-Lines-clause-bound g c = search rules

pub returns-in_err-write_all-in-Words-clause-err : goal.returns-in_err-write_all-in-Words-clause-err
returns-in_err-write_all-in-Words-clause-err g c =
    let first = c.rest_of_word-first in
    at_fault _ (subst (λ s. WritesChunkBeginning s c.args.mid_word c.args.bytes.now (g.W.Sink.taken c.args.sink.now) (g.W.Sink.taken c.write_all.new.sink)) (sym (ap (placed g.S.SymbolReader.all g.S.SymbolReader.prints) c.in-Words.is))
    (stay_front (worded g.S.SymbolReader.all g.S.SymbolReader.prints c.in-Words.options) (g.met.S.SymbolReader.answers c.in-Words.options.printing) c.args.mid_word first.result.1 c.args.bytes.now _ first.result.0 _ _ (first.ensures.leads c.in-Words.options) refl c.in_err-write_all-in-Words.ensures.err))

pub returns-then-goes_on-clause-kept : goal.returns-then-goes_on-clause-kept
returns-then-goes_on-clause-kept g c =
    none_kept (placed g.S.SymbolReader.all g.S.SymbolReader.prints c.args.placement) _ (ap (λ n. drop n c.args.bytes.now) (c.rest_of_word-first.ensures.goes_on c.if-goes_on.true) ∙ drop-length c.args.bytes.now)

pub returns-then-goes_on-clause-ok : goal.returns-then-goes_on-clause-ok
returns-then-goes_on-clause-ok g c =
    let first = c.rest_of_word-first in
    subst (λ s. WritesChunkUpTo s c.args.mid_word c.args.bytes.now (drop first.result.0 c.args.bytes.now) first.result.1 (g.W.Sink.taken c.args.sink.now) (g.W.Sink.taken c.write_all.new.sink)) (sym (ap (placed g.S.SymbolReader.all g.S.SymbolReader.prints) c.in-Words.is))
    (front_passed (worded g.S.SymbolReader.all g.S.SymbolReader.prints c.in-Words.options) c.args.mid_word first.result.1 c.args.bytes.now first.result.0 _ _ (first.ensures.leads c.in-Words.options) c.in_ok-write_all-in-Words.ensures.ok)

pub whole_words_len-whole-requires-clause-before : goal.whole_words_len-whole-requires-clause-before
whole_words_len-whole-requires-clause-before g c =
    let first = c.rest_of_word-first in
    subst (λ l. All IsWordByte (take c.args.kept l)) (sym (take_rest c.args.bytes.now first.result.0))
    (words_before (placed g.S.SymbolReader.all g.S.SymbolReader.prints c.args.placement) (worded g.S.SymbolReader.all g.S.SymbolReader.prints c.in-Words.options) c.args.mid_word c.args.bytes.now c.args.kept first.result.0 (ap (placed g.S.SymbolReader.all g.S.SymbolReader.prints) c.in-Words.is) c.requires.kept c.requires.mid_word_keeps_none first.ensures.outside)

pub returns-in_err-write_whole-in-Words-clause-err : goal.returns-in_err-write_whole-in-Words-clause-err
returns-in_err-write_whole-in-Words-clause-err g c =
    let first = c.rest_of_word-first in
    let bytes = c.args.bytes.now in
    let rest : List ℕ = take (length bytes - first.result.0) (drop first.result.0 bytes) in
    at_fault _ (subst (λ s. WritesChunkBeginning s c.args.mid_word bytes (g.W.Sink.taken c.args.sink.now) (g.W.Sink.taken c.write_whole-in-Words.new.sink)) (sym (ap (placed g.S.SymbolReader.all g.S.SymbolReader.prints) c.in-Words.is))
    (words_fault (worded g.S.SymbolReader.all g.S.SymbolReader.prints c.in-Words.options) c.args.mid_word first.result.1 bytes rest first.result.0 c.whole_words_len-whole.result _ _ _ (first.ensures.leads c.in-Words.options) c.if-goes_on.false
    (take_rest bytes first.result.0) c.in_ok-write_all-in-Words.ensures.ok c.in_err-write_whole-in-Words.ensures.err))

pub returns-in_err-write_whole-in-Words-clause-memory : goal.returns-in_err-write_whole-in-Words-clause-memory
returns-in_err-write_whole-in-Words-clause-memory g c = λ refused.
    let first = c.rest_of_word-first in
    let bytes = c.args.bytes.now in
    let rest : List ℕ = take (length bytes - first.result.0) (drop first.result.0 bytes) in
    subst (λ s. WritesSomeOfChunk s c.args.mid_word bytes (g.W.Sink.taken c.args.sink.now) (g.W.Sink.taken c.write_whole-in-Words.new.sink)) (sym (ap (placed g.S.SymbolReader.all g.S.SymbolReader.prints) c.in-Words.is))
    (words_refused (worded g.S.SymbolReader.all g.S.SymbolReader.prints c.in-Words.options) c.args.mid_word first.result.1 bytes rest first.result.0 c.whole_words_len-whole.result _ _ _ (first.ensures.leads c.in-Words.options) c.if-goes_on.false
    (take_rest bytes first.result.0) c.in_ok-write_all-in-Words.ensures.ok (c.in_err-write_whole-in-Words.ensures.memory (search rules)))

pub returns-then-may_hold_symbol-clause-kept : goal.returns-then-may_hold_symbol-clause-kept
returns-then-may_hold_symbol-clause-kept g c =
    let n = c.rest_of_word-first.result.0 in
    let whole = c.whole_words_len-whole in
    subst (λ s. AreKept s (drop (n + whole.result) c.args.bytes.now)) (sym (ap (placed g.S.SymbolReader.all g.S.SymbolReader.prints) c.in-Words.is))
    (word_held (worded g.S.SymbolReader.all g.S.SymbolReader.prints c.in-Words.options) c.args.bytes.now _ n whole.result _ (take_rest c.args.bytes.now n) whole.ensures.word
    (subst (λ a. c.may_hold_symbol.result ≡ may_hold_symbol c.in-Words.options.strip a (take (length (take (length c.args.bytes.now - n) (drop n c.args.bytes.now)) - whole.result) (drop whole.result (take (length c.args.bytes.now - n) (drop n c.args.bytes.now)))))
    c.reads_all-all.ensures.value c.may_hold_symbol.ensures.value) (search rules))

pub returns-then-may_hold_symbol-clause-memory : goal.returns-then-may_hold_symbol-clause-memory
returns-then-may_hold_symbol-clause-memory g c = λ refused. absurd (search rules)

pub returns-then-may_hold_symbol-clause-ok : goal.returns-then-may_hold_symbol-clause-ok
returns-then-may_hold_symbol-clause-ok g c =
    let first = c.rest_of_word-first in
    let bytes = c.args.bytes.now in
    let n = first.result.0 in
    let whole = c.whole_words_len-whole.result in
    let rest : List ℕ = take (length bytes - n) (drop n bytes) in
    subst (λ s. WritesChunkUpTo s c.args.mid_word bytes (drop (n + whole) bytes) false (g.W.Sink.taken c.args.sink.now) (g.W.Sink.taken c.write_whole-in-Words.new.sink)) (sym (ap (placed g.S.SymbolReader.all g.S.SymbolReader.prints) c.in-Words.is))
    (subst (λ l. ReplacesUpTo (worded g.S.SymbolReader.all g.S.SymbolReader.prints c.in-Words.options) c.args.mid_word bytes l false (g.W.Sink.taken c.args.sink.now) (g.W.Sink.taken c.write_whole-in-Words.new.sink)) (ap (drop whole) (take_rest bytes n) ∙ drop-drop whole n bytes)
    (words_passed (worded g.S.SymbolReader.all g.S.SymbolReader.prints c.in-Words.options) c.args.mid_word first.result.1 bytes rest n whole _ _ _ (first.ensures.leads c.in-Words.options) c.if-goes_on.false
    (take_rest bytes n) c.in_ok-write_all-in-Words.ensures.ok c.in_ok-write_whole-in-Words.ensures.ok))

pub returns-in_err-write_all-in-Words-2-clause-err : goal.returns-in_err-write_all-in-Words-2-clause-err
returns-in_err-write_all-in-Words-2-clause-err g c =
    let first = c.rest_of_word-first in
    let bytes = c.args.bytes.now in
    let n = first.result.0 in
    let whole = c.whole_words_len-whole.result in
    let rest : List ℕ = take (length bytes - n) (drop n bytes) in
    let same : take (length rest - whole) (drop whole rest) ≡ drop whole rest = take_rest rest whole in
    let plain : may_hold_symbol c.in-Words.options.strip (g.S.SymbolReader.all c.in-Words.options.printing) (drop whole rest) ≡ false =
    subst (λ a. may_hold_symbol c.in-Words.options.strip a (drop whole rest) ≡ false) c.reads_all-all.ensures.value
    (ap (may_hold_symbol c.in-Words.options.strip c.reads_all-all.result) (sym same) ∙ sym c.may_hold_symbol.ensures.value ∙ c.if-may_hold_symbol.false) in
    at_fault _ (subst (λ s. WritesChunkBeginning s c.args.mid_word bytes (g.W.Sink.taken c.args.sink.now) (g.W.Sink.taken c.write_all-in-Words.new.sink)) (sym (ap (placed g.S.SymbolReader.all g.S.SymbolReader.prints) c.in-Words.is))
    (front_after (worded g.S.SymbolReader.all g.S.SymbolReader.prints c.in-Words.options) c.args.mid_word false bytes (drop whole rest) _ _ _
    (words_passed (worded g.S.SymbolReader.all g.S.SymbolReader.prints c.in-Words.options) c.args.mid_word first.result.1 bytes rest n whole _ _ _ (first.ensures.leads c.in-Words.options) c.if-goes_on.false
    (take_rest bytes n) c.in_ok-write_all-in-Words.ensures.ok c.in_ok-write_whole-in-Words.ensures.ok)
    (word_front (worded g.S.SymbolReader.all g.S.SymbolReader.prints c.in-Words.options) (g.met.S.SymbolReader.answers c.in-Words.options.printing) (drop whole rest) _ _ c.whole_words_len-whole.ensures.word plain
    (subst (λ l. WritesFrontOfBytes l (g.W.Sink.taken c.write_whole-in-Words.new.sink) (g.W.Sink.taken c.write_all-in-Words.new.sink)) same c.in_err-write_all-in-Words-2.ensures.err))))

pub returns-in_ok-write_all-in-Words-2-clause-kept : goal.returns-in_ok-write_all-in-Words-2-clause-kept
returns-in_ok-write_all-in-Words-2-clause-kept g c = none_kept (placed g.S.SymbolReader.all g.S.SymbolReader.prints c.args.placement) _ (drop-length c.args.bytes.now)

pub returns-in_ok-write_all-in-Words-2-clause-mid_word_keeps_none : goal.returns-in_ok-write_all-in-Words-2-clause-mid_word_keeps_none
returns-in_ok-write_all-in-Words-2-clause-mid_word_keeps_none g c = λ _. drop-length c.args.bytes.now

pub returns-in_ok-write_all-in-Words-2-clause-memory : goal.returns-in_ok-write_all-in-Words-2-clause-memory
returns-in_ok-write_all-in-Words-2-clause-memory g c = λ refused. absurd (search rules)

pub returns-in_ok-write_all-in-Words-2-clause-ok : goal.returns-in_ok-write_all-in-Words-2-clause-ok
returns-in_ok-write_all-in-Words-2-clause-ok g c =
    let first = c.rest_of_word-first in
    let bytes = c.args.bytes.now in
    let n = first.result.0 in
    let whole = c.whole_words_len-whole.result in
    let rest : List ℕ = take (length bytes - n) (drop n bytes) in
    let same : take (length rest - whole) (drop whole rest) ≡ drop whole rest = take_rest rest whole in
    let plain : may_hold_symbol c.in-Words.options.strip (g.S.SymbolReader.all c.in-Words.options.printing) (drop whole rest) ≡ false =
    subst (λ a. may_hold_symbol c.in-Words.options.strip a (drop whole rest) ≡ false) c.reads_all-all.ensures.value
    (ap (may_hold_symbol c.in-Words.options.strip c.reads_all-all.result) (sym same) ∙ sym c.may_hold_symbol.ensures.value ∙ c.if-may_hold_symbol.false) in
    subst (λ s. WritesChunkUpTo s c.args.mid_word bytes (drop (length bytes) bytes) true (g.W.Sink.taken c.args.sink.now) (g.W.Sink.taken c.write_all-in-Words.new.sink)) (sym (ap (placed g.S.SymbolReader.all g.S.SymbolReader.prints) c.in-Words.is))
    (subst (λ l. ReplacesUpTo (worded g.S.SymbolReader.all g.S.SymbolReader.prints c.in-Words.options) c.args.mid_word bytes l true (g.W.Sink.taken c.args.sink.now) (g.W.Sink.taken c.write_all-in-Words.new.sink)) (sym (drop-length bytes))
    (replaced_on (worded g.S.SymbolReader.all g.S.SymbolReader.prints c.in-Words.options) c.args.mid_word false true bytes (drop whole rest) [] _ _ _
    (words_passed (worded g.S.SymbolReader.all g.S.SymbolReader.prints c.in-Words.options) c.args.mid_word first.result.1 bytes rest n whole _ _ _ (first.ensures.leads c.in-Words.options) c.if-goes_on.false
    (take_rest bytes n) c.in_ok-write_all-in-Words.ensures.ok c.in_ok-write_whole-in-Words.ensures.ok)
    (word_passed (worded g.S.SymbolReader.all g.S.SymbolReader.prints c.in-Words.options) (drop whole rest) _ _ c.whole_words_len-whole.ensures.word plain
    (subst (Appends (g.W.Sink.taken c.write_whole-in-Words.new.sink) (g.W.Sink.taken c.write_all-in-Words.new.sink)) same c.in_ok-write_all-in-Words-2.ensures.ok))))

-- What follows only saves time: the check proves these goals without it, clause by clause.
pub write_whole-requires : goal.write_whole-requires
write_whole-requires g c = grind arith

pub write_whole-requires-in-Words : goal.write_whole-requires-in-Words
write_whole-requires-in-Words g c = grind arith

pub write_all-requires : goal.write_all-requires
write_all-requires g c = grind arith

pub write_all-requires-in-Words : goal.write_all-requires-in-Words
write_all-requires-in-Words g c = grind arith
