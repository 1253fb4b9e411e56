use Rattle.text_filter.specs.Printed.{worded}
use Rattle.std.proofs.Common.{[], ◌≡◌, ◌+◌, min, ◌≤◌, ◌++◌, IfSome, IfNone, length, take, drop, refl, sym, subst, arith, append-nil}
use Rattle.std.proofs.lemmas.List.{length-take-le}
use Rattle.std.proofs.lemmas.List.Elements.{All-take}
use Rattle.text_filter.specs.Replaced.{IsWordByte, IsWordAnswer, no_byte}
use Rattle.text_filter.specs.Progress.{HasNothingToRead}
use Rattle.text_filter.proofs.WordPlaces.{words_joined, some_word, word_slice, word_stays, part, part_len, stays_replaced, answer_replaced, extended, rest_appended, nothing-rest, end_past, boundary_past}
use Rattle.text_filter.proofs.words.append_words_or_part.Goals as goal

pub loop-more-init : goal.loop-more-init
loop-more-init g c = record {
  ordered = omega arith;
  inside = omega arith;
  boundary = λ some. absurd (omega (arith, some));
  extends = ([], sym (append-nil _));
  so_far = ([], no_byte, refl);
}

pub word_answer-requires : goal.word_answer-requires
word_answer-requires g c =
    let text = c.args.text.now in
    let start = c.word_start-start.result in
    let end = c.word_end-end.result in
    let all = word_slice text start end (omega arith) c.word_end-end.ensures.high
    (words_joined text start (c.loop-more.from + c.in-Some.more) end c.word_start-start.ensures.word c.word_end-end.ensures.word) in
    All-take IsWordByte c.stem_len-stem.result (part text start end) all

pub loop-more-preserved-in-Some-2 : goal.loop-more-preserved-in-Some-2
loop-more-preserved-in-Some-2 g c =
    let text = c.args.text.now in
    let start = c.word_start-start.result in
    let end = c.word_end-end.result in
    let word = part text start end in
    let stem = c.stem_len-stem.result in
    let front = c.in-Some-2.chars_len in
    let answer = c.as_bytes.result.now in
    let all = word_slice text start end (omega arith) c.word_end-end.ensures.high
    (words_joined text start (c.loop-more.from + c.in-Some.more) end c.word_start-start.ensures.word c.word_end-end.ensures.word) in
    let some = some_word c.reads_all-all.result text c.loop-more.from c.in-Some.more end c.in-Some.ensures.found c.word_end-end.ensures.low c.word_end-end.ensures.ended in
    let stem_in : start + stem ≤ end = omega (arith, c.stem_len-stem.ensures.bound, part_len text start end c.word_end-end.ensures.high) in
    let front_in : front ≤ stem =
    omega (arith, subst (λ found. IfSome found (λ a. a.0 ≤ length (take stem word))) c.in-Some-2.is c.in_ok-chars_len.ensures.bound, length-take-le stem word c.stem_len-stem.ensures.bound) in
    let is_answer : IsWordAnswer (worded g.S.SymbolReader.all g.S.SymbolReader.prints c.args.options) (take stem word) (take front (take stem word) ++ answer) =
    subst (λ l. IsWordAnswer (worded g.S.SymbolReader.all g.S.SymbolReader.prints c.args.options) (take stem word) (take front (take stem word) ++ l)) (sym c.as_bytes.ensures.value)
    (subst (λ found. IfSome found (λ a. IsWordAnswer (worded g.S.SymbolReader.all g.S.SymbolReader.prints c.args.options) (take stem word) (take a.0 (take stem word) ++ a.1.now))) c.in-Some-2.is c.in_ok-chars_len.ensures.some) in
    let past_is : c.min-from.result ≡ min (end + 1) (length text) = omega (arith, c.min-from.ensures) in
    record {
      ordered = omega (arith, stem_in, past_is, c.word_end-end.ensures.high);
      inside = omega (arith, past_is);
      boundary = boundary_past text end c.min-from.result c.word_end-end.ensures.high past_is c.word_end-end.ensures.ended;
      extends = extended c.args.output.now c.loop-more.output _ c.add_pair.new.self c.loop-more.invariant.extends c.in_ok-add_pair.ensures.ok;
      so_far = end_past (worded g.S.SymbolReader.all g.S.SymbolReader.prints c.args.options) (g.met.S.SymbolReader.answers c.args.options.printing) text c.args.output.now c.add_pair.new.self (start + stem) end c.min-from.result stem_in c.word_end-end.ensures.high past_is c.word_end-end.ensures.ended
          (answer_replaced (worded g.S.SymbolReader.all g.S.SymbolReader.prints c.args.options) (g.met.S.SymbolReader.answers c.args.options.printing) text c.args.output.now c.loop-more.output answer c.add_pair.new.self c.loop-more.done c.loop-more.from c.in-Some.more
          start front stem end c.loop-more.invariant.ordered c.word_start-start.ensures.low c.word_start-start.ensures.high (omega (arith, some, c.word_start-start.ensures.high)) c.word_end-end.ensures.high
          c.loop-more.invariant.boundary c.word_start-start.ensures.boundary c.loop-more.invariant.so_far
          (subst (λ a. HasNothingToRead a (take c.in-Some.more (drop c.loop-more.from text))) c.reads_all-all.ensures.value
          (nothing-rest c.reads_all-all.result text c.loop-more.from c.in-Some.more c.in-Some.ensures.found.before)) all c.stem_len-stem.ensures.dots c.stem_len-stem.ensures.stem
          front_in stem_in is_answer c.in_ok-add_pair.ensures.ok);
    }

pub loop-more-preserved : goal.loop-more-preserved
loop-more-preserved g c =
    let text = c.args.text.now in
    let start = c.word_start-start.result in
    let end = c.word_end-end.result in
    let word = part text start end in
    let stem = c.stem_len-stem.result in
    let all = word_slice text start end (omega arith) c.word_end-end.ensures.high
    (words_joined text start (c.loop-more.from + c.in-Some.more) end c.word_start-start.ensures.word c.word_end-end.ensures.word) in
    let some = some_word c.reads_all-all.result text c.loop-more.from c.in-Some.more end c.in-Some.ensures.found c.word_end-end.ensures.low c.word_end-end.ensures.ended in
    let is_answer : IsWordAnswer (worded g.S.SymbolReader.all g.S.SymbolReader.prints c.args.options) (take stem word) (take stem word) =
    subst (λ found. IfNone found (IsWordAnswer (worded g.S.SymbolReader.all g.S.SymbolReader.prints c.args.options) (take stem word) (take stem word))) c.in_default-2.is c.in_ok-chars_len.ensures.none in
    let past_is : c.min-from.result ≡ min (end + 1) (length text) = omega (arith, c.min-from.ensures) in
    let kept : c.loop-more.done ≤ end = omega (arith, c.loop-more.invariant.ordered, c.word_end-end.ensures.low) in
    record {
      ordered = omega (arith, kept, past_is, c.word_end-end.ensures.high);
      inside = omega (arith, past_is);
      boundary = boundary_past text end c.min-from.result c.word_end-end.ensures.high past_is c.word_end-end.ensures.ended;
      extends = c.loop-more.invariant.extends;
      so_far = end_past (worded g.S.SymbolReader.all g.S.SymbolReader.prints c.args.options) (g.met.S.SymbolReader.answers c.args.options.printing) text c.args.output.now c.loop-more.output c.loop-more.done end c.min-from.result kept c.word_end-end.ensures.high past_is c.word_end-end.ensures.ended
          (stays_replaced (worded g.S.SymbolReader.all g.S.SymbolReader.prints c.args.options) (g.met.S.SymbolReader.answers c.args.options.printing) text c.args.output.now c.loop-more.output c.loop-more.done c.loop-more.from c.in-Some.more start end
          c.loop-more.invariant.ordered c.word_start-start.ensures.low c.word_start-start.ensures.high (omega arith) c.word_end-end.ensures.high
          c.loop-more.invariant.boundary c.word_start-start.ensures.boundary c.loop-more.invariant.so_far
          (subst (λ a. HasNothingToRead a (take c.in-Some.more (drop c.loop-more.from text))) c.reads_all-all.ensures.value
          (nothing-rest c.reads_all-all.result text c.loop-more.from c.in-Some.more c.in-Some.ensures.found.before))
          (word_stays (worded g.S.SymbolReader.all g.S.SymbolReader.prints c.args.options) word stem (omega (arith, some, c.word_start-start.ensures.high, part_len text start end c.word_end-end.ensures.high)) all c.stem_len-stem.ensures.dots c.stem_len-stem.ensures.stem is_answer));
    }

pub returns-clause-ok : goal.returns-clause-ok
returns-clause-ok g c =
    rest_appended c.add.result (worded g.S.SymbolReader.all g.S.SymbolReader.prints c.args.options) (g.met.S.SymbolReader.answers c.args.options.printing) c.args.text.now c.args.output.now c.loop-more.output c.add.new.self c.loop-more.done c.loop-more.from
    c.loop-more.invariant.ordered c.loop-more.invariant.inside c.loop-more.invariant.boundary c.loop-more.invariant.so_far
    (subst (λ a. HasNothingToRead a (part c.args.text.now c.loop-more.from (length c.args.text.now))) c.reads_all-all.ensures.value c.in_default.ensures.none) c.add.ensures.ok

pub loop-more-smaller-in-Some-2 : goal.loop-more-smaller-in-Some-2
loop-more-smaller-in-Some-2 g c = grind arith

pub loop-more-smaller : goal.loop-more-smaller
loop-more-smaller g c = grind arith
