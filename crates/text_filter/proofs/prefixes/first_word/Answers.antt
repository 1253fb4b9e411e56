use Rattle.std.proofs.Common.{sym, ◌∙◌, arith}
use Rattle.text_filter.proofs.WordPlaces.{no_word_before, no_word_left}
use Rattle.text_filter.proofs.prefixes.first_word.Goals as goal

pub returns-then-is_word_byte-clause-found : goal.returns-then-is_word_byte-clause-found
returns-then-is_word_byte-clause-found c =
    record {
      inside = omega arith;
      word = sym c.is_word_byte.ensures.value ∙ c.if-is_word_byte.true;
      before = no_word_before c.args.bytes.now c.loop-at.at (omega arith) c.loop-at.invariant;
    }

pub returns-clause-none : goal.returns-clause-none
returns-clause-none c = no_word_left c.args.bytes.now c.loop-at.at (omega arith) c.loop-at.invariant
