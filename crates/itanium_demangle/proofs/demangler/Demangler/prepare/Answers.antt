use Rattle.itanium_demangle.proofs.Rules.{answers}
use Rattle.std.proofs.Common.{arith}
use Rattle.std.proofs.lemmas.Grind.{common_steps}
use Rattle.std.proofs.Common.{rules, ◌≡◌, Some}
use Rattle.demangle_text.specs.State.{shape}
use Rattle.itanium_grammar.specs.Tree.{shape_of}
use Rattle.itanium_grammar.specs.Answer.{start, initial, max_depth}
use Rattle.itanium_grammar.specs.Grammar.{SymbolName}
use Rattle.abi_scalars.specs.Symbol.{after_prefix}
use Rattle.itanium_grammar.proofs.Widths.{answer_length}
use Rattle.itanium_reader.specs.Outcome.{state}
use Rattle.itanium_demangle.specs.Meaning.{HasReading}
use Rattle.itanium_demangle.proofs.Symbols.{suffix_utf8, printed, counted, kept_components, kept_shapes, kept_text, state_begun, reading_from_start}
use Rattle.itanium_demangle.proofs.demangler.Demangler.prepare.Goals as goal

pub keep-requires-2-clause-text : goal.keep-requires-2-clause-text
keep-requires-2-clause-text c =
    let prefix : after_prefix c.args.symbol.now ≡ Some c.in-Some.inside.now = search rules in
    let starts = state_begun _ _ c.begin_answer-mark.ensures.saved c.begin_answer-mark.ensures.scopes in
    let read = reading_from_start _ _ _ _ _ starts (c.in-Ok.ensures {u = tt}).reading.1 in
    let good = suffix_utf8 c.args.symbol.now c.in-Some.inside.now _ _ _ _ c.utf8.symbol prefix read in
    kept_text _ _ c.end_answer.new.reader.buffer c.in_ok-answered.answered (c.in_ok-answered.ensures {u = tt}).answer good

-- the reading that was found
found : (c : goal.After-keep-2)
    → HasReading (SymbolName initial (start c.in-Some.inside.now)) shape_of max_depth 0 0
    (shape c.read_mangled_name.new.reader.buffer.value c.read_mangled_name.new.reader.found) (state c.read_mangled_name.new.reader)
found c =
    let starts = state_begun _ _ c.begin_answer-mark.ensures.saved c.begin_answer-mark.ensures.scopes in
    reading_from_start _ _ _ _ _ starts (c.in-Ok.ensures {u = tt}).reading.1

pub returns-clause-answer : goal.returns-clause-answer
returns-clause-answer c =
    let prefix : after_prefix c.args.symbol.now ≡ Some c.in-Some.inside.now = search rules in
    rw c.keep-2.ensures.text (printed c.args.symbol.now c.in-Some.inside.now _ _ _ _ _ prefix (found c) (c.in_ok-answered.ensures {u = tt}).answer)

-- and so long it is at most
pub returns-clause-longest : goal.returns-clause-longest
returns-clause-longest c = answer_length c.args.symbol.now _ (returns-clause-answer c)

-- the counts are those that the reader has kept
pub returns-clause-counts : goal.returns-clause-counts
returns-clause-counts c =
    let prefix : after_prefix c.args.symbol.now ≡ Some c.in-Some.inside.now = search rules in
    let kept = c.keep-2.ensures in
    let ended = c.in_ok-answered.ensures {u = tt} in
    rw (kept.entered, kept.most_saved, ended.entered, ended.most_saved) (counted c.args.symbol.now c.in-Some.inside.now _ _ prefix (found c))

-- and so are the components
pub returns-clause-components : goal.returns-clause-components
returns-clause-components c =
    let prefix : after_prefix c.args.symbol.now ≡ Some c.in-Some.inside.now = search rules in
    let kept = c.keep-2.ensures in
    let ended = c.in_ok-answered.ensures {u = tt} in
    rw (kept.text, kept.components) (kept_components c.args.symbol.now c.in-Some.inside.now _ _ _
    (state c.read_mangled_name.new.reader) c.end_answer.new.reader.buffer c.in_ok-answered.answered prefix (found c) ended.saved)

-- and their shapes
pub returns-clause-saved : goal.returns-clause-saved
returns-clause-saved c =
    let prefix : after_prefix c.args.symbol.now ≡ Some c.in-Some.inside.now = search rules in
    let kept = c.keep-2.ensures in
    let ended = c.in_ok-answered.ensures {u = tt} in
    rw (kept.text, kept.saved) (kept_shapes c.args.symbol.now c.in-Some.inside.now _ _ _
    (state c.read_mangled_name.new.reader) c.end_answer.new.reader.buffer c.in_ok-answered.answered prefix (found c) ended.saved)

pub returns-in-Err-Unreadable-clause-one : goal.returns-in-Err-Unreadable-clause-one
returns-in-Err-Unreadable-clause-one c = grind (arith, answers)

pub returns-in-Err-Memory-clause-one : goal.returns-in-Err-Memory-clause-one
returns-in-Err-Memory-clause-one c = grind (arith, answers)

pub end_answer-requires-clause-innermost : goal.end_answer-requires-clause-innermost
end_answer-requires-clause-innermost c = grind (arith, common_steps)

pub returns-clause-one : goal.returns-clause-one
returns-clause-one c = grind (arith, answers)

pub returns-in_err-buffer-in-None-clause-one : goal.returns-in_err-buffer-in-None-clause-one
returns-in_err-buffer-in-None-clause-one c = grind (arith, answers)

pub returns-in_err-answered-clause-one : goal.returns-in_err-answered-clause-one
returns-in_err-answered-clause-one c = grind (arith, answers)

pub returns-in-Err-Unreadable-clause-bounds : goal.returns-in-Err-Unreadable-clause-bounds
returns-in-Err-Unreadable-clause-bounds c = grind (arith, answers)

pub returns-in-Err-Unreadable-clause-components : goal.returns-in-Err-Unreadable-clause-components
returns-in-Err-Unreadable-clause-components c = grind (arith, common_steps)

pub returns-in-Err-Unreadable-clause-saved : goal.returns-in-Err-Unreadable-clause-saved
returns-in-Err-Unreadable-clause-saved c = grind (arith, common_steps)

pub returns-in-Err-Unreadable-clause-longest : goal.returns-in-Err-Unreadable-clause-longest
returns-in-Err-Unreadable-clause-longest c = grind (arith, common_steps)

pub returns-in-Err-Unreadable-clause-answer : goal.returns-in-Err-Unreadable-clause-answer
returns-in-Err-Unreadable-clause-answer c = grind (arith, common_steps)

pub returns-in-Err-Unreadable-clause-counts : goal.returns-in-Err-Unreadable-clause-counts
returns-in-Err-Unreadable-clause-counts c = grind (arith, answers)

pub invariant_of-self-in-Err-Memory : goal.invariant_of-self-in-Err-Memory
invariant_of-self-in-Err-Memory c = grind (arith, common_steps)

pub returns-clause-bounds : goal.returns-clause-bounds
returns-clause-bounds c = grind (arith, answers)
