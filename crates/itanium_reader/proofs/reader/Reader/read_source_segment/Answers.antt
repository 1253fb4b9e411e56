use Rattle.std.proofs.Common.{arith}
use Rattle.std.proofs.Common.{◌≡◌, ◌-◌, length, rules, sym}
use Rattle.std.specs.Prelude.{take, drop, slice_range}
use Rattle.std.proofs.Math.Seq.{take-length}
use Rattle.std.proofs.lemmas.List.{length-drop}
use Rattle.demangle_text.specs.State.{shape}
use Rattle.itanium_reader.specs.Parser as spec
use Rattle.itanium_reader.specs.Outcome.{state}
use Rattle.itanium_reader.proofs.Texts.{named_is}
use Rattle.itanium_reader.proofs.Unfold.{source_in_read, gives_same}
use Rattle.itanium_reader.proofs.reader.Reader.read_source_segment.Goals as goal

pub returns-clause-reads : goal.returns-clause-reads
returns-clause-reads c =
    let bytes = c.args.self.now.rest.now in
    let to = c.in-Some.to in
    let all : take (length bytes - to) (drop to bytes) ≡ drop to bytes = rw (sym (length-drop to bytes)) (take-length (drop to bytes)) in
    let parent = shape c.args.self.now.buffer.value c.args.self.now.found in
    gives_same _ _ c.read_tags.ensures.reads
    (source_in_read parent (spec.save_if c.args.candidate parent (state c.args.self.now)) {name = slice_range bytes c.in-Some.from to} {rest = drop to bytes} {mid = state c.save_if-2.new.self}
    (search rules) (search (rules, named_is)) (c.in-Ok-save_if.ensures {u = tt}).state (search (rules, all)))

-- What follows only saves time: the check proves these goals without it, clause by clause.
pub returns-in-Err : goal.returns-in-Err
returns-in-Err c = grind arith

pub returns-in_default : goal.returns-in_default
returns-in_default c = grind arith

pub returns-in-Err-save_if : goal.returns-in-Err-save_if
returns-in-Err-save_if c = grind arith
