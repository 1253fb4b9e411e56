use Rattle.std.proofs.Common.{◌≡◌, ◌-◌, length, rules, sym}
use Rattle.std.specs.Prelude.{take, drop, slice_range}
use Rattle.std.proofs.Math.Seq.{take-length}
use Rattle.std.proofs.lemmas.List.{length-drop}
use Rattle.itanium_reader.proofs.Turns.{tags_end, tags_more, tags_fail}
use Rattle.itanium_reader.proofs.reader.Reader.read_some_tags.Goals as goal

pub returns-clause-reads : goal.returns-clause-reads
returns-clause-reads c = (c.loop-self.invariant.living, tags_end c.loop-self.invariant.reads (search rules))

pub returns-in_default-source_name-clause-reads : goal.returns-in_default-source_name-clause-reads
returns-in_default-source_name-clause-reads c = tags_fail c.loop-self.invariant.reads (sym c.in-NextTag.ensures.case) (search rules)

pub loop-self-preserved : goal.loop-self-preserved
loop-self-preserved c =
    let bytes = c.skip.new.self.rest.now in
    let to = c.in-Some.to in
    let all : take (length bytes - to) (drop to bytes) ≡ drop to bytes = rw (sym (length-drop to bytes)) (take-length (drop to bytes)) in
    record {
      reads = tags_more c.loop-self.invariant.reads {text = slice_range bytes c.in-Some.from to}
          {rest = drop to bytes} (sym c.in-NextTag.ensures.case) (search rules) (search rules) all (search rules)
          (search rules) (search rules) (search rules) (search rules);
      living = search rules;
      last = search rules;
      run = search rules;
      taken = search rules;
      lists = search rules;
      scopes_same = search rules;
      entered = search rules;
      most = search rules;
    }
