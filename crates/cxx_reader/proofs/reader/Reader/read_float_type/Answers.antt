use Rattle.std.proofs.Common.{◌≡◌, refl, sym, ◌∙◌, subst, true}
use Rattle.std.specs.Prelude.{codes}
use Rattle.abi_scalars.specs.Bytes.{begins}
use Rattle.cxx_grammar.specs.State.{State}
use Rattle.cxx_grammar.specs.Parses.{if_next, ◌>>◌, past}
use Rattle.cxx_grammar.specs.Leaves.{make_word, parse_float_type, parse_numbered_float}
use Rattle.cxx_reader.specs.declared.reader.Reader.{Reader}
use Rattle.cxx_reader.specs.Outcome.{Gives}
use Rattle.cxx_reader.proofs.Kept.{gives_made}
use Rattle.cxx_reader.proofs.reader.Reader.read_float_type.Goals as goal

pub returns-then-begins_brain-clause-reads : goal.returns-then-begins_brain-clause-reads
unfolding parse_float_type
returns-then-begins_brain-clause-reads c =
    let r = c.skip-then-begins_brain.new.self in
    let after : Reader = record { rest = r.rest; arena = c.make_fixed.new.self; replaced = r.replaced; invented = r.invented; level = r.level; alloc = r.alloc } in
    let brain : begins (codes "16b") c.skip.new.self.rest.now ≡ true = sym c.begins_brain.ensures.value ∙ c.if-begins_brain.true in
    let gives = gives_made c.make_fixed.result after _ _ _ c.make_fixed.ensures.makes refl in
    subst (λ (u : State). Gives c.make_fixed.result after (if_next "16b" (past 3 >> make_word "std::bfloat16_t") parse_numbered_float u)) c.skip.ensures.state
    (rw brain (subst (λ (u : State). Gives c.make_fixed.result after (make_word "std::bfloat16_t" u)) c.skip-then-begins_brain.ensures.state gives))
