use Rattle.std.proofs.Common.{refl, subst}
use Rattle.cxx_grammar.specs.State.{State}
use Rattle.cxx_grammar.specs.Parses.{◌>>◌}
use Rattle.cxx_grammar.specs.Leaves.{make_word}
use Rattle.cxx_grammar.specs.Unnamed.{parse_count}
use Rattle.cxx_reader.specs.declared.reader.Reader.{Reader}
use Rattle.cxx_reader.specs.Outcome.{Gives}
use Rattle.cxx_reader.proofs.Kept.{gives_made}
use Rattle.cxx_reader.proofs.reader.Reader.read_block.Goals as goal

pub returns-clause-reads : goal.returns-clause-reads
returns-clause-reads c =
    let r = c.read_count.new.self in
    let after : Reader = record { rest = r.rest; arena = c.make_fixed.new.self; replaced = r.replaced; invented = r.invented; level = r.level; alloc = r.alloc } in
    subst (λ (u : State). Gives c.make_fixed.result after ((parse_count >> make_word "'block-literal'") u)) c.skip.ensures.state
    (rw (c.in-Ok.ensures {u = tt}).reads (gives_made _ after _ _ _ c.make_fixed.ensures.makes refl))
