use Rattle.text_filter.specs.Printed.{worded}
use Rattle.std.proofs.Common.{arith}
use Rattle.std.proofs.Common.{◌≡◌, take, subst, rules}
use Rattle.text_filter.specs.Progress.{AppendsReplaced}
use Rattle.text_filter.proofs.LineEnds.{block_appended}
use Rattle.text_filter.proofs.writing.append_block.Goals as goal

pub returns-clause-ok : goal.returns-clause-ok
returns-clause-ok g c =
    let text = take c.block_len-first.result c.args.text.now in
    let kept : c.append_words.new.output ≡ c.args.output.now = search rules in
    block_appended (worded g.S.SymbolReader.all g.S.SymbolReader.prints c.args.options) text _ _ c.block_len-first.ensures.whole
    (subst (λ l. AppendsReplaced (worded g.S.SymbolReader.all g.S.SymbolReader.prints c.args.options) text l c.append_words-2.new.output) kept c.in_ok-append_words.ensures.ok)

pub block_len-len-requires-clause-some : goal.block_len-len-requires-clause-some
block_len-len-requires-clause-some g c = grind arith
