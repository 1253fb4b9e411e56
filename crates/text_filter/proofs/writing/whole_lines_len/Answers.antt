use Rattle.std.proofs.Common.{drop, sym, subst, arith}
use Rattle.std.proofs.lemmas.List.{take-append-drop}
use Rattle.std.proofs.lemmas.List.Elements.{All-append, All-same}
use Rattle.text_filter.specs.Filtered.{HasNoLineFeed}
use Rattle.text_filter.proofs.LineEnds.{is_other}
use Rattle.text_filter.proofs.writing.whole_lines_len.Goals as goal

pub returns-clause-unended : goal.returns-clause-unended
returns-clause-unended c =
    let bytes = c.args.bytes.now in
    All-same is_other _ _ (sym (take-append-drop c.args.kept bytes)) (All-append is_other _ _ c.requires.before
    (subst (λ n. HasNoLineFeed (drop n bytes)) (omega arith) c.loop-place.invariant.unended))
