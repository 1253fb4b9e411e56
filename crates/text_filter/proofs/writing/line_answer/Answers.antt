use Rattle.std.proofs.Common.{sym, subst}
use Rattle.std.specs.Prelude.{IsUtf8}
use Rattle.text_filter.proofs.LineAnswers.{not_text, line_without, line_with}
use Rattle.text_filter.proofs.writing.line_answer.Goals as goal
use Rattle.text_filter.proofs.writing.line_answer.Goals.{else-not-known_utf8-via-then-not-known_utf8+else-not-is_utf8, else-not-known_utf8-via-else-not-known_utf8}

pub returns-then-not-is_utf8 : goal.returns-then-not-is_utf8
returns-then-not-is_utf8 g c = not_text (c.is_utf8.ensures.no c.if-not-is_utf8.true)

pub from_utf8_unchecked-symbol-requires : goal.from_utf8_unchecked-symbol-requires
from_utf8_unchecked-symbol-requires g c =
    elim c.else-not-known_utf8.branch [
      | else-not-known_utf8-via-then-not-known_utf8+else-not-is_utf8 w ↦ w.is_utf8.ensures.yes w.if-not-is_utf8.false
      | else-not-known_utf8-via-else-not-known_utf8 w ↦ c.requires w.if-not-known_utf8.false
    ]

pub returns-in-Some : goal.returns-in-Some
returns-in-Some g c =
    line_with (g.S.SymbolReader.prints c.args.printing) (λ s. s.now) _ _ _ c.text.result c.in-Some.answer c.from_utf8_unchecked-symbol.ensures (subst IsUtf8 c.from_utf8_unchecked-symbol.ensures c.from_utf8_unchecked-symbol.utf8)
    (subst ((g.S.SymbolReader.prints c.args.printing) c.from_utf8_unchecked-symbol.result.now) (sym c.text.ensures.value) c.in_ok-read.ensures.printed) c.in-Some.is c.as_bytes.ensures.value

pub returns-in-None : goal.returns-in-None
returns-in-None g c =
    line_without (g.S.SymbolReader.prints c.args.printing) (λ s. s.now) _ _ c.text.result c.from_utf8_unchecked-symbol.ensures (subst IsUtf8 c.from_utf8_unchecked-symbol.ensures c.from_utf8_unchecked-symbol.utf8)
    (subst ((g.S.SymbolReader.prints c.args.printing) c.from_utf8_unchecked-symbol.result.now) (sym c.text.ensures.value) c.in_ok-read.ensures.printed) c.in-None.is
