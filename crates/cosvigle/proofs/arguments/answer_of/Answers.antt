use Rattle.std.proofs.Common.{drop, sym, subst, ap, ◌∙◌}
use Rattle.std.proofs.lemmas.List.{take_rest}
use Rattle.cosvigle_engine.specs.Printed.{IsPrintedAs}
use Rattle.text_filter.specs.Replaced.{stripped}
use Rattle.cosvigle.proofs.ArgumentTexts.{no_text, with_name, without_name}
use Rattle.cosvigle.proofs.arguments.answer_of.Goals as goal

pub returns-then-not-is_utf8 : goal.returns-then-not-is_utf8
returns-then-not-is_utf8 c =
    let argument = c.args.argument.now in
    let symbol_is = c.stripped-symbol.ensures.value ∙ ap (stripped c.args.options.strip) (take_rest argument c.prefix_chars_len-len.result ∙ ap (λ n. drop n argument) c.prefix_chars_len-len.ensures.value) in
    record { answer = no_text c.args.options argument c.stripped-symbol.result.now symbol_is (c.is_utf8.ensures.no c.if-not-is_utf8.true) }

pub returns-in-Some : goal.returns-in-Some
returns-in-Some c =
    let argument = c.args.argument.now in
    let symbol_is = c.stripped-symbol.ensures.value ∙ ap (stripped c.args.options.strip) (take_rest argument c.prefix_chars_len-len.result ∙ ap (λ n. drop n argument) c.prefix_chars_len-len.ensures.value) in
    let same = c.from_utf8_unchecked-symbol.ensures in
    record {
      answer =
          with_name (λ s. s.now) c.args.options argument c.from_utf8_unchecked-symbol.result.now _ c.prefix_chars_len-len.result c.text.result c.in-Some.answer (same ∙ symbol_is)
          c.prefix_chars_len-len.ensures.value c.from_utf8_unchecked-symbol.utf8
          (subst (IsPrintedAs c.args.options.printing c.from_utf8_unchecked-symbol.result.now) (sym c.text.ensures.value) c.in_ok-read.ensures.printed) c.in-Some.is c.as_bytes.ensures.value;
    }

pub returns-in-None : goal.returns-in-None
returns-in-None c =
    let argument = c.args.argument.now in
    let symbol_is = c.stripped-symbol.ensures.value ∙ ap (stripped c.args.options.strip) (take_rest argument c.prefix_chars_len-len.result ∙ ap (λ n. drop n argument) c.prefix_chars_len-len.ensures.value) in
    let same = c.from_utf8_unchecked-symbol.ensures in
    record {
      answer =
          without_name (λ s. s.now) c.args.options argument c.from_utf8_unchecked-symbol.result.now c.text.result (same ∙ symbol_is) c.from_utf8_unchecked-symbol.utf8
          (subst (IsPrintedAs c.args.options.printing c.from_utf8_unchecked-symbol.result.now) (sym c.text.ensures.value) c.in_ok-read.ensures.printed) c.in-None.is;
    }
