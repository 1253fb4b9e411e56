use Rattle.std.proofs.Common.{Some, None, ap, ◌∙◌, sym}
use Rattle.cosvigle.specs.declared.option_names.Found.TheVariants.{Nothing, Prefix, Several, Exact}
use Rattle.cosvigle.specs.Options.{after_named, after_long}
use Rattle.cosvigle.proofs.Steps.{after_name-found}
use Rattle.cosvigle.proofs.options.after_name.Goals as goal

pub returns-in-Exact : goal.returns-in-Exact
returns-in-Exact c =
    let bytes = c.args.bytes.now in
    let len = c.name_len-len.result in
    record {
      value =
          c.after_named.ensures.value ∙ ap (λ s. after_named s len bytes) c.after_letter.ensures.value
          ∙ after_name-found c.args.flags bytes len (Exact c.in-Exact.letter) c.name_len-len.ensures.value (sym c.in-Exact.is ∙ c.find_option.ensures.value);
    }

pub returns-in-Prefix : goal.returns-in-Prefix
returns-in-Prefix c =
    let bytes = c.args.bytes.now in
    let len = c.name_len-len.result in
    record {
      value =
          c.after_named-in-Prefix.ensures.value ∙ ap (λ s. after_named s len bytes) c.after_letter-in-Prefix.ensures.value
          ∙ after_name-found c.args.flags bytes len (Prefix c.in-Prefix.letter) c.name_len-len.ensures.value (sym c.in-Prefix.is ∙ c.find_option.ensures.value);
    }

pub returns-in-Several : goal.returns-in-Several
returns-in-Several c =
    record {
      value =
          after_name-found c.args.flags c.args.bytes.now c.name_len-len.result Several c.name_len-len.ensures.value
          (sym c.in-Several.is ∙ c.find_option.ensures.value);
    }

pub returns-in-Some : goal.returns-in-Some
returns-in-Some c =
    let bytes = c.args.bytes.now in
    let len = c.name_len-len.result in
    record {
      value =
          c.after_named-in-Some.ensures.value ∙ ap (λ s. after_named s len bytes) c.after_long_option.ensures.value
          ∙ ap (λ o. after_long c.args.flags o len bytes) (sym c.in-Some.is ∙ c.find_long_option.ensures.value)
          ∙ after_name-found c.args.flags bytes len Nothing c.name_len-len.ensures.value (sym c.in-Nothing.is ∙ c.find_option.ensures.value);
    }

pub returns-in-None : goal.returns-in-None
returns-in-None c =
    let bytes = c.args.bytes.now in
    let len = c.name_len-len.result in
    record {
      value =
          ap (λ o. after_long c.args.flags o len bytes) (sym c.in-None.is ∙ c.find_long_option.ensures.value)
          ∙ after_name-found c.args.flags bytes len Nothing c.name_len-len.ensures.value (sym c.in-Nothing.is ∙ c.find_option.ensures.value);
    }
