use Rattle.std.proofs.Common.{codes, ap, ◌∙◌}
use Rattle.cosvigle.specs.Options.{match_name}
use Rattle.cosvigle.proofs.option_names.find_option.Goals as goal

pub returns : goal.returns
returns c =
    let bytes = c.args.bytes.now in
    record {
      value = (c.match_name.ensures.value ∙ ap (λ f. match_name f bytes (codes "version") 118)
          (c.match_name-found-12.ensures.value ∙ ap (λ f. match_name f bytes (codes "help") 104)
          (c.match_name-found-11.ensures.value ∙ ap (λ f. match_name f bytes (codes "lines") 108)
          (c.match_name-found-10.ensures.value ∙ ap (λ f. match_name f bytes (codes "format") 115)
          (c.match_name-found-9.ensures.value ∙ ap (λ f. match_name f bytes (codes "types") 116)
          (c.match_name-found-8.ensures.value ∙ ap (λ f. match_name f bytes (codes "recursion-limit") 82)
          (c.match_name-found-7.ensures.value ∙ ap (λ f. match_name f bytes (codes "recurse-limit") 82)
          (c.match_name-found-6.ensures.value ∙ ap (λ f. match_name f bytes (codes "no-recursion-limit") 114)
          (c.match_name-found-5.ensures.value ∙ ap (λ f. match_name f bytes (codes "no-recurse-limit") 114)
          (c.match_name-found-4.ensures.value ∙ ap (λ f. match_name f bytes (codes "no-verbose") 105)
          (c.match_name-found-3.ensures.value ∙ ap (λ f. match_name f bytes (codes "no-params") 112)
          (c.match_name-found-2.ensures.value ∙ ap (λ f. match_name f bytes (codes "no-strip-underscores") 110)
          c.match_name-found.ensures.value))))))))))));
    }
