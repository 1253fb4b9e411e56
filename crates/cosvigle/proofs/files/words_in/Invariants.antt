use Rattle.std.proofs.Common.{◌≡◌, [], drop}
use Rattle.std.specs.Prelude.{map}
use Rattle.cosvigle.specs.declared.files.Mode.TheVariants.{Between}
use Rattle.cosvigle.specs.Files.{Reading, read}
use Rattle.cosvigle.proofs.files.words_in.Given as goal

abbrev pub invariant-loop-at : goal.invariant-loop-at
invariant-loop-at l =
    let first : Reading = record { words = []; word = []; mode = Between } in
    let now : Reading = record { words = map (λ word. word.items) l.words.items; word = l.word.items; mode = l.mode } in
    read first l.text ≡ read now (drop l.at l.text)
