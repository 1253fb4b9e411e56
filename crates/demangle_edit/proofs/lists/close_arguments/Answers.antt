-- The end of the output is that of the list, and what stands after the name then is the list with its end.
use Rattle.std.proofs.Common.{rules, ◌≡◌, ◌<◌, ◌++◌, ℕ, List, length, take, sym, ap, ◌∙◌, subst, arith, codes, nat_eq, if◌then◌else◌, Bool}
use Rattle.std.specs.List.{ends_with}
use Rattle.std.proofs.lemmas.List.{length-append}
use Rattle.demangle_text.specs.Shape.{Shape, text, appended}
use Rattle.demangle_text.specs.State.{shape, Lives, main_bytes}
use Rattle.demangle_text.specs.Calls.{text_after}
use Rattle.demangle_text.proofs.Laws.{main_split, text_after-more}
use Rattle.demangle_edit.specs.Built.{arguments_closed}
use Rattle.demangle_edit.proofs.Built.{appended_text, appended_twice, last_byte}
use Rattle.demangle_edit.proofs.lists.close_arguments.Goals as goal

pub returns-clause-shape : goal.returns-clause-shape
returns-clause-shape c =
    let old = c.args.buf.now in
    let new = c.push.new.self in
    let list = c.args.list in
    let s = shape old list in
    let more = text_after old list in
    let end = c.if-angle.end.now in
    let end_at = λ (b : Bool). if b then codes " >" else codes ">" in
    let inner = c.requires.inner in
    let some : 0 < length (text s ++ more) = omega (arith, c.requires.some, length-append (text s) more) in
    let last : ends_with nat_eq (main_bytes old) (codes ">") ≡ ends_with nat_eq (text (appended more s)) (codes ">") =
    ap (λ (v : List ℕ). ends_with nat_eq v (codes ">")) (main_split old list c.requires.list inner)
    ∙ last_byte (take inner.from (main_bytes old)) (text s ++ more) some
    ∙ ap (λ (v : List ℕ). ends_with nat_eq v (codes ">")) (sym (appended_text more s)) in
    let tested : end ≡ end_at (ends_with nat_eq (main_bytes old) (codes ">")) = search rules in
    let end_is : end ≡ end_at (ends_with nat_eq (text (appended more s)) (codes ">")) = tested ∙ ap end_at last in
    let after : text_after new list ≡ more ++ end = text_after-more old new list end c.requires.list inner c.in-Ok.ensures.output in
    let same = (c.in-Ok.ensures.kept.pieces list c.requires.list).shape_is in
    let is : appended (text_after new list) (shape new list) ≡ arguments_closed (appended more s) =
    ap (λ (t : Shape). appended (text_after new list) t) same ∙ ap (λ (v : List ℕ). appended v s) after
    ∙ sym (appended_twice more end s) ∙ ap (λ (v : List ℕ). appended v (appended more s)) end_is in
    subst (λ (t : Shape). Lives c.up_to_end.new.self c.up_to_end.result t) is c.up_to_end.ensures.shape

pub up_to_end-requires : goal.up_to_end-requires
up_to_end-requires c = grind arith
