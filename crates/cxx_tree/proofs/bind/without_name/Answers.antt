use Rattle.std.proofs.Common.{◌≡◌, ◌∙◌, Bool, false, refl, sym, ap, arith}
use Rattle.std.specs.Prelude.{nat_le, if◌then◌else◌}
use Rattle.std.proofs.lemmas.Grind.{common_steps}
use Rattle.cxx_tree.specs.declared.bind.Others.{Others}
use Rattle.cxx_tree.specs.Tree.{Tree, param}
use Rattle.cxx_tree.specs.Measure.{measure}
use Rattle.cxx_tree.specs.Bind.{other, auto_param}
use Rattle.cxx_tree.proofs.Grown.{Makes-node, Grows-same}
use Rattle.cxx_tree.proofs.bind.without_name.Goals as goal

pub returns-in-Keep-clause-makes : goal.returns-in-Keep-clause-makes
unfolding measure
returns-in-Keep-clause-makes c =
    let a = c.args.arena.now in
    let same = ap (λ (r : Others). other r c.args.binding.now.level c.args.level c.args.index) (sym c.in-Keep.is) in
    Makes-node a a _ c.args.i c.requires.within (c.requires.param ∙ same) (Grows-same a a refl) (ap (λ (t : Tree). (measure t).fits) (sym same))

pub returns-then-level-binding-clause-makes : goal.returns-then-level-binding-clause-makes
unfolding measure
returns-then-level-binding-clause-makes c =
    let a = c.args.arena.now in
    let no : nat_le c.args.binding.now.level c.args.level ≡ false =
    grind (arith, common_steps, c.if-level-binding.true) in
    let kept = ap (λ (q : Bool). if q then auto_param c.args.index else param c.args.level c.args.index) (sym no) in
    let same = ap (λ (r : Others). other r c.args.binding.now.level c.args.level c.args.index) (sym c.in-Auto.is) in
    Makes-node a a _ c.args.i c.requires.within (c.requires.param ∙ kept ∙ same) (Grows-same a a refl) (ap (λ (t : Tree). (measure t).fits) (sym (kept ∙ same)))
