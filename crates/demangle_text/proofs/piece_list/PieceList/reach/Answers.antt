use Rattle.std.proofs.Common.{◌≡◌, ◌<◌, ◌≤◌, ◌-◌, length, get_or, ap, ◌∙◌, arith, sym, subst}
use Rattle.std.specs.Prelude.{slice_index}
use Rattle.std.proofs.lemmas.List.{length-take-le, length-map, get_or-take, get_or-map}
use Rattle.demangle_text.specs.declared.piece_list.Entry.{Entry}
use Rattle.demangle_text.specs.Pieces.{EndsBy, pieces_of, reaches_of}
use Rattle.demangle_text.proofs.piece_list.PieceList.reach.Goals as goal

pub returns-else-n-eq0-clause-ends : goal.returns-else-n-eq0-clause-ends
returns-else-n-eq0-clause-ends c k d a b =
    let xs = c.self.inside.entries.items in
    let n = c.args.n in
    let count = c.self.inside.count in
    let r = c.self.invariant in
    let all : n ≤ count = omega (arith, ap length c.self.view_is, length-take-le count (pieces_of xs), r.within, r.capacity, c.requires.within) in
    let there : n - 1 < length xs = omega (arith, all, r.within, length-map xs (λ (k : Entry). k.reach), c.if-n-eq0.false) in
    let is : slice_index (reaches_of xs) (n - 1) ≡ c.index.result.now.reach =
    get_or-map (λ (k : Entry). k.reach) xs (n - 1) c.index.result.now 0 there ∙ ap (λ (k : Entry). k.reach) (sym c.index.ensures) in
    let same : get_or c.args.self.now k d ≡ get_or (pieces_of xs) k d =
    ap (λ v. get_or v k d) (sym c.self.view_is) ∙ get_or-take count (pieces_of xs) k d (omega (arith, all, b)) in
    subst (EndsBy c.index.result.now.reach) (sym same)
    (subst (λ m. EndsBy m (get_or (pieces_of xs) k d)) is (r.ends (n - 1) (omega (arith, all, c.if-n-eq0.false)) k d a (omega (arith, b))))
