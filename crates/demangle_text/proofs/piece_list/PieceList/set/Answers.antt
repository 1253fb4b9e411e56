use Rattle.std.proofs.Common.{◌<◌, ◌≤◌, length, ap, ◌∙◌, arith, get_or, sym, subst}
use Rattle.std.proofs.Math.Seq.{take-set-lt, map-set_same}
use Rattle.std.proofs.lemmas.List.{length-take-le, get_or-take, map-set}
use Rattle.demangle_text.specs.declared.pieces.Piece.{Piece}
use Rattle.demangle_text.specs.declared.piece_list.Entry.{Entry}
use Rattle.demangle_text.specs.Pieces.{EndsBy, pieces_of, reaches_of}
use Rattle.demangle_text.proofs.Reaches.{reached-set}
use Rattle.demangle_text.proofs.piece_list.PieceList.set.Goals as goal

pub invariant_of-self : goal.invariant_of-self
invariant_of-self c =
    let ks = c.self.inside.entries.items in
    let xs = pieces_of ks in
    let n = c.self.inside.count in
    let old = c.index_mut.result.now in
    let new : Entry = record { piece = c.args.piece; reach = old.reach } in
    let long : n ≤ length xs = omega (arith, c.self.invariant.within, c.self.invariant.capacity) in
    let there : c.args.i < n = omega (arith, ap length c.self.view_is, length-take-le n xs long, c.requires.within) in
    let same = λ (d : Piece). ap (λ v. get_or v c.args.i d) (sym c.self.view_is) ∙ get_or-take n xs c.args.i d there in
    rw (map-set (λ (k : Entry). k.piece) ks c.args.i new, map-set_same (λ (k : Entry). k.reach) ks c.args.i new old (ap (λ (k : Entry). k.reach) c.index_mut.ensures.value)) (
    reached-set xs (reaches_of ks) n c.args.i c.args.piece c.self.invariant (omega (arith, there, long))
    (λ end h. c.requires.ends end (λ d. subst (EndsBy end) (sym (same d)) (h d))))

pub returns : goal.returns
returns c =
    let ks = c.self.inside.entries.items in
    let xs = pieces_of ks in
    let n = c.self.inside.count in
    let new : Entry = record { piece = c.args.piece; reach = c.index_mut.result.now.reach } in
    let long : n ≤ length xs = omega (arith, c.self.invariant.within, c.self.invariant.capacity) in
    let there : c.args.i < n = omega (arith, ap length c.self.view_is, length-take-le n xs long, c.requires.within) in
    record { value = rw (map-set (λ (k : Entry). k.piece) ks c.args.i new) (rw (← c.self.view_is) (take-set-lt n xs c.args.i c.args.piece there)) }
