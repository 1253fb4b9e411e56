-- The piece goes after the first ones, once there is capacity for it.
use Rattle.std.proofs.lemmas.Grind.{common_steps}
use Rattle.std.proofs.Common.{◌≡◌, ◌<◌, ◌≤◌, ◌++◌, ◌∷◌, [], ℕ, List, length, take, get_or, refl, sym, ap, ◌∙◌, subst, arith}
use Rattle.std.proofs.lemmas.List.{get_or-take, length-map, length-take-le, map-set, take_all, take_more_set}
use Rattle.demangle_text.specs.declared.pieces.Piece.{Piece}
use Rattle.demangle_text.specs.declared.piece_list.Entry.{Entry}
use Rattle.demangle_text.specs.Pieces.{EndsBy, pieces_of, reaches_of}
use Rattle.demangle_text.proofs.Reaches.{reached-front, reached-set_kept}
use Rattle.demangle_text.proofs.piece_list.PieceList.push.Goals as goal
use Rattle.demangle_text.proofs.piece_list.PieceList.push.Goals.{then-at-len+in-Ok, else-at-len}

-- what has capacity is the list with what it had
record HasFront (xs ys : List Entry) (n : ℕ) : Type 0 where
  pieces : take n (pieces_of ys) ≡ take n (pieces_of xs)
  reaches : take n (reaches_of ys) ≡ take n (reaches_of xs)
  capacity : n < length ys

front : (c : goal.After-self-2-1) → HasFront c.self.inside.entries.items c.if-at-len.self-inside.entries.items c.self.inside.count
front c =
    let xs = c.self.inside.entries.items in
    let n = c.self.inside.count in
    let p = length-map xs (λ (k : Entry). k.piece) in
    let r = length-map xs (λ (k : Entry). k.reach) in
    elim c.if-at-len.branch [
      | then-at-len+in-Ok w ↦
          let all : n ≡ length xs = omega (arith, c.len.ensures, w.if-at-len.true) in
          let e = w.in-Ok.ensures in
          rw w.self-inside-is (record {
            pieces = ap (λ (k : ℕ). take k (pieces_of w.grow.new.entries.items)) all ∙ e.pieces ∙ sym (take_all n (pieces_of xs) (omega (arith, all, p)));
            reaches = ap (λ (k : ℕ). take k (reaches_of w.grow.new.entries.items)) all ∙ e.reaches ∙ sym (take_all n (reaches_of xs) (omega (arith, all, r)));
            capacity = omega (arith, all, e.capacity);
          })
      | else-at-len w ↦
          let i = c.self.invariant in
          rw w.self-inside-is (record { pieces = refl; reaches = refl; capacity = omega (arith, c.len.ensures, w.if-at-len.false, i.within, i.capacity, p) })
    ]

pub invariant_of-self-2 : goal.invariant_of-self-2
invariant_of-self-2 c =
    let xs = c.self.inside.entries.items in
    let ys = c.if-at-len.self-inside.entries.items in
    let n = c.self.inside.count in
    let f = front c in
    let k : Entry = record { piece = c.args.piece.now; reach = c.args.end } in
    let p = length-map ys (λ (k : Entry). k.piece) in
    let r = length-map ys (λ (k : Entry). k.reach) in
    let reached = reached-front (pieces_of xs) (pieces_of ys) (reaches_of xs) (reaches_of ys) n f.pieces f.reaches (omega (arith, f.capacity, r)) (omega (arith, p, r)) c.self.invariant in
    let ends = λ (j : ℕ) (d : Piece) (a : 0 ≤ j) (b : j < n).
    let lt : j < length c.args.self.now =
    omega (arith, b, ap length c.self.view_is, length-take-le n (pieces_of xs) (omega (arith, c.self.invariant.within, c.self.invariant.capacity))) in
    let same : get_or c.args.self.now j d ≡ get_or (pieces_of ys) j d = ap (λ v. get_or v j d) (sym c.self.view_is ∙ sym f.pieces) ∙ get_or-take n (pieces_of ys) j d b in
    subst (EndsBy c.args.end) same (c.requires.ends j d lt) in
    rw (map-set (λ (k : Entry). k.piece) ys n k, map-set (λ (k : Entry). k.reach) ys n k) (
    reached-set_kept (pieces_of ys) (reaches_of ys) n c.args.piece.now c.args.end reached (omega (arith, f.capacity, r)) ends c.requires.last)

pub returns-clause-ok : goal.returns-clause-ok
returns-clause-ok c =
    let ys = c.if-at-len.self-inside.entries.items in
    let n = c.self.inside.count in
    let f = front c in
    let k : Entry = record { piece = c.args.piece.now; reach = c.args.end } in
    rw (map-set (λ (k : Entry). k.piece) ys n k) (
    take_more_set (pieces_of ys) n c.args.piece.now (omega (arith, f.capacity, length-map ys (λ (k : Entry). k.piece)))
    ∙ ap (λ (v : List Piece). v ++ c.args.piece.now ∷ []) (f.pieces ∙ c.self.view_is))

pub index_mut-requires : goal.index_mut-requires
index_mut-requires c = grind (arith, common_steps)

pub overflow_add-self : goal.overflow_add-self
overflow_add-self c = grind (arith, common_steps)

pub returns-in-Err : goal.returns-in-Err
returns-in-Err c = grind (arith, common_steps)
