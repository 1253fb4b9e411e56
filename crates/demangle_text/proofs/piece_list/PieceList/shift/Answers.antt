-- Each piece from the first one that the move reaches on is carried along, with its reach.
use Rattle.std.proofs.Common.{◌≡◌, ◌<◌, ◌≤◌, ◌++◌, ℕ, Bool, List, All, not, true, false, length, map, take, drop, get_or, sym, ap, ◌∙◌, subst, refl, arith}
use Rattle.std.proofs.lemmas.Bool.{false≢true}
use Rattle.std.proofs.lemmas.Grind.{common_steps}
use Rattle.std.proofs.lemmas.List.{get_or-take, get_or-map, length-take-le, length-map, length-set, map-set, take-append-le, take_all}
use Rattle.std.specs.List.{AllWithin}
use Rattle.std.proofs.lemmas.List.Edits.{map_over_more}
use Rattle.std.proofs.lemmas.List.Elements.{AllWithin-more_set}
use Rattle.demangle_text.specs.declared.pieces.Piece.{Piece}
use Rattle.demangle_text.specs.declared.piece_list.Entry.{Entry}
use Rattle.demangle_text.specs.Pieces.{EndsBy, IsApart, carried, pieces_of, reaches_of}
use Rattle.demangle_text.proofs.Bounds.{carried-stays, carried-moves}
use Rattle.demangle_text.proofs.Reaches.{over_at, over_start, reached-fewer, reached-set_kept, within-ends}
use Rattle.demangle_text.proofs.piece_list.PieceList.shift.Goals as goal
use Rattle.demangle_text.proofs.piece_list.PieceList.shift.Goals.{then-not-piece, then-block-piece, else-block-piece, else-not-piece}

not_true : (b : Bool) → not b ≡ true → b ≡ false
not_true false e = refl
not_true true e = absurd (let no : ⊥ = cc e in no)

-- what stands at an index of a list that is written over was kept there
at_index : (P : Piece → Type 0) (f : Piece → Piece) (count i : ℕ) (all : List Piece) (xs ks : List Entry) (k : Entry)
    → take count (pieces_of xs) ≡ all → count ≤ length (pieces_of xs) → length ks ≡ length xs
    → pieces_of ks ≡ map f (take i (pieces_of xs)) ++ drop i (pieces_of xs)
    → i < count → k ≡ get_or ks i k → All P all → P k.piece
at_index P f count i all xs ks k view capacity long value lt is h =
    let ps = pieces_of xs in
    let there : i < length ps = omega (arith, lt, capacity) in
    let here : i < length ks = omega (arith, there, long, length-map xs (λ (k : Entry). k.piece)) in
    let was = ap (λ (k : Entry). k.piece) is ∙ sym (get_or-map (λ (k : Entry). k.piece) ks i k k.piece here)
    ∙ over_at f ps (pieces_of ks) i k.piece there value ∙ sym (get_or-take count ps i k.piece lt) ∙ ap (λ v. get_or v i k.piece) view in
    let within : i < length all = omega (arith, lt, capacity, length-take-le count ps capacity, ap length view) in
    subst P (sym was) (h i k.piece within)

pub loop-i-init : goal.loop-i-init
loop-i-init c =
    let xs = c.self.inside.entries.items in
    let ps = pieces_of xs in
    let count = c.self.inside.count in
    let first = c.count_ending_by-first.result in
    let capacity : count ≤ length ps = omega (arith, c.self.invariant.within, c.self.invariant.capacity) in
    let within : first ≤ count = omega (arith, c.count_ending_by-first.ensures.within, ap length c.self.view_is, length-take-le count ps capacity) in
    let front : (low : ℕ) → AllWithin (EndsBy low) c.args.self.now 0 first → AllWithin (EndsBy low) ps 0 first =
    λ low h k d a b. subst (EndsBy low) (ap (λ v. get_or v k d) (sym c.self.view_is) ∙ get_or-take count ps k d (omega (arith, b, within))) (h k d a b) in
    record {
      value = over_start c.args.block.low c.args.block.from c.args.dest ps first (front _ c.count_ending_by-first.ensures.ends);
      reached = reached-fewer ps (reaches_of xs) count first within c.self.invariant;
      ends = front _ c.reach-reach.ensures.ends;
      long = refl;
      count = refl;
    }

pub overflow_sub-piece : goal.overflow_sub-piece
overflow_sub-piece c =
    let apart = at_index (IsApart c.args.block.low c.args.block.from c.args.block.end) _ _ _ _ _ _ _ c.self.view_is
    (omega (arith, c.self.invariant.within, c.self.invariant.capacity)) c.loop-i.invariant.long c.loop-i.invariant.value c.loop-i-test.true c.index.ensures c.requires.apart in
    (apart (not_true _ c.if-not-piece.true) c.if-block-piece.true).0

pub overflow_add-piece : goal.overflow_add-piece
overflow_add-piece c =
    let apart = at_index (IsApart c.args.block.low c.args.block.from c.args.block.end) _ _ _ _ _ _ _ c.self.view_is
    (omega (arith, c.self.invariant.within, c.self.invariant.capacity)) c.loop-i.invariant.long c.loop-i.invariant.value c.loop-i-test.true c.index.ensures c.requires.apart in
    let inside = apart (not_true _ c.if-not-piece.true) c.if-block-piece.true in
    let ordered = at_index (λ p. p.from_byte ≤ p.to_byte) _ _ _ _ _ _ _ c.self.view_is
    (omega (arith, c.self.invariant.within, c.self.invariant.capacity)) c.loop-i.invariant.long c.loop-i.invariant.value c.loop-i-test.true c.index.ensures c.requires.ordered in
    omega (arith, inside.0, inside.1, ordered, c.requires.fits)

pub overflow_sub-piece-then-block-piece : goal.overflow_sub-piece-then-block-piece
overflow_sub-piece-then-block-piece c =
    let apart = at_index (IsApart c.args.block.low c.args.block.from c.args.block.end) _ _ _ _ _ _ _ c.self.view_is
    (omega (arith, c.self.invariant.within, c.self.invariant.capacity)) c.loop-i.invariant.long c.loop-i.invariant.value c.loop-i-test.true c.index.ensures c.requires.apart in
    let inside = apart (not_true _ c.if-not-piece.true) c.if-block-piece.true in
    let ordered = at_index (λ p. p.from_byte ≤ p.to_byte) _ _ _ _ _ _ _ c.self.view_is
    (omega (arith, c.self.invariant.within, c.self.invariant.capacity)) c.loop-i.invariant.long c.loop-i.invariant.value c.loop-i-test.true c.index.ensures c.requires.ordered in
    omega (arith, inside.0, ordered)

pub overflow_add-piece-then-block-piece : goal.overflow_add-piece-then-block-piece
overflow_add-piece-then-block-piece c =
    let apart = at_index (IsApart c.args.block.low c.args.block.from c.args.block.end) _ _ _ _ _ _ _ c.self.view_is
    (omega (arith, c.self.invariant.within, c.self.invariant.capacity)) c.loop-i.invariant.long c.loop-i.invariant.value c.loop-i-test.true c.index.ensures c.requires.apart in
    let inside = apart (not_true _ c.if-not-piece.true) c.if-block-piece.true in
    omega (arith, inside.1, c.requires.fits)

-- the new reach is one for all that were kept before, and for the piece
longer : (c : goal.After-self-1) → c.loop-i.reach ≤ c.if-not-piece.reach
longer c = elim c.if-not-piece.branch [
  | else-not-piece w ↦ omega (arith, w.reach-is)
  | then-not-piece w ↦ omega (arith, w.reach-is, w.max-reach.ensures)
]

last : (c : goal.After-self-1) → EndsBy c.if-not-piece.reach c.if-not-piece.piece
last c = elim c.if-not-piece.branch [
  | else-not-piece w ↦ λ home. let no : true ≡ false = sym (ap not (ap (λ (p : Piece). p.spilled) (sym w.piece-is) ∙ home)) ∙ w.if-not-piece.false in absurd (false≢true (sym no))
  | then-not-piece w ↦ λ home. omega (arith, w.reach-is, w.max-reach.ensures, ap (λ (p : Piece). p.to_byte) w.piece-is)
]

moved : (c : goal.After-self-1) → c.if-not-piece.piece ≡ carried c.args.block.low c.args.block.from c.args.dest c.index.result.now.piece
moved c =
    let low = c.args.block.low in
    let p = c.index.result.now.piece in
    elim c.if-not-piece.branch [
      | else-not-piece w ↦ w.piece-is ∙ carried-stays low _ _ p (λ home. let no : true ≡ false = sym (ap not home) ∙ w.if-not-piece.false in absurd (false≢true (sym no)))
      | then-not-piece w ↦ w.piece-is ∙ elim w.if-block-piece.branch [
        | then-block-piece b ↦ b.piece-is ∙ carried-moves low _ _ p (not_true _ w.if-not-piece.true) b.if-block-piece.true
        | else-block-piece b ↦ b.piece-is ∙ carried-stays low _ _ p (λ home. omega (arith, b.if-block-piece.false))
      ]
    ]

pub loop-i-preserved : goal.loop-i-preserved
loop-i-preserved c =
    let xs = c.self.inside.entries.items in
    let ks = c.loop-i.self-inside.entries.items in
    let ys = pieces_of ks in
    let k = c.index.result.now in
    let i = c.loop-i.i in
    let r = c.self.invariant in
    let there : i < length (pieces_of xs) = omega (arith, c.loop-i-test.true, r.within, r.capacity) in
    let here : i < length ks = omega (arith, there, c.loop-i.invariant.long, length-map xs (λ (k : Entry). k.piece)) in
    let within : i < length ys = omega (arith, here, length-map ks (λ (k : Entry). k.piece)) in
    let capacity : i < length (reaches_of ks) = omega (arith, here, length-map ks (λ (k : Entry). k.reach)) in
    let is : k.piece ≡ get_or ys i k.piece = ap (λ (k : Entry). k.piece) c.index.ensures ∙ sym (get_or-map (λ (k : Entry). k.piece) ks i k k.piece here) in
    let q = c.if-not-piece.piece in
    let new : Entry = record { piece = q; reach = c.if-not-piece.reach } in
    let pieces = map-set (λ (k : Entry). k.piece) ks i new in
    let ends = within-ends ys c.loop-i.reach c.if-not-piece.reach i (longer c) c.loop-i.invariant.ends in
    record {
      value = pieces ∙ rw (moved c) (
          map_over_more (carried c.args.block.low c.args.block.from c.args.dest) (pieces_of xs) ys i _ there c.loop-i.invariant.value is);
      reached = rw (pieces, map-set (λ (k : Entry). k.reach) ks i new) (reached-set_kept ys (reaches_of ks) i q c.if-not-piece.reach c.loop-i.invariant.reached capacity ends (last c));
      ends = rw pieces (AllWithin-more_set ys i q within (EndsBy c.if-not-piece.reach) ends (last c));
      long = length-set ks i new ∙ c.loop-i.invariant.long;
      count = c.loop-i.invariant.count;
    }

-- at the end the index is the count
all : (c : goal.After-loop-i) → c.loop-i.i ≡ c.self.inside.count
all c =
    let count = c.self.inside.count in
    let ps = pieces_of c.self.inside.entries.items in
    let capacity : count ≤ length ps = omega (arith, c.self.invariant.within, c.self.invariant.capacity) in
    let within : c.count_ending_by-first.result ≤ count = omega (arith, c.count_ending_by-first.ensures.within, ap length c.self.view_is, length-take-le count ps capacity) in
    omega (arith, c.loop-i-test.false, c.loop-i.auto.i-end within)

pub invariant_of-self : goal.invariant_of-self
invariant_of-self c = rw (c.loop-i.invariant.count, ← all c) c.loop-i.invariant.reached

pub returns : goal.returns
returns c =
    let ps = pieces_of c.self.inside.entries.items in
    let count = c.self.inside.count in
    let f = carried c.args.block.low c.args.block.from c.args.dest in
    let capacity : count ≤ length ps = omega (arith, c.self.invariant.within, c.self.invariant.capacity) in
    let front = map f (take count ps) in
    let long : length front ≡ count = length-map (take count ps) f ∙ length-take-le count ps capacity in
    let value : pieces_of c.loop-i.self-inside.entries.items ≡ front ++ drop count ps =
    subst (λ n. pieces_of c.loop-i.self-inside.entries.items ≡ map f (take n ps) ++ drop n ps) (all c) c.loop-i.invariant.value in
    record {
      value = rw (c.loop-i.invariant.count, value) (take-append-le count front (drop count ps) (omega (arith, long)) ∙ take_all count front (omega (arith, long)) ∙ ap (map f) c.self.view_is);
    }

pub index-requires : goal.index-requires
index-requires c = grind (arith, common_steps)

pub index_mut-requires : goal.index_mut-requires
index_mut-requires c = grind (arith, common_steps)
