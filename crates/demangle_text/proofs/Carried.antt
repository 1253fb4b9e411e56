-- A block of the output is moved, and the pieces in it with it.
use Rattle.std.proofs.Common.{◌≡◌, ℕ, ◌+◌, ◌-◌, ◌<◌, ◌≤◌, Bool, true, false, List, [], ◌∷◌, ◌++◌, length, take, drop, slice_range, leb, All, map, refl, sym, ap, ◌∙◌, subst, arith, append_assoc}
use Rattle.std.proofs.lemmas.Bool.{leb-true, leb-false}
use Rattle.std.proofs.lemmas.List.{length-append, length-map, length-take-le, length-drop, take_at, drop_at, take_all}
use Rattle.std.proofs.lemmas.List.Edits.{length-between}
use Rattle.std.proofs.lemmas.List.Elements.{All-head, All-tail, All-nil, All-cons}
use Rattle.demangle_text.specs.declared.pieces.Piece.{Piece}
use Rattle.demangle_text.specs.Pieces.{Store, IsStore, IsPiece, IsApart, outline_of, shape_of, shape_in, home_bytes, IsSpilled, carried, carried_from}
use Rattle.demangle_text.specs.State.{IsLiving, shape, Lives, IsOlder, Frame, frame, frame_start, main_bytes, IsEdit, saved, scopes, parts_at, KeepsAll}
use Rattle.demangle_text.proofs.States.{KeepsAll-elsewhere}
use Rattle.demangle_text.proofs.Laws.{IsEdit-trans, IsEdit-keeps}
use Rattle.demangle_text.proofs.Texts.{Moves, part-below, part-moved, front_below}

module _ (output new spill : List ℕ) (low from to dest : ℕ) (m : Moves output new low from to dest) where
  -- the text of a range that is carried
  carried_text : (h : Bool) (e : Bool) (a b : ℕ) → leb b low ≡ e → a ≤ b → b ≤ length (home_bytes output spill h) → (h ≡ false → low < b → (from ≤ a) × (b ≤ to))
      → slice_range (home_bytes new spill h) (carried_from h e from dest a) (carried_from h e from dest b) ≡ slice_range (home_bytes output spill h) a b
  carried_text true e a b t ordered within apart = refl
  carried_text false true a b t ordered within apart = part-below output new low a b ordered (leb-true b low t) m.low_old m.low_new m.below
  carried_text false false a b t ordered within apart =
      let above : low < b = leb-false b low t in
      let k = apart refl above in
      part-moved output new low from to dest a b m ordered k.0 k.1

  -- and it lies in the text
  carried_within : (h : Bool) (e : Bool) (a b : ℕ) → leb b low ≡ e → a ≤ b → b ≤ length (home_bytes output spill h) → (h ≡ false → low < b → (from ≤ a) × (b ≤ to))
      → (carried_from h e from dest a ≤ carried_from h e from dest b) × (carried_from h e from dest b ≤ length (home_bytes new spill h))
  carried_within true e a b t ordered within apart = (ordered, within)
  carried_within false true a b t ordered within apart = (ordered, omega (arith, m.low_new, leb-true b low t))
  carried_within false false a b t ordered within apart =
      let above : low < b = leb-false b low t in
      let k = apart refl above in
      (omega arith, omega (arith, m.within_new, k.1))

  module _ (p : Piece) (h : IsPiece output spill p) (a : IsApart low from to p) where
    shape_in-carried : shape_in new spill (carried low from dest p) ≡ shape_in output spill p
    shape_in-carried = ap (λ (t : List ℕ). shape_of t (outline_of p)) (carried_text p.spilled (leb p.to_byte low) p.from_byte p.to_byte refl h.ordered h.within a)

    IsPiece-carried : IsPiece new spill (carried low from dest p)
    IsPiece-carried =
        let w = carried_within p.spilled (leb p.to_byte low) p.from_byte p.to_byte refl h.ordered h.within a in
        record {
          ordered = w.0;
          within = w.1;
          outlined = rw (carried_text p.spilled (leb p.to_byte low) p.from_byte p.to_byte refl h.ordered h.within a) h.outlined;
        }

  -- the same of a list of pieces
  All-carried : (ps : List Piece) → All (IsPiece output spill) ps → All (IsApart low from to) ps → All (IsPiece new spill) (map (carried low from dest) ps)
  All-carried [] h a = All-nil (IsPiece new spill)
  All-carried (p ∷ ps) h a =
      All-cons (IsPiece new spill) (carried low from dest p) (map (carried low from dest) ps)
      (IsPiece-carried p (All-head (IsPiece output spill) p ps h) (All-head (IsApart low from to) p ps a))
      (All-carried ps (All-tail (IsPiece output spill) p ps h) (All-tail (IsApart low from to) p ps a))

  shapes-carried : (ps : List Piece) → All (IsPiece output spill) ps → All (IsApart low from to) ps → map (shape_in new spill) (map (carried low from dest) ps) ≡ map (shape_in output spill) ps
  shapes-carried [] h a = refl
  shapes-carried (p ∷ ps) h a =
      cc (
        shape_in-carried p (All-head (IsPiece output spill) p ps h) (All-head (IsApart low from to) p ps a),
        shapes-carried ps (All-tail (IsPiece output spill) p ps h) (All-tail (IsApart low from to) p ps a),
      )

le_trans : (a b c : ℕ) → a ≤ b → b ≤ c → a ≤ c
le_trans a b c h k = omega arith

-- a call that moves a block: the kept pieces go with it, and what is older than the frame stays
module _ (s t : Store) (low from to dest : ℕ) (m : Moves s.output_text t.output_text low from to dest) (inner : s.marked_len ≤ low)
    (saved_apart : All (IsApart low from to) s.saved_pieces) (args_apart : All (IsApart low from to) s.arg_pieces)
    (by_side : t.spill_text ≡ s.spill_text) (by_saved : t.saved_pieces ≡ map (carried low from dest) s.saved_pieces) (by_args : t.arg_pieces ≡ map (carried low from dest) s.arg_pieces)
    (by_starts : t.scope_starts ≡ s.scope_starts) (by_marked_len : t.marked_len ≡ s.marked_len) where
  IsStore-moved : IsStore s → IsStore t
  IsStore-moved i =
      let n : length t.arg_pieces ≡ length s.arg_pieces = ap length by_args ∙ length-map s.arg_pieces (carried low from dest) in
      record {
        saved_lie = rw (by_side, by_saved) (All-carried s.output_text t.output_text s.spill_text low from to dest m s.saved_pieces i.saved_lie saved_apart);
        args_lie = rw (by_side, by_args) (All-carried s.output_text t.output_text s.spill_text low from to dest m s.arg_pieces i.args_lie args_apart);
        starts_fit = rw (by_starts, n) i.starts_fit;
        main_frame = omega (arith, m.low_new);
      }

  older_text : (h : Bool) (a b : ℕ) → a ≤ b → (h ≡ false → b ≤ low) → slice_range (home_bytes t.output_text t.spill_text h) a b ≡ slice_range (home_bytes s.output_text s.spill_text h) a b
  older_text false a b ordered below = part-below s.output_text t.output_text low a b ordered (below refl) m.low_old m.low_new m.below
  older_text true a b ordered below = ap (λ (v : List ℕ). slice_range v a b) by_side

  older_within : (h : Bool) (b : ℕ) → b ≤ length (home_bytes s.output_text s.spill_text h) → (h ≡ false → b ≤ low) → b ≤ length (home_bytes t.output_text t.spill_text h)
  older_within false b within below = let k = below refl in omega (arith, m.low_new)
  older_within true b within below = rw by_side within

  Lives-below : (p : Piece) → IsLiving s p → (p.spilled ≡ false → p.to_byte ≤ low) → Lives t p (shape s p)
  unfolding IsLiving shape
  Lives-below p h below =
      let same = older_text p.spilled p.from_byte p.to_byte h.ordered below in
      record {
        living = record { ordered = h.ordered; within = older_within p.spilled p.to_byte h.within below; outlined = rw same h.outlined };
        shape_is = ap (λ (v : List ℕ). shape_of v (outline_of p)) same;
      }

  IsEdit-moved : IsStore s → IsEdit s t
  unfolding IsLiving shape saved scopes main_bytes frame frame_start IsOlder Frame
  IsEdit-moved i = record {
    pieces = λ p h o. Lives-below p h (λ e. le_trans _ _ _ (o e) inner);
    frame_same = cc;
    lists = record {
      saved_same = rw (by_side, by_saved) (shapes-carried s.output_text t.output_text s.spill_text low from to dest m s.saved_pieces i.saved_lie saved_apart);
      scopes_same = rw (by_side, by_args, by_starts) (ap (parts_at s.scope_starts) (shapes-carried s.output_text t.output_text s.spill_text low from to dest m s.arg_pieces i.args_lie args_apart));
    };
    front = front_below s.output_text t.output_text s.marked_len low inner m.below;
  }

-- bytes are inserted: all after them moves on
pub Moves-inserted : (output bytes new : List ℕ) (at len : ℕ) → at ≤ length output → len ≡ length output → new ≡ take at output ++ (bytes ++ drop at output) → Moves output new at at len (at + length bytes)
Moves-inserted output bytes new at len h by_len by_new = rw (by_new, by_len) moves
  where
    moves : Moves output (take at output ++ (bytes ++ drop at output)) at at (length output) (at + length bytes)
    moves =
        let n = length-take-le at output h in
        let d = length-drop at output in
        let a = length-append (take at output) (bytes ++ drop at output) in
        let b = length-append bytes (drop at output) in
        let c = length-append (take at output) bytes in
        let split : take at output ++ (bytes ++ drop at output) ≡ (take at output ++ bytes) ++ drop at output = sym (append_assoc (take at output) bytes (drop at output)) in
        let front : length (take at output ++ bytes) ≡ at + length bytes = omega arith in
        let after : drop (at + length bytes) (take at output ++ (bytes ++ drop at output)) ≡ drop at output
        = ap (drop (at + length bytes)) split
        ∙ drop_at (take at output ++ bytes) (drop at output) (at + length bytes) front in
        record {
          low_old = h;
          low_new = omega arith;
          below = take_at (take at output) (bytes ++ drop at output) at n;
          ordered = h;
          within_old = omega arith;
          within_new = omega arith;
          block = rw after (ap (λ (k : ℕ). take k (drop at output)) (omega arith));
        }

-- a block is kept, and what stands before it from a place on, and after it, is given up
pub Moves-kept : (output new : List ℕ) (at from to : ℕ) → at ≤ length output → from ≤ to → to ≤ length output → new ≡ take at output ++ slice_range output from to → Moves output new at from to at
Moves-kept output new at from to h ordered within by_new = rw by_new moves
  where
    moves : Moves output (take at output ++ slice_range output from to) at from to at
    moves =
        let n = length-take-le at output h in
        let k = length-between output from to within in
        let a = length-append (take at output) (slice_range output from to) in
        let after : drop at (take at output ++ slice_range output from to) ≡ slice_range output from to = drop_at (take at output) (slice_range output from to) at n in
        record {
          low_old = h;
          low_new = omega arith;
          below = take_at (take at output) (slice_range output from to) at n;
          ordered = ordered;
          within_old = within;
          within_new = omega (arith, a, k);
          block = rw after (take_all (at + (to - from) - at) (slice_range output from to) (omega (arith, k)));
        }

-- texts that would be torn are set aside: m is the output as it was read
module _ (s : Store) (m spill : List ℕ) (saved args : List Piece) (same : m ≡ s.output_text) (a : IsSpilled m s.spill_text spill s.saved_pieces saved s.arg_pieces args) where
  abbrev pub spilled : Store
  spilled = record s { spill_text = spill; saved_pieces = saved; arg_pieces = args }

  pub KeepsAll-spilled : KeepsAll s spilled
  KeepsAll-spilled =
      KeepsAll-elsewhere s spilled refl a.spill
      (subst (λ (v : List ℕ). map (shape_in v spill) saved ≡ map (shape_in v s.spill_text) s.saved_pieces) same a.saved_shapes)
      (subst (λ (v : List ℕ). map (shape_in v spill) args ≡ map (shape_in v s.spill_text) s.arg_pieces) same a.args_shapes) refl refl

  IsStore-spilled : IsStore s → IsStore spilled
  IsStore-spilled i =
      let n = ap length a.spill.all ∙ length-append s.spill_text a.spill.more in
      record {
        saved_lie = subst (λ (v : List ℕ). All (IsPiece v spill) saved) same a.saved_lie;
        args_lie = subst (λ (v : List ℕ). All (IsPiece v spill) args) same a.args_lie;
        starts_fit = rw a.args_long i.starts_fit;
        main_frame = i.main_frame;
      }

  -- and then a block is moved
  module _ (low from to dest : ℕ) (output : List ℕ) (saved' args' : List Piece) (i : IsStore s)
      (saved_apart : All (IsApart low from to) saved) (args_apart : All (IsApart low from to) args)
      (by_saved : saved' ≡ map (carried low from dest) saved) (by_args : args' ≡ map (carried low from dest) args)
      (moves : Moves s.output_text output low from to dest) (inner : s.marked_len ≤ low) where
    abbrev after_move : Store
    after_move = record s { output_text = output; spill_text = spill; saved_pieces = saved'; arg_pieces = args' }

    pub IsStore-after : IsStore after_move
    IsStore-after = IsStore-moved spilled after_move low from to dest moves inner saved_apart args_apart refl by_saved by_args refl refl (IsStore-spilled i)

    pub IsEdit-after : IsEdit s after_move
    IsEdit-after =
        IsEdit-trans s spilled after_move (IsEdit-keeps s spilled KeepsAll-spilled)
        (IsEdit-moved spilled after_move low from to dest moves inner saved_apart args_apart refl by_saved by_args refl refl (IsStore-spilled i))
