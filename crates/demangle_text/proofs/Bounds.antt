-- Pieces that end by a byte stay when what lies after it moves.
use Rattle.std.proofs.Common.{◌≡◌, ℕ, ◌+◌, ◌-◌, ◌<◌, Bool, true, false, List, [], ◌∷◌, All, map, leb, refl}
use Rattle.std.proofs.lemmas.Bool.{le-leb, lt-leb}
use Rattle.std.proofs.lemmas.List.Elements.{All-head, All-tail}
use Rattle.demangle_text.specs.declared.pieces.Piece.{Piece}
use Rattle.demangle_text.specs.Pieces.{EndsBy, carried, carried_from}

stays : (h e : Bool) (from dest at : ℕ) → (h ≡ false → e ≡ true) → at ≡ carried_from h e from dest at
stays true e from dest at k = refl
stays false true from dest at k = refl
stays false false from dest at k = absurd (let h : ⊥ = cc (k refl) in h)

pub carried-stays : (low from dest : ℕ) (p : Piece) → EndsBy low p → p ≡ carried low from dest p
carried-stays low from dest p h =
    let k = (λ (home : p.spilled ≡ false). le-leb p.to_byte low (h home)) in
    let a = stays p.spilled (leb p.to_byte low) from dest p.from_byte k in
    let b = stays p.spilled (leb p.to_byte low) from dest p.to_byte k in
    λ j. record p { from_byte = a j; to_byte = b j }

goes : (h e : Bool) (from dest at : ℕ) → h ≡ false → e ≡ false → dest + (at - from) ≡ carried_from h e from dest at
goes true e from dest at home k = absurd (let h : ⊥ = cc home in h)
goes false true from dest at home k = absurd (let h : ⊥ = cc k in h)
goes false false from dest at home k = refl

pub carried-moves : (low from dest : ℕ) (p : Piece) → p.spilled ≡ false → low < p.to_byte
    → record p { from_byte = dest + (p.from_byte - from); to_byte = dest + (p.to_byte - from) } ≡ carried low from dest p
carried-moves low from dest p home above =
    let k = lt-leb p.to_byte low above in
    let a = goes p.spilled (leb p.to_byte low) from dest p.from_byte home k in
    let b = goes p.spilled (leb p.to_byte low) from dest p.to_byte home k in
    λ j. record p { from_byte = a j; to_byte = b j }

pub carried-below : (low from dest : ℕ) (ps : List Piece) → All (EndsBy low) ps → ps ≡ map (carried low from dest) ps
carried-below low from dest [] h = refl
carried-below low from dest (p ∷ ps) h =
    cc (carried-stays low from dest p (All-head (EndsBy low) p ps h), carried-below low from dest ps (All-tail (EndsBy low) p ps h))
