-- A piece that ends the output, and two texts that were put after it, the second of which is its base name.
use Rattle.std.proofs.Common.{◌≡◌, ◌-◌, ◌++◌, ℕ, List, None, false, length, refl, ap, arith}
use Rattle.demangle_text.specs.declared.pieces.Piece.{Piece}
use Rattle.demangle_text.specs.Pieces.{Store, IsStore, IsTail, IsSplice}
use Rattle.demangle_text.specs.Calls.{IsLast, named}
use Rattle.demangle_text.specs.State.{IsLiving, shape, Lives, IsEdit, Stands, frame, frame_start, main_bytes}
use Rattle.demangle_text.proofs.States.{Extends-same}
use Rattle.demangle_text.proofs.AtEnd.{HasAtEnd-stays, IsEdit-extended, IsSplice-extended}
use Rattle.demangle_text.proofs.Tails.{Lives-named}

-- what ends the output lies in it
pub tail-of : (b : Store) (p : Piece) → IsLast b p → IsTail b p
unfolding Stands frame frame_start main_bytes
tail-of b p l = record { in_main = l.stands.in_main; inner = omega (arith, l.inner, l.stands.begins); ends = l.stands.ends }

module _ (s : Store) (output : List ℕ) (p : Piece) (between name : List ℕ) (i : IsStore s) (living : IsLiving s p) (last : IsLast s p)
    (is : output ≡ s.output_text ++ (between ++ name)) where
  abbrev new : Store
  new = record s { output_text = output }

  pub edit-named : IsEdit s new
  edit-named = IsEdit-extended s s.output_text (between ++ name) output i (Extends-same s.output_text) is

  -- the texts stand after the piece
  splice : IsSplice s new p (p.to_byte - p.from_byte) (between ++ name) p.from_byte
  unfolding IsLiving
  splice = IsSplice-extended s new p s.output_text (between ++ name) p.from_byte living
      (HasAtEnd-stays s.output_text s.spill_text s.marked_len p living.ordered (tail-of s p last)) is

  module _ (end : ℕ) (end_is : end ≡ length output) where
    -- the piece of all of it, whose base name is the name
    abbrev pub renamed : Piece
    renamed = record p {
      to_byte = end;
      own_start = end - p.from_byte - length name;
      own_end = end - p.from_byte;
      kind = None;
      grouped = false;
      templ = false;
      ctor = false;
    }

    -- has the shape with both texts
    pub Lives-renamed : Lives new renamed (named between name (shape s p))
    Lives-renamed =
        Lives-named s new p (p.to_byte - p.from_byte) (between ++ name) p.from_byte living splice renamed
        (record { in_main = (tail-of s p last).in_main; begins = refl; ends = end_is }) between name refl refl
        refl (ap (λ (i : ℕ). (i - p.from_byte - length name, i - p.from_byte)) end_is) refl refl
