-- A text that is put together gains a part at its end.
use Rattle.std.proofs.Common.{◌≡◌, ℕ, ◌+◌, ◌<◌, List, [], ◌∷◌, ◌++◌, length, take, get_or, map, sym, ap, ◌∙◌, refl, append_assoc, subst, All}
use Rattle.std.specs.List.{concat}
use Rattle.std.proofs.lemmas.List.{map_more, append-nil}
use Rattle.std.proofs.lemmas.List.Elements.{All-get_or}
use Rattle.demangle_text.specs.declared.pieces.Piece.{Piece}
use Rattle.demangle_text.specs.declared.pieces.Mark.{Mark}
use Rattle.demangle_text.specs.declared.buffer.Buffer.{Buffer}
use Rattle.demangle_text.specs.Shape.{Shape, text, plain_shape, whole_shape, appended}
use Rattle.demangle_text.specs.State.{shape, Lives, Opens}
use Rattle.demangle_edit.specs.declared.glue_parts.Glue.{Glue}
use Rattle.demangle_edit.specs.declared.glue_parts.Glue.TheVariants.{Text, Piece as Part}
use Rattle.demangle_edit.specs.Lists.{glued}
use Rattle.demangle_edit.specs.Calls.{part_text, IsLivingPart}

-- a text more of those that follow one another
concat_more : (ts : List (List ℕ)) (t : List ℕ) → concat (ts ++ t ∷ []) ≡ concat ts ++ t
concat_more [] t = append-nil t
concat_more (s ∷ ts) t = ap (λ (v : List ℕ). s ++ v) (concat_more ts t) ∙ sym (append_assoc s (concat ts) t)

-- a living part has the text that it had when the mark was opened
part_same : (old mid : Buffer) (m : Mark) → Opens old mid m → (part : Glue) → IsLivingPart old part → part_text (shape mid) part ≡ part_text (shape old) part
part_same old mid m run (Text bytes) living = refl
part_same old mid m run (Part piece) living = ap text (run.pieces piece living).shape_is

-- bytes after a plain text, all of which is the base name then
pub text_put : (mid new : Buffer) (all longer next : Piece) (t bytes : List ℕ) → shape mid all ≡ plain_shape t → Lives new longer (appended bytes (shape mid all))
    → Lives new next (whole_shape (shape new longer)) → Lives new next (plain_shape (text (shape mid all) ++ bytes))
text_put mid new all longer next t bytes flat long whole = record {
  living = whole.living;
  shape_is = whole.shape_is ∙ ap whole_shape long.shape_is ∙ ap (λ (s : Shape). whole_shape (appended bytes s)) flat
      ∙ sym (ap (λ (s : Shape). plain_shape (text s ++ bytes)) flat);
}

-- one more part is put after the text
pub part_more : (old mid new : Buffer) (m : Mark) (parts : List Glue) (i : ℕ) (d : Glue) (all next : Piece)
    → Opens old mid m → All (IsLivingPart old) parts → i < length parts
    → Lives mid all (glued (map (part_text (shape old)) (take i parts)))
    → Lives new next (plain_shape (text (shape mid all) ++ part_text (shape mid) (get_or parts i d)))
    → Lives new next (glued (map (part_text (shape old)) (take (i + 1) parts)))
part_more old mid new m parts i d all next run living there so_far joins =
    let part = get_or parts i d in
    let printed = part_text (shape old) in
    let ts = map printed (take i parts) in
    let this : part_text (shape mid) part ≡ printed part = part_same old mid m run part (All-get_or (IsLivingPart old) parts i d there living) in
    let before : text (shape mid all) ≡ concat ts = ap text so_far.shape_is in
    let whole : concat (map printed (take (i + 1) parts)) ≡ concat ts ++ printed part =
    ap concat (map_more printed parts i d there) ∙ concat_more ts (printed part) in
    let same : text (shape mid all) ++ part_text (shape mid) part ≡ concat (map printed (take (i + 1) parts)) =
    ap (λ (v : List ℕ). v ++ part_text (shape mid) part) before ∙ ap (λ (v : List ℕ). concat ts ++ v) this ∙ sym whole in
    subst (λ (v : List ℕ). Lives new next (plain_shape v)) same joins
