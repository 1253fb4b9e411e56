-- Laws of a run of calls. No line here looks into a buffer: they follow from the words of `State`, and from that a piece
-- stands at one place.
use Rattle.std.proofs.Common.{◌≡◌, ◌≤◌, ℕ, List, ◌++◌, length, take, sym, ap, refl, ◌∙◌, subst, arith, Result, Ok, Err, IfOk, OnOk}
use Rattle.std.proofs.lemmas.List.{take-take, take_at, take_all}
use Rattle.demangle_text.specs.declared.pieces.Piece.{Piece}
use Rattle.demangle_text.specs.declared.pieces.Mark.{Mark}
use Rattle.demangle_text.specs.Shape.{Shape, text}
use Rattle.demangle_text.specs.Pieces.{Store}
use Rattle.demangle_text.specs.State.{Frame, frame, frame_start, inside, main_bytes, IsLiving, IsOlder, IsAsOld, shape}
use Rattle.demangle_text.specs.State.{Lives, SameLists, SameFrame, KeepsFront, KeepsAll, IsEdit, Opens, Closes, IsRun}
use Rattle.demangle_text.specs.State.{IsSince}
use Rattle.demangle_text.specs.Calls.{IsLast, IsInner, text_after}
use Rattle.demangle_text.specs.State.{Stands, StandsAs, StandsBefore, EndsMain, IsEditOf, IsJoinOf, StaysInPlace, JoinsInPlace, AppendsPiece}
use Rattle.demangle_text.proofs.States.{Stands-begins, Stands-ordered, Stands-tail}
pub use Rattle.demangle_text.proofs.States.{main_split, text_after-more, text_after-same, text_after-last}

-- a piece as old as one that is older than a frame is older than the frame too
pub IsAsOld-older : (p q : Piece) (f : Frame) → IsAsOld p q → IsOlder p f → IsOlder q f
unfolding IsAsOld
IsAsOld-older p q f as_old older = as_old f older

-- a piece that keeps its shape twice
pub Lives-trans : (mid new : Store) (p : Piece) (s : Shape) → Lives mid p s → (IsLiving mid p → Lives new p (shape mid p)) → Lives new p s
Lives-trans mid new p s h keep =
    let k = keep h.living in
    record { living = k.living; shape_is = k.shape_is ∙ h.shape_is }

-- a shape that lives on
pub Lives-keeps : (old new : Store) (p : Piece) (s : Shape) → KeepsAll old new → Lives old p s → Lives new p s
Lives-keeps old new p s u h = Lives-trans old new p s h (u.pieces p)

pub SameLists-trans : (old mid new : Store) → SameLists old mid → SameLists mid new → SameLists old new
SameLists-trans old mid new a b = record { saved_same = b.saved_same ∙ a.saved_same; scopes_same = b.scopes_same ∙ a.scopes_same }

-- nothing changed, so it is an edit
pub IsEdit-keeps : (old new : Store) → KeepsAll old new → IsEdit old new
IsEdit-keeps old new u = record { pieces = λ p h _. u.pieces p h; frame_same = u.frame_same; lists = u.lists; front = u.front }

-- the output before a mark that stays the innermost one, over two calls
KeepsFront-trans : (old mid new : Store) → frame mid ≡ frame old → KeepsFront old mid → KeepsFront mid new → KeepsFront old new
KeepsFront-trans old mid new same a b =
    subst (λ (f : Frame). take (frame_start f) (main_bytes new) ≡ take (frame_start f) (main_bytes mid)) same b ∙ a

pub KeepsAll-trans : (old mid new : Store) → KeepsAll old mid → KeepsAll mid new → KeepsAll old new
KeepsAll-trans old mid new a b = record {
  pieces = λ p h. Lives-trans mid new p (shape old p) (a.pieces p h) (b.pieces p);
  frame_same = b.frame_same ∙ a.frame_same;
  lists = SameLists-trans old mid new a.lists b.lists;
  front = KeepsFront-trans old mid new a.frame_same a.front b.front;
}

-- one edit after another
pub IsEdit-trans : (old mid new : Store) → IsEdit old mid → IsEdit mid new → IsEdit old new
IsEdit-trans old mid new a b = record {
  pieces = λ p h o. Lives-trans mid new p (shape old p) (a.pieces p h o) (λ l. b.pieces p l (subst (IsOlder p) (sym a.frame_same) o));
  frame_same = b.frame_same ∙ a.frame_same;
  lists = SameLists-trans old mid new a.lists b.lists;
  front = KeepsFront-trans old mid new a.frame_same a.front b.front;
}

-- an edit inside a mark
pub Opens-edit : (old mid new : Store) (m : Mark) → Opens old mid m → IsEdit mid new → Opens old new m
Opens-edit old mid new m o e = record {
  pieces = λ p h. Lives-trans mid new p (shape old p) (o.pieces p h) (λ l. e.pieces p l (subst (IsOlder p) (sym o.inside_is) (o.older p h)));
  older = o.older;
  inside_is = e.frame_same ∙ o.inside_is;
  outside_is = o.outside_is;
  lists = SameLists-trans old mid new o.lists e.lists;
  nested = o.nested;
  front =
      subst (λ (f : Frame). take (frame_start f) (main_bytes new) ≡ take (frame_start f) (main_bytes mid)) o.inside_is e.front
      ∙ o.front;
}

pub Opens-keeps : (old mid new : Store) (m : Mark) → Opens old mid m → KeepsAll mid new → Opens old new m
Opens-keeps old mid new m o u = Opens-edit old mid new m o (IsEdit-keeps mid new u)

-- what is opened and closed again: all that lived at the start lives on
pub KeepsAll-closed : (old mid new : Store) (m : Mark) → Opens old mid m → Closes mid new m → KeepsAll old new
KeepsAll-closed old mid new m o c = record {
  pieces = λ p h. Lives-trans mid new p (shape old p) (o.pieces p h) (λ l. c.pieces p l (o.older p h));
  frame_same = c.outside_is ∙ o.outside_is;
  lists = SameLists-trans old mid new o.lists c.lists;
  front =
      let low = frame_start (frame old) in
      sym (take-take low (frame_start (inside m)) (main_bytes new) o.nested) ∙ ap (take low) (c.front ∙ o.front);
}

-- runs, which may change the lists
pub IsRun-edit : (old new : Store) → IsEdit old new → IsRun old new
IsRun-edit old new e = record { pieces = e.pieces; frame_same = e.frame_same; front = e.front }

pub IsRun-same : (old new : Store) → SameFrame old new → IsRun old new
IsRun-same old new k = record { pieces = λ p h _. k.pieces p h; frame_same = k.frame_same; front = k.front }

pub SameFrame-keeps : (old new : Store) → KeepsAll old new → SameFrame old new
SameFrame-keeps old new u = record { pieces = u.pieces; frame_same = u.frame_same; front = u.front }

pub SameFrame-trans : (old mid new : Store) → SameFrame old mid → SameFrame mid new → SameFrame old new
SameFrame-trans old mid new a b = record {
  pieces = λ p h. Lives-trans mid new p (shape old p) (a.pieces p h) (b.pieces p);
  frame_same = b.frame_same ∙ a.frame_same;
  front = KeepsFront-trans old mid new a.frame_same a.front b.front;
}

pub IsRun-trans : (old mid new : Store) → IsRun old mid → IsRun mid new → IsRun old new
IsRun-trans old mid new a b = record {
  pieces = λ p h o. Lives-trans mid new p (shape old p) (a.pieces p h o) (λ l. b.pieces p l (subst (IsOlder p) (sym a.frame_same) o));
  frame_same = b.frame_same ∙ a.frame_same;
  front = KeepsFront-trans old mid new a.frame_same a.front b.front;
}

pub IsSince-opens : (old new : Store) (m : Mark) → Opens old new m → IsSince old new m
IsSince-opens old new m o = record {
  pieces = o.pieces;
  older = o.older;
  inside_is = o.inside_is;
  outside_is = o.outside_is;
  nested = o.nested;
  front = o.front;
}

pub IsSince-run : (old mid new : Store) (m : Mark) → IsSince old mid m → IsRun mid new → IsSince old new m
IsSince-run old mid new m o e = record {
  pieces = λ p h. Lives-trans mid new p (shape old p) (o.pieces p h) (λ l. e.pieces p l (subst (IsOlder p) (sym o.inside_is) (o.older p h)));
  older = o.older;
  inside_is = e.frame_same ∙ o.inside_is;
  outside_is = o.outside_is;
  nested = o.nested;
  front =
      subst (λ (f : Frame). take (frame_start f) (main_bytes new) ≡ take (frame_start f) (main_bytes mid)) o.inside_is e.front
      ∙ o.front;
}

-- what is opened and closed again, with a run between: all that lived at the start lives on
pub SameFrame-closed : (old mid new : Store) (m : Mark) → IsSince old mid m → Closes mid new m → SameFrame old new
SameFrame-closed old mid new m o c = record {
  pieces = λ p h. Lives-trans mid new p (shape old p) (o.pieces p h) (λ l. c.pieces p l (o.older p h));
  frame_same = c.outside_is ∙ o.outside_is;
  front =
      let low = frame_start (frame old) in
      sym (take-take low (frame_start (inside m)) (main_bytes new) o.nested) ∙ ap (take low) (c.front ∙ o.front);
}

-- all that was there, and then the text of what was closed
pub output-closed : (old mid new : Store) (m : Mark) (p : Piece) (s : Shape) → IsSince old mid m → Lives new p s
    → main_bytes new ≡ take (frame_start (inside m)) (main_bytes mid) ++ text s → main_bytes new ≡ main_bytes old ++ text (shape new p)
output-closed old mid new m p s o h output =
    output ∙ ap (λ (v : List ℕ). v ++ text s) o.front ∙ ap (λ (t : Shape). main_bytes old ++ text t) (sym h.shape_is)

pub Lives-same : (old new : Store) (p : Piece) (s : Shape) → SameFrame old new → Lives old p s → Lives new p s
Lives-same old new p s u h = Lives-trans old new p s h (u.pieces p)

-- what ends the output, edited afterwards
EndsMain-edit : (old mid new : Store) (p q : Piece) → IsEdit old mid → EndsMain old mid p → StaysInPlace mid new p q → EndsMain old new q
EndsMain-edit old mid new p q e a s =
    let k = s.stays a.from (subst (λ (f : Frame). frame_start f ≤ a.from) (sym e.frame_same) a.inner) a.stands in
    record { from = a.from; inner = a.inner; front = k.1 ∙ a.front; stands = k.0 }

-- and what is answered with no edit for it
EndsMain-named : (old new : Store) (p q : Piece) → EndsMain old new p → StandsAs p q → EndsMain old new q
EndsMain-named old new p q a as_piece =
    record { from = a.from; inner = a.inner; front = a.front; stands = as_piece a.from (length (main_bytes new)) a.stands }

-- an edit of a buffer leaves a piece where it stands
pub StaysInPlace-edit : (old new : Store) (p q : Piece) (n : ℕ) → IsEditOf old new p q n → StaysInPlace old new p q
StaysInPlace-edit old new p q n e = record {
  ends = e.ends;
  stays = λ at inner there.
      let stands = (e.in_place at inner there).0 in
      let len = length (main_bytes new) in
      let same = Stands-begins q e.ends.from len at len e.ends.stands stands in
      (stands, subst (λ (k : ℕ). take k (main_bytes new) ≡ take k (main_bytes old)) same e.ends.front);
}

-- one edit after another
pub StaysInPlace-trans : (old mid new : Store) (p q r : Piece) → IsEdit old mid → StaysInPlace old mid p q → StaysInPlace mid new q r → StaysInPlace old new p r
StaysInPlace-trans old mid new p q r e a b = record {
  ends = EndsMain-edit old mid new q r e a.ends b;
  stays = λ at inner there.
      let one = a.stays at inner there in
      let two = b.stays at (subst (λ (f : Frame). frame_start f ≤ at) (sym e.frame_same) inner) one.0 in
      (two.0, two.1 ∙ one.1);
}

-- an edit of what is answered for a piece with no edit
pub StaysInPlace-of : (old new : Store) (p q r : Piece) → StandsAs p q → StaysInPlace old new q r → StaysInPlace old new p r
StaysInPlace-of old new p q r as_piece a = record {
  ends = a.ends;
  stays = λ at inner there. a.stays at inner (as_piece at (length (main_bytes old)) there);
}

-- and what is answered with no edit for a piece after one
pub StaysInPlace-named : (old new : Store) (p q r : Piece) → StaysInPlace old new p q → StandsAs q r → StaysInPlace old new p r
StaysInPlace-named old new p q r a as_piece = record {
  ends = EndsMain-named old new q r a.ends as_piece;
  stays = λ at inner there.
      let one = a.stays at inner there in
      (as_piece at (length (main_bytes new)) one.0, one.1);
}

-- a join of a buffer
pub JoinsInPlace-join : (old new : Store) (p q r : Piece) (n : ℕ) → IsJoinOf old new p q r n → JoinsInPlace old new p q r
JoinsInPlace-join old new p q r n j = record {
  ends = j.ends;
  stays = λ from middle inner first second.
      let stands = (j.in_place from middle inner first second).0 in
      let len = length (main_bytes new) in
      let same = Stands-begins r j.ends.from len from len j.ends.stands stands in
      (stands, subst (λ (k : ℕ). take k (main_bytes new) ≡ take k (main_bytes old)) same j.ends.front);
  after = λ from inner first.
      let stands = (j.after from inner first).0 in
      let len = length (main_bytes new) in
      let same = Stands-begins r j.ends.from len from len j.ends.stands stands in
      (stands, subst (λ (k : ℕ). take k (main_bytes new) ≡ take k (main_bytes old)) same j.ends.front);
}

-- and what is answered with no edit after it
pub JoinsInPlace-named : (old new : Store) (p q r s : Piece) → JoinsInPlace old new p q r → StandsAs r s → JoinsInPlace old new p q s
JoinsInPlace-named old new p q r s a as_piece = record {
  ends = EndsMain-named old new r s a.ends as_piece;
  stays = λ from middle inner first second.
      let one = a.stays from middle inner first second in
      (as_piece from (length (main_bytes new)) one.0, one.1);
  after = λ from inner first.
      let one = a.after from inner first in
      (as_piece from (length (main_bytes new)) one.0, one.1);
}

-- and an edit after it
pub JoinsInPlace-trans : (old mid new : Store) (p q r s : Piece) → IsEdit old mid → JoinsInPlace old mid p q r → StaysInPlace mid new r s → JoinsInPlace old new p q s
JoinsInPlace-trans old mid new p q r s e a b = record {
  ends = EndsMain-edit old mid new r s e a.ends b;
  stays = λ from middle inner first second.
      let one = a.stays from middle inner first second in
      let two = b.stays from (subst (λ (f : Frame). frame_start f ≤ from) (sym e.frame_same) inner) one.0 in
      (two.0, two.1 ∙ one.1);
  after = λ from inner first.
      let one = a.after from inner first in
      let two = b.stays from (subst (λ (f : Frame). frame_start f ≤ from) (sym e.frame_same) inner) one.0 in
      (two.0, two.1 ∙ one.1);
}

-- a text that is pushed
pub AppendsPiece-push : (old new : Store) (p : Piece) (bytes : List ℕ) → frame_start (frame old) ≤ length (main_bytes old)
    → main_bytes new ≡ main_bytes old ++ bytes → Stands p (length (main_bytes old)) (length (main_bytes new)) → AppendsPiece old new p
AppendsPiece-push old new p bytes inner output stands = record {
  front = ap (take (length (main_bytes old))) output ∙ take_at (main_bytes old) bytes (length (main_bytes old)) refl;
  inner = inner;
  stands = stands;
}

-- and edited afterwards
pub AppendsPiece-edit : (old mid new : Store) (p q : Piece) → IsEdit old mid → AppendsPiece old mid p → StaysInPlace mid new p q → AppendsPiece old new q
AppendsPiece-edit old mid new p q e a s =
    let len = length (main_bytes old) in
    let k = s.stays len (subst (λ (f : Frame). frame_start f ≤ len) (sym e.frame_same) a.inner) a.stands in
    record { front = k.1 ∙ a.front; inner = a.inner; stands = k.0 }

-- and what is answered with no edit for it
pub AppendsPiece-named : (old new : Store) (p q : Piece) → AppendsPiece old new p → StandsAs p q → AppendsPiece old new q
AppendsPiece-named old new p q a as_piece =
    record { front = a.front; inner = a.inner; stands = as_piece (length (main_bytes old)) (length (main_bytes new)) a.stands }

-- a text inside a mark at the end of the output, which is closed again
pub AppendsPiece-closed : (old mid new : Store) (m : Mark) (p : Piece) → frame_start (inside m) ≡ length (main_bytes old) → Opens old mid m → Closes mid new m
    → Stands p (frame_start (inside m)) (length (main_bytes new)) → AppendsPiece old new p
AppendsPiece-closed old mid new m p starts o c stands = record {
  front = subst (λ (k : ℕ). take k (main_bytes new) ≡ main_bytes old) starts (c.front ∙ o.front);
  inner = subst (λ (k : ℕ). frame_start (frame old) ≤ k) starts o.nested;
  stands = subst (λ (k : ℕ). Stands p k (length (main_bytes new))) starts stands;
}

-- the same of the call that closes it
pub AppendsPiece-close : {E : Type 0} (old mid new : Store) (m : Mark) (r : Result Piece E) → frame_start (inside m) ≡ length (main_bytes old) → Opens old mid m
    → OnOk r (Closes mid new m) → IfOk r (λ p. Stands p (frame_start (inside m)) (length (main_bytes new))) → IfOk r (λ p. AppendsPiece old new p)
AppendsPiece-close old mid new m (Ok p) starts o c stands = AppendsPiece-closed old mid new m p starts o c stands
AppendsPiece-close old mid new m (Err e) starts o c stands = tt

-- a piece and what was put after the output, joined
module _ (old mid new : Store) (p q r : Piece) (n : ℕ) (lies : IsLiving old p) (same : frame mid ≡ frame old) (a : AppendsPiece old mid q) (j : IsJoinOf mid new p q r n) where
  -- a piece that stood at the end stays there
  joined_stays : (at : ℕ) → frame_start (frame old) ≤ at → Stands p at (length (main_bytes old))
      → Stands r at (length (main_bytes new)) × (take at (main_bytes new) ≡ take at (main_bytes old))
  joined_stays at inner there =
      let len = length (main_bytes old) in
      let one = (JoinsInPlace-join mid new p q r n j).stays at len (subst (λ (f : Frame). frame_start f ≤ at) (sym same) inner) there a.stands in
      let ordered = Stands-ordered old p at len lies there in
      (one.0, one.1 ∙ sym (take-take at len (main_bytes mid) ordered) ∙ ap (take at) a.front)

  -- any other is put in front of what was put there
  joined_ends : StandsBefore old p (length (main_bytes old)) → EndsMain old new r
  joined_ends before =
      let len = length (main_bytes old) in
      let inner = subst (λ (f : Frame). frame_start f ≤ len) (sym same) a.inner in
      let before_mid : StandsBefore mid p len = λ from to stands. ((before from to stands).0, λ inside. (before from to stands).1 (subst (λ (f : Frame). frame_start f ≤ from) same inside)) in
      let stands = (j.in_front len inner a.stands before_mid).0 in
      let from_is = Stands-begins r j.ends.from (length (main_bytes new)) len (length (main_bytes new)) j.ends.stands stands in
      record {
        from = len;
        inner = a.inner;
        front = subst (λ (k : ℕ). take k (main_bytes new) ≡ take k (main_bytes mid)) from_is j.ends.front ∙ a.front ∙ sym (take_all len (main_bytes old) (omega arith));
        stands = stands;
      }

  pub StaysInPlace-joined : StaysInPlace old new p r
  StaysInPlace-joined = record {
    ends = Stands-tail old p (EndsMain old new r) lies
        (λ at inner there. let k = joined_stays at inner there in record { from = at; inner = inner; front = k.1; stands = k.0 }) joined_ends;
    stays = joined_stays;
  }

-- what was edited stands last
pub IsLast-stays : (old new : Store) (p q : Piece) → IsEdit old new → StaysInPlace old new p q → IsLast new q
IsLast-stays old new p q e s = record {
  from = s.ends.from;
  inner = subst (λ (f : Frame). frame_start f ≤ s.ends.from) (sym e.frame_same) s.ends.inner;
  stands = s.ends.stands;
}

-- and what was joined
pub IsLast-joined : (old new : Store) (p q r : Piece) → IsEdit old new → JoinsInPlace old new p q r → IsLast new r
IsLast-joined old new p q r e s = record {
  from = s.ends.from;
  inner = subst (λ (f : Frame). frame_start f ≤ s.ends.from) (sym e.frame_same) s.ends.inner;
  stands = s.ends.stands;
}

-- so does what was pushed
pub IsLast-push : (old new : Store) (p : Piece) → KeepsAll old new → frame_start (frame old) ≤ length (main_bytes old)
    → Stands p (length (main_bytes old)) (length (main_bytes new)) → IsLast new p
IsLast-push old new p u inner stands = record {
  from = length (main_bytes old);
  inner = subst (λ (f : Frame). frame_start f ≤ length (main_bytes old)) (sym u.frame_same) inner;
  stands = stands;
}

-- and what is answered for a piece that stands last
pub IsLast-named : (b : Store) (p q : Piece) → IsLast b p → StandsAs p q → IsLast b q
IsLast-named b p q l as_piece = record { from = l.from; inner = l.inner; stands = as_piece l.from (length (main_bytes b)) l.stands }

-- it stands last as long as the output stays
pub IsLast-same : (old new : Store) (p : Piece) → IsLast old p → SameFrame old new → main_bytes new ≡ main_bytes old → IsLast new p
IsLast-same old new p l k output = record {
  from = l.from;
  inner = subst (λ (f : Frame). frame_start f ≤ l.from) (sym k.frame_same) l.inner;
  stands = subst (λ (t : List ℕ). Stands p l.from (length t)) (sym output) l.stands;
}

-- and it is inside the innermost mark
pub IsInner-last : (b : Store) (p : Piece) → IsLast b p → IsInner b p
IsInner-last b p l = record { from = l.from; to = length (main_bytes b); inner = l.inner; stands = l.stands }

-- what is inside it stays there
pub IsInner-same : (old new : Store) (p : Piece) → IsInner old p → SameFrame old new → IsInner new p
IsInner-same old new p i k = record {
  from = i.from;
  to = i.to;
  inner = subst (λ (f : Frame). frame_start f ≤ i.from) (sym k.frame_same) i.inner;
  stands = i.stands;
}

-- after what stood last there is what was put there
pub text_after-follows : (old new : Store) (p : Piece) (bytes : List ℕ) → IsLiving old p → IsLast old p → main_bytes new ≡ main_bytes old ++ bytes → text_after new p ≡ bytes
text_after-follows old new p bytes lies l output =
    text_after-more old new p bytes lies (IsInner-last old p l) output ∙ ap (λ (v : List ℕ). v ++ bytes) (text_after-last old p l)

-- the laws for the readers
pub ruleset runs = (IsRun-edit, IsRun-same, SameFrame-keeps, SameFrame-trans, IsRun-trans, IsSince-opens, IsSince-run, SameFrame-closed, output-closed, Lives-same)

-- the laws for what is put after what stands last
pub ruleset lasts = (IsLast-stays, IsLast-joined, IsLast-push, IsLast-named, IsLast-same, IsInner-last, IsInner-same)

-- the laws for the callers of a buffer
pub ruleset laws = (Lives-keeps, IsEdit-keeps, KeepsAll-trans, IsEdit-trans, Opens-edit, Opens-keeps, KeepsAll-closed)

-- the law for callers that hold a piece made of an older one
pub ruleset ages = (IsAsOld-older)
