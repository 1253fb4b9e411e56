-- Laws of readings and of answers.
use Rattle.std.proofs.Common.{◌≡◌, ℕ, List, [], ◌∷◌, ◌++◌, Bool, true, false, Option, Some, None, refl, subst, ap, ap₂, arith, ◌∙◌, sym, codes}
use Rattle.std.specs.Prelude.{◌==◌, ◌&&◌}
use Rattle.std.proofs.lemmas.Grind.{common_steps}
use Rattle.std.specs.Str.{IsUtf8}
use Rattle.abi_scalars.specs.Bytes.{begins}
use Rattle.itanium_syntax.proofs.Fronts.{Takes}
use Rattle.itanium_grammar.specs.Tree.{Tree, printing}
use Rattle.itanium_grammar.specs.Grammar.{Position, Cost, SymbolName}
use Rattle.itanium_grammar.specs.Answer.{start, initial, IsWithin, IsReading, HasAnswer, IsAnswer, HasAtMostOneReading}
use Rattle.abi_scalars.specs.Symbol.{after_prefix, suffix}
use Rattle.itanium_grammar.specs.Laws.{LawsOfReadings, LawsOfAnswers}
use Rattle.itanium_grammar.proofs.Unambiguous.{one_encoding_as}
use Rattle.itanium_grammar.proofs.Progress.{encoding_as_takes}

pub one_reading : (symbol : List ℕ) → HasAtMostOneReading symbol
one_reading symbol = record {
  agree = λ t u q r c d a b within other.
      let here : b.inside ≡ a.inside = cc in
      let same = one_encoding_as a.reading (subst (λ v. SymbolName initial (start v) u r d) here b.reading) in
      (same.tree, same.next, same.cost);
}

-- a symbol with an answer has no other
same_answer : (symbol a b : List ℕ) → HasAnswer symbol a → HasAnswer symbol b → a ≡ b
same_answer symbol a b f g =
    let same = (one_reading symbol).agree f.tree g.tree f.next g.next f.cost g.cost f.reading g.reading f.within g.within in
    f.answer_is ∙ ap₂ (λ t q. printing t ++ suffix q.rest) same.0 same.1 ∙ sym g.answer_is

one_answer : (symbol : List ℕ) (a b : Option (List ℕ)) → IsAnswer symbol a → IsAnswer symbol b → a ≡ b
one_answer symbol None None f g = refl
one_answer symbol None (Some b) f g = absurd (f g.tree g.next g.cost g.reading g.within g.utf8)
one_answer symbol (Some a) None f g = absurd (g f.tree f.next f.cost f.reading f.within f.utf8)
one_answer symbol (Some a) (Some b) f g = ap Some (same_answer symbol a b f g)

-- both prefixes have the same after them
same_inside : (symbol : List ℕ) → begins (codes "_Z") symbol ≡ true → after_prefix (codes "_" ++ symbol) ≡ after_prefix symbol
same_inside [] e = cc
same_inside (a ∷ []) e = go (a == 95) e
  where
    go : (t : Bool) → (t && false) ≡ true → after_prefix (codes "_" ++ (a ∷ [])) ≡ after_prefix (a ∷ [])
    go true f = cc
    go false f = cc
same_inside (a ∷ b ∷ rest) e =
    let p : a ≡ 95 = grind (arith, common_steps) in
    let q : b ≡ 90 = grind (arith, common_steps) in
    rw (p, q) refl

moved_reading : (old new : List ℕ) (t : Tree) (q : Position) (c : Cost) → after_prefix new ≡ after_prefix old → IsReading old t q c → IsReading new t q c
moved_reading old new t q c e r = record { inside = r.inside; prefix = e ∙ r.prefix; reading = r.reading }

moved_answer : (old new : List ℕ) (a : Option (List ℕ)) → after_prefix new ≡ after_prefix old → IsAnswer old a → IsAnswer new a
moved_answer old new None e f = λ t q c r. f t q c (moved_reading new old t q c (sym e) r)
moved_answer old new (Some a) e f = record {
  tree = f.tree;
  next = f.next;
  cost = f.cost;
  reading = moved_reading old new f.tree f.next f.cost e f.reading;
  within = f.within;
  utf8 = f.utf8;
  answer_is = f.answer_is;
}

dot_kept : (symbol rest : List ℕ) (tree : Tree) (next : Position) (cost : Cost) → IsReading symbol tree next cost → IsWithin cost
    → IsUtf8 (printing tree) → next.rest ≡ codes "." ++ rest → IsAnswer symbol (Some (printing tree ++ (codes "." ++ rest)))
dot_kept symbol rest tree next cost reading within utf8 dot = record {
  tree = tree;
  next = next;
  cost = cost;
  reading = reading;
  within = within;
  utf8 = utf8;
  answer_is = rw dot refl;
}

pub laws_of_answers : LawsOfAnswers
laws_of_answers = record {
  one_answer = one_answer;
  underscore = λ symbol a starts f. moved_answer symbol (codes "_" ++ symbol) a (same_inside symbol starts) f;
  dot = dot_kept;
}

pub inside_takes : (inside : List ℕ) (t : Tree) (q : Position) (c : Cost) → SymbolName initial (start inside) t q c → Takes q.rest inside
inside_takes inside t q c a = encoding_as_takes a

pub laws_of_readings : LawsOfReadings
laws_of_readings = record {
  one_reading = one_reading;
  takes = λ x p q t c reading. (encoding_as_takes reading).shorter;
}
