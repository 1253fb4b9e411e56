-- The loops over the items of lists and over components.
use Rattle.std.proofs.Common.{Err, ℕ, ◌≡◌, ◌+◌, ◌-◌, ◌<◌, List, [], ◌∷◌, length, refl, ◌∙◌, arith, zero, suc, Option, Some, None, true, false, Bool}
use Rattle.std.specs.Prelude.{if◌then◌else◌}
use Rattle.cxx_tree.specs.declared.arena.Stop.{Stop}
use Rattle.cxx_tree.specs.declared.arena.Stop.TheVariants.{Unreadable, Memory}
use Rattle.cxx_tree.specs.Tree.{Tree}
use Rattle.cxx_grammar.specs.declared.rows.Item.{Item}
use Rattle.cxx_grammar.specs.State.{State}
use Rattle.cxx_grammar.specs.Productions.{Productions}
use Rattle.cxx_grammar.specs.Rows.{item_as, parse_items}
use Rattle.cxx_reader.specs.declared.reader.Reader.{Reader}
use Rattle.cxx_grammar.specs.Modules.{parse_subname, next_subname}
use Rattle.cxx_reader.specs.Outcome.{Gives, GivesOption}
use Rattle.cxx_grammar.specs.Parses.{Parses, ◌>>=◌, pure, repeat, repeat_at_most}

-- what steps give, after some of them
pub record SoFar {A : Type 0} (whole : Option (A × State)) (is_end : List ℕ → Bool) (step : A → Parses A) (a : A) (s : State) : Type 0 where
  pub turns : ℕ
  pub enough : length s.rest < turns
  pub is : whole ≡ repeat_at_most turns is_end step a s

repeat_opens : {A : Type 0} (is_end : List ℕ → Bool) (step : A → Parses A) (n : ℕ) (a : A) (s : State) → 0 < n
    → repeat_at_most n is_end step a s ≡ (if is_end s.rest then pure a else (step a >>= repeat_at_most (n - 1) is_end step)) s
unfolding repeat_at_most
repeat_opens is_end step zero a s h = absurd (omega arith)
repeat_opens is_end step (suc n) a s h = let less : suc n - 1 ≡ n = omega arith in rw less refl

pub steps_start : {A : Type 0} (is_end : List ℕ → Bool) (step : A → Parses A) (a : A) (s : State) → SoFar (repeat is_end step a s) is_end step a s
steps_start is_end step a s = record { turns = length s.rest + 1; enough = omega arith; is = refl }

pub steps_end : {A : Type 0} {whole : Option (A × State)} {is_end : List ℕ → Bool} {step : A → Parses A} {a : A} {s : State}
    → SoFar whole is_end step a s → is_end s.rest ≡ true → whole ≡ Some (a, s)
steps_end {is_end = is_end} {step = step} {a = a} {s = s} l e = l.is ∙ repeat_opens is_end step l.turns a s (omega (arith, l.enough)) ∙ rw e refl

pub steps_fail : {A : Type 0} {whole : Option (A × State)} {is_end : List ℕ → Bool} {step : A → Parses A} {a : A} {s : State}
    → SoFar whole is_end step a s → is_end s.rest ≡ false → step a s ≡ None → whole ≡ None
steps_fail {is_end = is_end} {step = step} {a = a} {s = s} l e f = l.is ∙ repeat_opens is_end step l.turns a s (omega (arith, l.enough)) ∙ rw (e, f) refl

pub steps_more : {A : Type 0} {whole : Option (A × State)} {is_end : List ℕ → Bool} {step : A → Parses A} {a b : A} {s after : State}
    → SoFar whole is_end step a s → is_end s.rest ≡ false → step a s ≡ Some (b, after) → length after.rest < length s.rest → SoFar whole is_end step b after
steps_more {is_end = is_end} {step = step} {a = a} {s = s} l e f shorter =
    record {
      turns = l.turns - 1;
      enough = omega (arith, l.enough);
      is = l.is ∙ repeat_opens is_end step l.turns a s (omega (arith, l.enough)) ∙ rw (e, f) refl;
    }

-- a step that gives a tree fails
pub tree_stop : (e : Stop) (after : Reader) {whole : Option (Tree × State)} {is_end : List ℕ → Bool} {step : Tree → Parses Tree} {t : Tree} {s : State}
    → SoFar whole is_end step t s → is_end s.rest ≡ false → Gives (Err e) after (step t s) → Gives (Err e) after whole
tree_stop Unreadable after l e f = steps_fail l e f
tree_stop Memory after l e f = tt

-- a subname of a module isn't read
pub subname_stop : (e : Stop) (after : Reader) {whole : Option (Option Tree × State)} {is_end : List ℕ → Bool} {outer : Option Tree} {s : State}
    → SoFar whole is_end next_subname outer s → is_end s.rest ≡ false → Gives (Err e) after (parse_subname outer s) → GivesOption (Err e) after whole
subname_stop Unreadable after l e f = steps_fail l e (rw f refl)
subname_stop Memory after l e f = tt

-- what the items of a row give, after some of them
pub record ItemsSoFar (whole : Option (List Tree × State)) (p : Productions) (trees : List Tree) (items : List Item) (s : State) : Type 0 where
  pub is : whole ≡ parse_items p trees items s

pub row_start : (p : Productions) (trees : List Tree) (items : List Item) (s : State) → ItemsSoFar (parse_items p trees items s) p trees items s
row_start p trees items s = record { is = refl }

pub row_end : {whole : Option (List Tree × State)} {p : Productions} {trees : List Tree} {s : State} → ItemsSoFar whole p trees [] s → whole ≡ Some (trees, s)
unfolding parse_items
row_end r = r.is

pub row_more : {whole : Option (List Tree × State)} {p : Productions} {trees more : List Tree} {item : Item} {items : List Item} {s after : State}
    → ItemsSoFar whole p trees (item ∷ items) s → item_as p trees item s ≡ Some (more, after) → ItemsSoFar whole p more items after
unfolding parse_items
row_more r e = record { is = r.is ∙ rw e refl }

pub row_fail : {whole : Option (List Tree × State)} {p : Productions} {trees : List Tree} {item : Item} {items : List Item} {s : State}
    → ItemsSoFar whole p trees (item ∷ items) s → item_as p trees item s ≡ None → whole ≡ None
unfolding parse_items
row_fail r e = r.is ∙ rw e refl
