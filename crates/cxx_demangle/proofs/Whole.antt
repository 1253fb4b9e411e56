-- The parser gives the one reading of a symbol.
use Rattle.std.proofs.Common.{ℕ, ◌≡◌, ◌≢◌, List, [], ◌∷◌, ◌∙◌, refl, sym, ap, subst, arith, length, map, Option, Some, None, Bool, true, false, Result, Ok, Err}
use Rattle.cxx_reader.specs.declared.reader.Reader.{Reader}
use Rattle.cxx_tree.specs.declared.arena.Stop.{Stop}
use Rattle.cxx_tree.specs.declared.arena.Stop.TheVariants.{Unreadable, Memory}
use Rattle.cxx_reader.specs.declared.symbols.Reading as code
use Rattle.cxx_reader.specs.Outcome.{GivesReading}
use Rattle.std.specs.Prelude.{min, ◌≤◌, slice_index}
use Rattle.std.proofs.lemmas.Bool.{ne_eqb}
use Rattle.cxx_grammar.specs.Cases.{case_of_prefix}
use Rattle.cxx_grammar.specs.declared.cases.PrefixCase.TheVariants as prefix
use Rattle.cxx_tree.specs.Tree.{Tree}
use Rattle.cxx_tree.specs.Stored.{Store, IsWithin, size, saved_trees, stands}
use Rattle.cxx_grammar.specs.State.{State, start}
use Rattle.cxx_grammar.specs.Symbol.{Reading, parse_symbol, found_of, symbol_as}
use Rattle.cxx_demangle.specs.declared.demangler.Entry.{Entry}
use Rattle.cxx_demangle.specs.declared.demangler.Printing.{Printing}
use Rattle.cxx_demangle.specs.Answer.{Reads, IsText, text_of, HasAnswer, HasNoAnswer, HasAtMostOneReading, HasBounds, IsAnswerOf, limit_of, entry_parser, parse_entry}
use Rattle.cxx_demangle.specs.Demangler.{answer_of}

some_same : {A : Type 0} (x y : A) → Some x ≡ Some y → x ≡ y
some_same x y e = let g = e in cc

pub one_reading : (symbol : List ℕ) → HasAtMostOneReading symbol
one_reading symbol = record { agree = λ (t u : Reading) (r : Reads symbol t) (s : Reads symbol u). some_same t u (sym r ∙ s) }

-- nothing is read
pub no_reading : (printing : Printing) (read : Option Reading) → read ≡ None → HasNoAnswer printing read
no_reading printing read e t r f = absurd cc

-- no prefix
pub no_prefix : (printing : Printing) (symbol : List ℕ) → case_of_prefix symbol ≡ prefix.None → HasNoAnswer printing (parse_symbol symbol)
unfolding symbol_as
no_prefix printing symbol e = no_reading printing (parse_symbol symbol) (rw e refl)

no_case : (symbol : List ℕ) → slice_index symbol 0 ≢ 95 → case_of_prefix symbol ≡ prefix.None
no_case [] other = refl
no_case (byte ∷ bytes) other = rw (ne_eqb byte 95 other) refl

-- no underscore in front
pub no_underscore : (printing : Printing) (symbol : List ℕ) → slice_index symbol 0 ≢ 95 → HasNoAnswer printing (parse_symbol symbol)
no_underscore printing symbol other = no_prefix printing symbol (no_case symbol other)

-- a printing that may be an answer
pub has_answer : (printing : Printing) (read : Option Reading) (t : Reading) (text : List ℕ) → read ≡ Some t → text ≡ text_of printing t → IsText text → HasAnswer printing read text
has_answer printing read t text reads is good = record { reading = t; reads = reads; is = is; text = good }

-- and one that may not
pub no_answer : (printing : Printing) (read : Option Reading) (t : Reading) (text : List ℕ) → read ≡ Some t → text ≡ text_of printing t → ¬ (IsText text) → HasNoAnswer printing read
no_answer printing read t text reads is bad u r good = bad (subst IsText (ap (text_of printing) (some_same u t (sym r ∙ reads)) ∙ sym is) good)

-- a demangler begins with nothing saved
pub started : (way : Entry) {x : Option (Reading × State)} (text : List ℕ) (saved : List Tree) → saved ≡ []
    → entry_parser way (record { rest = text; saved = saved; replaced = 0; invented = record { types = 0; values = 0; templates = 0 }; level = 0 }) ≡ x → parse_entry way text ≡ found_of x
started way text saved e f =
    ap (λ (ts : List Tree). found_of (entry_parser way (record { rest = text; saved = ts; replaced = 0; invented = record { types = 0; values = 0; templates = 0 }; level = 0 }))) (sym e) ∙ ap found_of f

-- the answer, after the test of the text
pub answered : (printing : Printing) (read : Option Reading) (r : Reading) (text : List ℕ) → read ≡ Some r → text ≡ text_of printing r
    → (is_answer : Bool) → (is_answer ≡ true → IsText text) → (is_answer ≡ false → ¬ (IsText text)) → IsAnswerOf printing read (answer_of is_answer text)
answered printing read r text reads is true good bad = has_answer printing read r text reads is (good refl)
answered printing read r text reads is false good bad = no_answer printing read r text reads is (bad refl)

-- nothing is read, as a result
pub refused : (r : Result code.Reading Stop) (after : Reader) (x : Option (Reading × State)) → GivesReading r after x → r ≡ Err Unreadable → x ≡ None
refused (Ok i) after x g e = absurd cc
refused (Err Unreadable) after x g e = g
refused (Err Memory) after x g e = absurd cc

-- less is within a limit too
within_more : (m n : ℕ) (store : Store) → m ≤ n → IsWithin m store → IsWithin n store
within_more m n store l w =
    record {
      nodes = omega (arith, l, w.nodes);
      items = omega (arith, l, w.items);
      parts = omega (arith, l, w.parts);
      texts = omega (arith, l, w.texts);
      saved = omega (arith, l, w.saved);
      pending = omega (arith, l, w.pending);
    }

-- what is kept is within the limit
pub bounds_of : (printing : Printing) (symbol : List ℕ) (store : Store) (limit : ℕ) → limit ≡ min (limit_of printing.limit (length symbol)) 4294967295 → IsWithin limit store → HasBounds printing symbol store
bounds_of printing symbol store limit e w =
    record { within = within_more limit (limit_of printing.limit (length symbol)) store (omega (arith, e)) w }

-- what was cleared keeps nothing
pub within_none : (store : Store) → size store ≡ 0 → (store.held.lists ≡ []) × (store.held.parts ≡ []) × (store.held.texts ≡ []) → (store.saved ≡ []) × (store.pending ≡ []) → IsWithin 0 store
within_none store n h l =
    record {
      nodes = omega (arith, n);
      items = omega (arith, ap length h.0);
      parts = omega (arith, ap length h.1);
      texts = omega (arith, ap length h.2);
      saved = omega (arith, ap length l.0);
      pending = omega (arith, ap length l.1);
    }

pub bounds_none : (printing : Printing) (symbol : List ℕ) (store : Store) → IsWithin 0 store → HasBounds printing symbol store
bounds_none printing symbol store w = record { within = within_more 0 (limit_of printing.limit (length symbol)) store (omega arith) w }

-- nothing is saved
pub none_saved : (store : Store) → store.saved ≡ [] → saved_trees store ≡ []
unfolding saved_trees
none_saved store e = ap (map (stands store)) e

pub ruleset answers = (bounds_of, bounds_none, within_none, none_saved)
