-- How long the printing of a symbol can be: not counted itself, it holds two counted productions at most, and few words.
use Rattle.std.proofs.Common.{◌≡◌, ◌<◌, ◌≤◌, ℕ, ◌+◌, ◌*◌, ◌^◌, Bool, true, false, List, [], ◌∷◌, ◌++◌, length, drop, refl, ap, arith, Option, Some, None, codes, decimal, if◌then◌else◌, nat_lt}
use Rattle.std.specs.List.{concat}
use Rattle.std.proofs.lemmas.Bool.Decides.{nat_tests}
use Rattle.std.proofs.lemmas.Fmt.{length-decimal-le}
use Rattle.std.proofs.lemmas.List.{length-append}
use Rattle.std.proofs.lemmas.Option.{some_pair_parts, cond_some}
use Rattle.itanium_syntax.specs.declared.context.Context.{Context}
use Rattle.abi_scalars.specs.declared.numerals.Radix.{Radix}
use Rattle.abi_scalars.specs.Bytes.{begins}
use Rattle.abi_scalars.specs.Scalars.{numeral, plus_one, before_underscore, index_of}
use Rattle.itanium_syntax.specs.Specials.{begins_t_and, special_text, special_close}
use Rattle.itanium_grammar.specs.Answer.{max_text, longest_printing, initial, start, HasAnswer, IsAnswer, HasLength}
use Rattle.abi_scalars.specs.Symbol.{suffix}
use Rattle.itanium_syntax.specs.Encodings.{encoding_case}
use Rattle.itanium_syntax.proofs.Fronts.{alone_after_name}
use Rattle.itanium_grammar.specs.Tree.{Tree, shape_of, printing, worded, temporary_of, construction_of}
use Rattle.itanium_grammar.specs.Grammar.{Position, Cost, Name, TypeOf, Thunk, SpecialAs, EncodingAs, SymbolName, special_encoding, full_encoding, name, type}
use Rattle.itanium_grammar.specs.Grammar.{thunk, type_special, name_special, temporary_special, construction_special}
use Rattle.itanium_grammar.specs.Grammar.{thunk_special, name_encoding}
use Rattle.itanium_grammar.specs.Cases.{AfterName, SpecialCase, EncodingCase}
use Rattle.itanium_grammar.proofs.Agreement.{one_reading}

-- what special names print
worded_prints : (word : List ℕ) (t : Tree) (close : List ℕ) → printing (worded word t close) ≡ concat (word ∷ printing t ∷ close ∷ [])
unfolding shape_of
worded_prints word t close = refl

temporary_prints : (number : ℕ) (t : Tree) → printing (temporary_of number t) ≡ concat (codes "reference temporary #" ∷ decimal number ∷ codes " for " ∷ printing t ∷ [])
unfolding shape_of
temporary_prints number t = refl

construction_prints : (t u : Tree) → printing (construction_of t u) ≡ concat (codes "construction vtable for " ∷ printing t ∷ codes "-in-" ∷ printing u ∷ [])
unfolding shape_of
construction_prints t u = refl

-- what a counted production prints isn't longer than its reading is wide
type_narrow : {x : Context} {p q : Position} {t : Tree} {c : Cost} → TypeOf x p t q c → length (printing t) ≤ c.width
type_narrow (type a) = omega arith

name_narrow : {x : Context} {p q : Position} {t : Tree} {c : Cost} → Name false x p t q c → length (printing t) ≤ c.width
name_narrow (name a) = omega arith

thunk_narrow : {x : Context} {p q : Position} {t : Tree} {c : Cost} → Thunk x p t q c → length (printing t) ≤ c.width
thunk_narrow (thunk found a) = omega arith

-- the words around it
three_len : (a b c : List ℕ) → length (concat (a ∷ b ∷ c ∷ [])) ≡ length a + length b + length c
three_len a b c = omega (arith, length-append a (b ++ (c ++ [])), length-append b (c ++ []), length-append c [])

four_len : (a b c d : List ℕ) → length (concat (a ∷ b ∷ c ∷ d ∷ [])) ≡ length a + length b + length c + length d
four_len a b c d = omega (arith, length-append a (b ++ (c ++ (d ++ []))), three_len b c d)

words_len : (bytes : List ℕ) → length (special_text bytes) ≤ 25
words_len bytes =
    go (begins (codes "TV") bytes) (begins (codes "TT") bytes) (begins (codes "TI") bytes) (begins (codes "TS") bytes)
    (begins (codes "TF") bytes) (begins (codes "TH") bytes) (begins (codes "TW") bytes)
  where
    go : (a b c d e f g : Bool)
        → length (if a then codes "{vtable(" else
        if b then codes "{vtt(" else
        if c then codes "typeinfo for " else
        if d then codes "typeinfo name for " else
        if e then codes "typeinfo fn for " else
        if f then codes "TLS init function for " else
        if g then codes "TLS wrapper function for " else codes "guard variable for ") ≤ 25
    go true b c d e f g = omega arith
    go false true c d e f g = omega arith
    go false false true d e f g = omega arith
    go false false false true e f g = omega arith
    go false false false false true f g = omega arith
    go false false false false false true g = omega arith
    go false false false false false false true = omega arith
    go false false false false false false false = omega arith

close_len : (bytes : List ℕ) → length (special_close bytes) ≤ 2
close_len bytes = go (begins_t_and (codes "VT") bytes)
  where
    go : (a : Bool) → length (if a then codes ")}" else []) ≤ 2
    go true = omega arith
    go false = omega arith

-- a number that is read fits 64 bits
following_small : (o : Option (ℕ × List ℕ)) (found : ℕ × List ℕ) → plus_one o ≡ Some found → found.0 < 2 ^ 64
following_small None found is = cc
following_small (Some n) found is =
    let parts = cond_some (nat_lt (n.0 + 1) (2 ^ 64)) _ found is in
    let next : n.0 + 1 ≡ found.0 = ap (λ (f : ℕ × List ℕ). f.0) parts.1 in
    grind (arith, nat_tests, parts.0, next)

ended_small : (o : Option (ℕ × List ℕ)) (found : ℕ × List ℕ) → ((n : ℕ × List ℕ) → o ≡ Some n → n.0 < 2 ^ 64) → before_underscore o ≡ Some found → found.0 < 2 ^ 64
ended_small None found small is = cc
ended_small (Some n) found small is =
    let parts = cond_some (begins (codes "_") n.1) _ found is in
    let same : n.0 ≡ found.0 = ap (λ (f : ℕ × List ℕ). f.0) parts.1 in
    omega (arith, small n refl, same)

index_small : (r : Radix) (bytes : List ℕ) (found : ℕ × List ℕ) → index_of r bytes ≡ Some found → found.0 < 2 ^ 64
unfolding index_of
index_small r bytes found is = go (begins (codes "_") bytes) is
  where
    go : (t : Bool) → (if t then Some (0, drop 1 bytes) else before_underscore (plus_one (numeral r bytes))) ≡ Some found → found.0 < 2 ^ 64
    go true e = let zero_is : 0 ≡ found.0 = (some_pair_parts 0 found.0 (drop 1 bytes) found.1 e).0 in omega (arith, zero_is)
    go false e = ended_small (plus_one (numeral r bytes)) found (following_small (numeral r bytes)) e

enough : 18 ≤ max_text
unfolding max_text
enough = omega arith

worded_len : (bytes : List ℕ) (t : Tree) → length (printing t) ≤ max_text → length (concat (special_text bytes ∷ printing t ∷ special_close bytes ∷ [])) ≤ 2 * max_text + 28
worded_len bytes t narrow = omega (arith, three_len (special_text bytes) (printing t) (special_close bytes), words_len bytes, close_len bytes)

special_wide : {case : SpecialCase} {x : Context} {p q : Position} {t : Tree} {c : Cost} → SpecialAs case x p t q c → c.width ≤ max_text → length (printing t) ≤ 2 * max_text + 28
special_wide (type_special {p = p} {t = t} a) narrow =
    rw (worded_prints (special_text p.rest) t (special_close p.rest)) (worded_len p.rest t (omega (arith, type_narrow a)))
special_wide (name_special {p = p} {t = t} a) narrow =
    rw (worded_prints (special_text p.rest) t (special_close p.rest)) (worded_len p.rest t (omega (arith, name_narrow a)))
special_wide (temporary_special {q = q} {t = t} {number = k} {rest = r} a found) narrow =
    let small = index_small _ q.rest (k, r) found in
    let digits = length-decimal-le 20 k (omega arith) (omega arith) small in
    rw (temporary_prints k t)
    (omega (arith, four_len (codes "reference temporary #") (decimal k) (codes " for ") (printing t), digits, name_narrow a, enough))
special_wide (construction_special {t = t} {u = u} a found b) narrow =
    rw (construction_prints u t)
    (omega (arith, four_len (codes "construction vtable for ") (printing u) (codes "-in-") (printing t), type_narrow a, type_narrow b))
special_wide (thunk_special a) narrow = omega (arith, thunk_narrow a)

symbol_as_wide : {case : EncodingCase} {x : Context} {p q : Position} {t : Tree} {c : Cost} → encoding_case AfterName p.rest ≡ case → EncodingAs case x p t q c → c.width ≤ max_text → length (printing t) ≤ 2 * max_text + 28
symbol_as_wide is (special_encoding a) narrow = special_wide a narrow
symbol_as_wide is (name_encoding a) narrow = omega (arith, name_narrow a)
symbol_as_wide {p = p} is (full_encoding a b d) narrow = absurd (alone_after_name p.rest is)

-- a symbol's printing
inside_wide : (inside : List ℕ) (t : Tree) (q : Position) (c : Cost) → SymbolName initial (start inside) t q c → c.width ≤ max_text → length (printing t) ≤ longest_printing
unfolding max_text
inside_wide inside t q c a narrow = omega (arith, symbol_as_wide refl a narrow)

-- an answer is no longer than the longest printing and its suffix
pub answer_wide : (bytes answer : List ℕ) (has : HasAnswer bytes answer) → length answer ≤ longest_printing + length (suffix has.next.rest)
answer_wide bytes answer has =
    let wide = inside_wide has.reading.inside has.tree has.next has.cost has.reading.reading has.within.width_fits in
    omega (arith, ap length has.answer_is, length-append (printing has.tree) (suffix has.next.rest), wide)

-- so long is an answer at most
pub answer_length : (bytes : List ℕ) (answer : Option (List ℕ)) → IsAnswer bytes answer → HasLength bytes answer
answer_length bytes None none = tt
answer_length bytes (Some answer) has = λ tree next cost reading within.
    let same = (one_reading bytes).agree has.tree tree has.next next has.cost cost has.reading reading has.within within in
    let left : suffix has.next.rest ≡ suffix next.rest = ap (λ (q : Position). suffix q.rest) same.1 in
    omega (arith, answer_wide bytes answer has, ap length left)
