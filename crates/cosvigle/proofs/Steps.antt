-- Steps through the letters and names of options.
use Rattle.std.proofs.Common.{◌≡◌, ◌≢◌, ℕ, suc, ◌+◌, ◌*◌, ◌-◌, min, ◌<◌, ◌≤◌, List, [], ◌∷◌, Bool, true, false, ◌==◌, Some, None, codes, if◌then◌else◌, length, take, drop, get_or, refl, ap, ◌∙◌, arith}
use Rattle.std.proofs.Common.{ne_eqb, eq-eqb}
use Rattle.std.proofs.lemmas.List.{length-drop, drop_all}
use Rattle.std.proofs.Math.Seq.{drop-cons}
use Rattle.std.specs.List.{starts_with}
use Rattle.abi_scalars.specs.Bytes.{is, is_digit, begins}
use Rattle.cosvigle.specs.declared.options.Flags.{Flags}
use Rattle.cosvigle.specs.declared.options.EarlyExit.TheVariants as instead
use Rattle.cosvigle.specs.declared.options.Valued.{Valued}
use Rattle.cosvigle.specs.declared.options.OptionState.{OptionState}
use Rattle.cosvigle.specs.declared.options.OptionState.TheVariants.{Ready, NeedsValue, Exit}
use Rattle.cosvigle.specs.declared.option_names.Found.{Found}
use Rattle.cosvigle.specs.declared.option_names.Found.TheVariants.{Exact}
use Rattle.cosvigle.specs.declared.option_names.LongOption.TheVariants as long
use Rattle.cosvigle.specs.Options.{match_name, with_match, after_letter, after_value, letters, with_value, after_named, name_len, find_option, find_long_option, after_found, after_name, number_from, past_slashes}

either_way : (a b : ℕ) → (a == b) ≡ (b == a)
either_way a b = grind arith

-- whether a name begins with the bytes, as std says it and as the definitions do
pub name_begins : (bytes name : List ℕ) → starts_with ◌==◌ name bytes ≡ begins bytes name
name_begins [] name = refl
name_begins (c ∷ bytes) [] = refl
name_begins (c ∷ bytes) (b ∷ name) = rw (either_way c b, name_begins bytes name) refl

-- what a name adds to the options found: nothing, its option alone, or its option beside others
pub begins_not : (found : Found) (bytes name : List ℕ) (letter : ℕ) → begins bytes name ≡ false → found ≡ match_name found bytes name letter
begins_not found bytes name letter other = rw other refl

pub begins_whole : (found : Found) (bytes name : List ℕ) (letter : ℕ) → begins bytes name ≡ true → length name ≡ length bytes → Exact letter ≡ match_name found bytes name letter
begins_whole found bytes name letter begun whole = rw (begun, eq-eqb _ _ whole) refl

pub begins_more : (found : Found) (bytes name : List ℕ) (letter : ℕ) → begins bytes name ≡ true → length name ≢ length bytes → with_match found letter ≡ match_name found bytes name letter
begins_more found bytes name letter begun more = rw (begun, ne_eqb _ _ more) refl

-- the option without a letter whose name begins with the bytes
pub long_first : (bytes : List ℕ) → begins bytes (codes "max-memory") ≡ true → Some long.MaxMemory ≡ find_long_option bytes
long_first bytes is = rw is refl

pub long_second : (bytes : List ℕ) → begins bytes (codes "max-memory") ≡ false → begins bytes (codes "no-return") ≡ true → Some long.NoReturn ≡ find_long_option bytes
long_second bytes first is = rw (first, is) refl

pub long_third : (bytes : List ℕ) → begins bytes (codes "max-memory") ≡ false → begins bytes (codes "no-return") ≡ false → begins bytes (codes "style") ≡ true
    → Some long.Style ≡ find_long_option bytes
long_third bytes first second is = rw (first, second, is) refl

pub long_none : (bytes : List ℕ) → begins bytes (codes "max-memory") ≡ false → begins bytes (codes "no-return") ≡ false → begins bytes (codes "style") ≡ false
    → None ≡ find_long_option bytes
long_none bytes first second third = rw (first, second, third) refl

-- the value after a letter
letters_some : (next : Flags) (option : Valued) (bytes : List ℕ) → 0 < length bytes → letters (NeedsValue next option) bytes ≡ after_value next option bytes
letters_some next option [] some = absurd (omega (arith, some))
letters_some next option (b ∷ bytes) some = refl

pub letters_value : (flags next : Flags) (option : Valued) (argument : List ℕ) (at : ℕ) → at + 1 < length argument → after_letter flags (get_or argument at 0) ≡ NeedsValue next option
    → letters (Ready flags) (drop at argument) ≡ after_value next option (drop (at + 1) argument)
letters_value flags next option argument at inside is =
    let more : 0 < length (drop (suc at) argument) = omega (arith, inside, length-drop (suc at) argument) in
    let place : suc at ≡ at + 1 = omega arith in
    ap (letters (Ready flags)) (drop-cons argument at 0 (omega (arith, inside)))
    ∙ ap (λ s. letters s (drop (suc at) argument)) is
    ∙ letters_some next option (drop (suc at) argument) more
    ∙ ap (λ n. after_value next option (drop n argument)) place

-- the value after a name
pub named_value : (state : OptionState) (next : Flags) (option : Valued) (len : ℕ) (bytes : List ℕ) → len ≢ length bytes → state ≡ NeedsValue next option
    → after_named state len bytes ≡ after_value next option (drop (len + 1) bytes)
named_value state next option len bytes more is =
    ap (λ t. if t then state else with_value state (drop (len + 1) bytes)) (ne_eqb len (length bytes) more)
    ∙ ap (λ s. with_value s (drop (len + 1) bytes)) is

no_value : (state : OptionState) (value : List ℕ) → ((next : Flags) (option : Valued) → state ≡ NeedsValue next option → ⊥) → with_value state value ≡ Exit instead.UnexpectedValue
no_value (Ready flags) value none = refl
no_value (NeedsValue flags option) value none = absurd (none flags option refl)
no_value (Exit by) value none = refl

pub named_none : (state : OptionState) (len : ℕ) (bytes : List ℕ) → len ≢ length bytes → ((next : Flags) (option : Valued) → state ≡ NeedsValue next option → ⊥)
    → after_named state len bytes ≡ Exit instead.UnexpectedValue
named_none state len bytes more none =
    ap (λ t. if t then state else with_value state (drop (len + 1) bytes)) (ne_eqb len (length bytes) more)
    ∙ no_value state (drop (len + 1) bytes) none

-- the option found, and the length of its name
pub after_name-found : (flags : Flags) (bytes : List ℕ) (len : ℕ) (found : Found) → len ≡ name_len bytes → found ≡ find_option (take len bytes)
    → after_found flags found len bytes ≡ after_name flags bytes
after_name-found flags bytes len found by_len by_name =
    ap (λ f. after_found flags f len bytes) by_name ∙ ap (λ n. after_found flags (find_option (take n bytes)) n bytes) by_len

-- one byte more of a number
number_cons : (number byte : ℕ) (digits : List ℕ) (t : Bool) → is_digit byte ≡ t
    → number_from number (byte ∷ digits) ≡ (if t then number_from (min (10 * number + (byte - 48)) 18446744073709551615) digits else None)
number_cons number byte digits t is = ap (λ b. if b then number_from (min (10 * number + (byte - 48)) 18446744073709551615) digits else None) is

pub number_digit : (number : ℕ) (digits : List ℕ) (at : ℕ) → at < length digits → is_digit (get_or digits at 0) ≡ true
    → number_from number (drop at digits) ≡ number_from (min (10 * number + (get_or digits at 0 - 48)) 18446744073709551615) (drop (at + 1) digits)
number_digit number digits at inside is =
    let place : suc at ≡ at + 1 = omega arith in
    ap (number_from number) (drop-cons digits at 0 inside)
    ∙ number_cons number (get_or digits at 0) (drop (suc at) digits) true is
    ∙ ap (λ k. number_from (min (10 * number + (get_or digits at 0 - 48)) 18446744073709551615) (drop k digits)) place

pub number_none : (number : ℕ) (digits : List ℕ) (at : ℕ) → at < length digits → is_digit (get_or digits at 0) ≡ false → number_from number (drop at digits) ≡ None
number_none number digits at inside is =
    ap (number_from number) (drop-cons digits at 0 inside) ∙ number_cons number (get_or digits at 0) (drop (suc at) digits) false is

pub number_end : (number : ℕ) (digits : List ℕ) (at : ℕ) → length digits ≤ at → number_from number (drop at digits) ≡ Some number
number_end number digits at past = ap (number_from number) (drop_all at digits past)

-- one byte more of a path
slash_cons : (from path : List ℕ) (byte : ℕ) (t : Bool) → is "/" byte ≡ t → past_slashes from (byte ∷ path) ≡ past_slashes (if t then path else from) path
slash_cons from path byte t is = ap (λ b. past_slashes (if b then path else from) path) is

pub slash_here : (from path : List ℕ) (at : ℕ) → at < length path → is "/" (get_or path at 0) ≡ true
    → past_slashes from (drop at path) ≡ past_slashes (drop (at + 1) path) (drop (at + 1) path)
slash_here from path at inside is =
    let place : suc at ≡ at + 1 = omega arith in
    ap (past_slashes from) (drop-cons path at 0 inside)
    ∙ slash_cons from (drop (suc at) path) (get_or path at 0) true is
    ∙ ap (λ k. past_slashes (drop k path) (drop k path)) place

pub slash_past : (from path : List ℕ) (at : ℕ) → at < length path → is "/" (get_or path at 0) ≡ false
    → past_slashes from (drop at path) ≡ past_slashes from (drop (at + 1) path)
slash_past from path at inside is =
    let place : suc at ≡ at + 1 = omega arith in
    ap (past_slashes from) (drop-cons path at 0 inside)
    ∙ slash_cons from (drop (suc at) path) (get_or path at 0) false is
    ∙ ap (λ k. past_slashes from (drop k path)) place

pub slash_end : (from path : List ℕ) (at : ℕ) → length path ≤ at → past_slashes from (drop at path) ≡ from
slash_end from path at past = ap (past_slashes from) (drop_all at path past)
