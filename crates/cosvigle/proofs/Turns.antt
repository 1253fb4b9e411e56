-- Arguments, one after the other.
use Rattle.std.proofs.Common.{◌≡◌, ℕ, suc, ◌+◌, ◌-◌, ◌<◌, List, [], ◌∷◌, ◌++◌, length, take, drop, get_or, refl, sym, ap, ◌∙◌, arith, append_assoc, append-nil}
use Rattle.std.proofs.lemmas.List.{length-map, get_or-map, take_rest, map-append, drop-map}
use Rattle.std.proofs.Math.Seq.{drop-cons}
use Rattle.std.specs.Borrow.{Bor}
use Rattle.cosvigle.specs.declared.options.Flags.{Flags}
use Rattle.cosvigle.specs.declared.options.EarlyExit.{EarlyExit}
use Rattle.cosvigle.specs.declared.options.Valued.{Valued}
use Rattle.cosvigle.specs.declared.options.OptionState.{OptionState}
use Rattle.cosvigle.specs.declared.options.OptionState.TheVariants.{Ready, NeedsValue, Exit}
use Rattle.cosvigle.specs.declared.options.Kind.{Kind}
use Rattle.cosvigle.specs.Options.{State, reading, ended, stopped, of_kind, next, read, texts, after_value, kind_of}

-- this argument, and those after it
argument_at : (arguments : List (Bor (List ℕ))) (at : ℕ) (none : Bor (List ℕ)) → at < length arguments
    → drop at (texts arguments) ≡ (get_or arguments at none).now ∷ drop (suc at) (texts arguments)
argument_at arguments at none inside =
    drop-cons (texts arguments) at [] (omega (arith, inside, length-map arguments (λ argument. argument.now)))
    ∙ ap (λ a. a ∷ drop (suc at) (texts arguments)) (get_or-map (λ argument. argument.now) arguments at none [] inside)

turned : (arguments : List (Bor (List ℕ))) (at : ℕ) (none : Bor (List ℕ)) (all state : State) → at < length arguments → all ≡ read state (drop at (texts arguments))
    → all ≡ read (next state (get_or arguments at none).now) (drop (at + 1) (texts arguments))
turned arguments at none all state inside so_far =
    let place : suc at ≡ at + 1 = omega arith in
    so_far ∙ ap (read state) (argument_at arguments at none inside)
    ∙ ap (λ n. read (next state (get_or arguments at none).now) (drop n (texts arguments))) place

-- it is a value
pub value_turn : (arguments : List (Bor (List ℕ))) (at : ℕ) (none : Bor (List ℕ)) (all : State) (state result : OptionState) (flags : Flags) (option : Valued) (symbols : List (List ℕ)) (last : List ℕ)
    → at < length arguments → state ≡ NeedsValue flags option → result ≡ after_value flags option (get_or arguments at none).now
    → all ≡ read (reading state symbols last) (drop at (texts arguments))
    → all ≡ read (reading result symbols (get_or arguments at none).now) (drop (at + 1) (texts arguments))
value_turn arguments at none all state result flags option symbols last inside is result_is so_far =
    let argument : List ℕ = (get_or arguments at none).now in
    turned arguments at none all (reading state symbols last) inside so_far
    ∙ ap (λ s. read (next (reading s symbols last) argument) (drop (at + 1) (texts arguments))) is
    ∙ ap (λ s. read (reading s symbols argument) (drop (at + 1) (texts arguments))) (sym result_is)

-- it is none
pub ready_turn : (arguments : List (Bor (List ℕ))) (at : ℕ) (none : Bor (List ℕ)) (all : State) (state : OptionState) (flags : Flags) (symbols : List (List ℕ)) (last : List ℕ) (kind : Kind)
    → at < length arguments → state ≡ Ready flags → kind_of (get_or arguments at none).now ≡ kind
    → all ≡ read (reading state symbols last) (drop at (texts arguments))
    → all ≡ read (of_kind kind flags symbols last (get_or arguments at none).now) (drop (at + 1) (texts arguments))
ready_turn arguments at none all state flags symbols last kind inside is kind_is so_far =
    let argument : List ℕ = (get_or arguments at none).now in
    turned arguments at none all (reading state symbols last) inside so_far
    ∙ ap (λ s. read (next (reading s symbols last) argument) (drop (at + 1) (texts arguments))) is
    ∙ ap (λ k. read (of_kind k flags symbols last argument) (drop (at + 1) (texts arguments))) kind_is

-- nothing is read after a stop
read_stopped : (stop : EarlyExit) (last : List ℕ) (arguments : List (List ℕ)) → read (stopped stop last) arguments ≡ stopped stop last
read_stopped stop last [] = refl
read_stopped stop last (argument ∷ arguments) = read_stopped stop last arguments

pub exit_turn : (arguments : List (Bor (List ℕ))) (at : ℕ) (none : Bor (List ℕ)) (all : State) (state : OptionState) (stop : EarlyExit) (symbols : List (List ℕ)) (last : List ℕ)
    → at < length arguments → state ≡ Exit stop → all ≡ read (reading state symbols last) (drop at (texts arguments)) → all ≡ stopped stop last
exit_turn arguments at none all state stop symbols last inside is so_far =
    turned arguments at none all (reading state symbols last) inside so_far
    ∙ ap (λ s. read (next (reading s symbols last) (get_or arguments at none).now) (drop (at + 1) (texts arguments))) is
    ∙ read_stopped stop last (drop (at + 1) (texts arguments))

-- all are symbols after the end
pub read_ended : (flags : Flags) (symbols arguments : List (List ℕ)) → read (ended flags symbols) arguments ≡ ended flags (symbols ++ arguments)
read_ended flags symbols [] = ap (ended flags) (sym (append-nil symbols))
read_ended flags symbols (argument ∷ arguments) =
    read_ended flags (symbols ++ argument ∷ []) arguments ∙ ap (ended flags) (append_assoc symbols (argument ∷ []) arguments)

-- one symbol more
pub next_symbol : (symbols after : List (Bor (List ℕ))) (symbol : Bor (List ℕ)) → after ≡ symbols ++ symbol ∷ [] → texts after ≡ texts symbols ++ symbol.now ∷ []
next_symbol symbols after symbol after_is = ap texts after_is ∙ map-append (λ argument. argument.now) symbols (symbol ∷ [])

-- the symbols with those after it
pub symbols_after : (symbols after arguments : List (Bor (List ℕ))) (at : ℕ) → after ≡ symbols ++ take (length arguments - at) (drop at arguments)
    → texts after ≡ texts symbols ++ drop at (texts arguments)
symbols_after symbols after arguments at after_is =
    ap texts after_is
    ∙ map-append (λ argument. argument.now) symbols (take (length arguments - at) (drop at arguments))
    ∙ ap (λ l. texts symbols ++ l) (ap texts (take_rest arguments at) ∙ sym (drop-map (λ argument. argument.now) at arguments))
