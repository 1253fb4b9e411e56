-- The words of a file that stands as `@FILE` among the arguments.
use Rattle.std.specs.Prelude.{ℕ, List, [], ◌∷◌, ◌++◌, Bool, Option, Some, None, if◌then◌else◌}
use Rattle.abi_scalars.specs.Bytes.{is, one_of}
use Rattle.cosvigle.specs.declared.files.Quote.{Quote}
use Rattle.cosvigle.specs.declared.files.Quote.TheVariants as quote
use Rattle.cosvigle.specs.declared.files.Mode.{Mode}
use Rattle.cosvigle.specs.declared.files.Mode.TheVariants.{Between, In, Escaped}
use Rattle.cosvigle.specs.declared.files.Effect.{Effect}
use Rattle.cosvigle.specs.declared.files.Effect.TheVariants.{Skip, Put, End}

-- the name of the file that an argument names
abbrev pub file_name : List ℕ → Option (List ℕ)
file_name [] = None
file_name (byte ∷ name) = if is "@" byte then Some name else None

-- a space, or a byte that moves to another column or line
abbrev pub is_space : ℕ → Bool
is_space byte = one_of (32 ∷ 9 ∷ 10 ∷ 11 ∷ 12 ∷ 13 ∷ []) byte

-- a byte of a word, after what is quoted so
abbrev pub inside : Quote → ℕ → Effect
inside quote.Nothing byte =
    if is_space byte then End else
    if is "\\" byte then Skip (Escaped quote.Nothing) else
    if is "'" byte then Skip (In quote.Single) else
    if is "\"" byte then Skip (In quote.Double) else Put (In quote.Nothing)
inside quote.Single byte =
    if is "\\" byte then Skip (Escaped quote.Single) else
    if is "'" byte then Skip (In quote.Nothing) else Put (In quote.Single)
inside quote.Double byte =
    if is "\\" byte then Skip (Escaped quote.Double) else
    if is "\"" byte then Skip (In quote.Nothing) else Put (In quote.Double)

-- what a byte does
abbrev pub effect_of : Mode → ℕ → Effect
effect_of Between byte = if is_space byte then Skip Between else inside quote.Nothing byte
effect_of (In quote) byte = inside quote byte
effect_of (Escaped quote) byte = Put (In quote)

-- what has been read: whole words, a word that isn't whole, and how the next byte is read
pub record Reading : Type 0 where
  pub words : List (List ℕ)
  pub word : List ℕ
  pub mode : Mode

abbrev pub after : Effect → Reading → ℕ → Reading
after (Skip mode) reading byte = record { words = reading.words; word = reading.word; mode = mode }
after (Put mode) reading byte = record { words = reading.words; word = reading.word ++ byte ∷ []; mode = mode }
after End reading byte = record { words = reading.words ++ reading.word ∷ []; word = []; mode = Between }

abbrev pub read : Reading → List ℕ → Reading
read reading [] = reading
read reading (byte ∷ bytes) = read (after (effect_of reading.mode byte) reading byte) bytes

-- a last word
abbrev pub at_end : Mode → List (List ℕ) → List ℕ → List (List ℕ)
at_end Between words word = words
at_end (In quote) words word = words ++ word ∷ []
at_end (Escaped quote) words word = words ++ word ∷ []

-- the words of a text
abbrev pub words_in : List ℕ → List (List ℕ)
words_in text =
    let all = read (record { words = []; word = []; mode = Between }) text in
    at_end all.mode all.words all.word
