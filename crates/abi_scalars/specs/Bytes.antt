-- What the next bytes are. A letter, and a word, are given as text.
use Prim.Native.String.{String}
use Rattle.std.specs.Prelude.{ℕ, List, [], ◌∷◌, codes, Bool, true, false, ◌&&◌, ◌||◌, ◌==◌, nat_le, slice_index, drop, if◌then◌else◌}

-- the byte of a letter
abbrev pub letter : String → ℕ
letter text = slice_index (codes text) 0

-- the byte is that letter
abbrev pub is : String → ℕ → Bool
is text byte = byte == letter text

-- the byte lies between two letters
abbrev pub is_between : String → String → ℕ → Bool
is_between low high byte = nat_le (letter low) byte && nat_le byte (letter high)

-- the byte is a digit
abbrev pub is_digit : ℕ → Bool
is_digit byte = is_between "0" "9" byte

-- the bytes begin with the word, which comes first
abbrev pub begins : List ℕ → List ℕ → Bool
begins [] bytes = true
begins (c ∷ word) [] = false
begins (c ∷ word) (b ∷ bytes) = (b == c) && begins word bytes

-- the next byte lies between two letters
abbrev pub begins_between : String → String → List ℕ → Bool
begins_between low high [] = false
begins_between low high (b ∷ bytes) = is_between low high b

-- a digit is next
abbrev pub begins_digit : List ℕ → Bool
begins_digit bytes = begins_between "0" "9" bytes

-- the byte is one of the word's
abbrev pub one_of : List ℕ → ℕ → Bool
one_of [] byte = false
one_of (c ∷ word) byte = (byte == c) || one_of word byte

-- the next byte is one of the word's
abbrev pub begins_one_of : List ℕ → List ℕ → Bool
begins_one_of word [] = false
begins_one_of word (b ∷ bytes) = one_of word b

-- past a letter that may stand there
abbrev pub past_letter : ℕ → List ℕ → List ℕ
past_letter byte bytes = if begins (byte ∷ []) bytes then drop 1 bytes else bytes
