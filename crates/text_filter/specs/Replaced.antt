-- The replaced text of a list of bytes: symbols in words are replaced by what is printed for them.
use Rattle.std.specs.Prelude.{◌≡◌, ◌≢◌, ℕ, suc, List, [], ◌∷◌, ◌++◌, All, Bool, false, ◌&&◌, ◌||◌, Option, Some, None, IsTrue, is_some, option_map, nat_lt, codes, length, take, drop, if◌then◌else◌}
use Rattle.abi_scalars.specs.Bytes.{is, is_between, is_digit, one_of, begins}
use Rattle.text_filter.specs.Printed.{ReplaceOptions}

-- a byte of words: an ASCII letter, a digit, `_`, `$` or `.`
abbrev pub is_word_byte : ℕ → Bool
is_word_byte byte = is_between "A" "Z" byte || is_between "a" "z" byte || is_digit byte || one_of (codes "_$.") byte

abbrev pub IsWordByte : ℕ → Type 0
IsWordByte byte = IsTrue (is_word_byte byte)

-- the next byte is one of words
abbrev pub begins_word : List ℕ → Bool
begins_word [] = false
begins_word (byte ∷ bytes) = is_word_byte byte

-- the last byte is one of words
abbrev pub ends_word : List ℕ → Bool
ends_word [] = false
ends_word (byte ∷ []) = is_word_byte byte
ends_word (byte ∷ next ∷ bytes) = ends_word (next ∷ bytes)

abbrev pub IsDot : ℕ → Type 0
IsDot byte = IsTrue (is "." byte)

-- the last byte is a dot
abbrev pub ends_in_dot : List ℕ → Bool
ends_in_dot [] = false
ends_in_dot (byte ∷ []) = is "." byte
ends_in_dot (byte ∷ next ∷ bytes) = ends_in_dot (next ∷ bytes)

-- the bytes begin with the prefix of a symbol: `_Z` or `__Z`, or that of a block's function, `___Z` or `____Z`
abbrev pub has_prefix : List ℕ → Bool
has_prefix bytes =
    begins (codes "_Z") bytes || begins (codes "__Z") bytes || begins (codes "___Z") bytes
    || begins (codes "____Z") bytes

-- the bytes without their first underscore, where one is stripped
abbrev pub stripped : Bool → List ℕ → List ℕ
stripped strip bytes = if strip && begins (codes "_") bytes then drop 1 bytes else bytes

-- a symbol stands there
abbrev pub is_symbol : Bool → List ℕ → Bool
is_symbol strip bytes = has_prefix (stripped strip bytes)

-- the bytes begin with a dot that a symbol follows
abbrev pub ends_section : Bool → List ℕ → Bool
ends_section strip bytes = begins (codes ".") bytes && is_symbol strip (drop 1 bytes)

-- how many bytes end in the first dot that a symbol follows
abbrev pub section_len : Bool → List ℕ → Option ℕ
section_len strip [] = None
section_len strip (byte ∷ bytes) =
    if ends_section strip (byte ∷ bytes) then Some 1 else option_map suc (section_len strip bytes)

-- as many, or one if there is no such dot
abbrev pub dotted_len : Option ℕ → ℕ
dotted_len (Some n) = n
dotted_len None = 1

-- how many prefix characters a word has that begins with no dot: those of `$` or of `__imp_`
abbrev pub mark_len : List ℕ → ℕ
mark_len word = if begins (codes "$") word then 1 else if begins (codes "__imp_") word then 6 else 0

-- how many prefix characters a word has, which are in front of its symbol and stay: the name of a section with its dots,
-- as in `.text._Z1fv`, a dot, `$` or `__imp_`
abbrev pub prefix_chars_len : Bool → List ℕ → ℕ
prefix_chars_len strip word =
    if begins (codes ".") word then dotted_len (section_len strip word) else mark_len word

-- these bytes
abbrev pub prefix_chars : Bool → List ℕ → List ℕ
prefix_chars strip word = take (prefix_chars_len strip word) word

-- the word without them
abbrev pub past_prefix_chars : Bool → List ℕ → List ℕ
past_prefix_chars strip word = drop (prefix_chars_len strip word) word

-- the symbol that the bytes are, or any bytes where all are read
abbrev pub symbol_at : Bool → List ℕ → Option (List ℕ)
symbol_at all bytes = if all || has_prefix bytes then Some bytes else None

-- the symbol in a word without the dots at its end: what follows its prefix characters, without one underscore where one
-- is stripped
abbrev pub symbol_in : Bool → Bool → List ℕ → Option (List ℕ)
symbol_in strip all word = symbol_at all (stripped strip (past_prefix_chars strip word))

-- a word without the dots at its end, and what is written for it
pub data IsWordAnswer (options : ReplaceOptions) (word : List ℕ) : List ℕ → Type 0 where
  -- its prefix characters stay, and something is printed for its symbol
  answered : {symbol text : List ℕ}
      → symbol_in options.strip options.all word ≡ Some symbol
      → options.printing symbol (Some text)
      → IsWordAnswer options word (prefix_chars options.strip word ++ text)
  -- it stays, if nothing is printed for its symbol
  unanswered : {symbol : List ℕ}
      → symbol_in options.strip options.all word ≡ Some symbol
      → options.printing symbol None
      → IsWordAnswer options word word
  -- it stays, if it has no symbol
  no_symbol : symbol_in options.strip options.all word ≡ None → IsWordAnswer options word word

-- a word that begins with these bytes may hold a symbol: one follows its prefix characters, or it may be the name of a
-- section, or there are fewer than twelve bytes. No more than twelve are needed to see that it doesn't.
abbrev pub may_hold_symbol : Bool → Bool → List ℕ → Bool
may_hold_symbol strip all bytes =
    nat_lt (length bytes) 12 || begins (codes ".") bytes || is_some (symbol_in strip all bytes)

-- bytes that may be held back: they begin a word that may hold a symbol, or there are none
pub record IsKept (options : ReplaceOptions) (bytes : List ℕ) : Type 0 where
  pub word : All IsWordByte bytes
  pub may_hold : IsTrue (may_hold_symbol options.strip options.all bytes)

-- bytes, and their replaced text
pub data IsReplaced (options : ReplaceOptions) : List ℕ → List ℕ → Type 0 where
  -- there are none
  no_byte : IsReplaced options [] []
  -- a byte that is in no word stays, and more bytes follow
  other : {byte : ℕ} {bytes text : List ℕ}
      → is_word_byte byte ≡ false
      → IsReplaced options bytes text
      → IsReplaced options (byte ∷ bytes) (byte ∷ text)
  -- a word, which has a byte at least
  one_word : {word bytes answer text : List ℕ} (dots : List ℕ)
      → word ++ dots ≢ []
      → All IsWordByte (word ++ dots)
      -- all dots at its end stay
      → All IsDot dots
      → ends_in_dot word ≡ false
      → IsWordAnswer options word answer
      -- no more bytes of the word follow
      → begins_word bytes ≡ false
      → IsReplaced options bytes text
      → IsReplaced options ((word ++ dots) ++ bytes) ((answer ++ dots) ++ text)
