-- Operators (Itanium C++ ABI 5.1.3): what follows `operator` in a name, and how many operands an expression has.
use Prim.Native.String.{String}
use Rattle.std.specs.Prelude.{ℕ, List, [], ◌∷◌, Bool, false, ◌&&◌, ◌==◌, codes, if◌then◌else◌, Option, Some, None, option_map}

-- the code is the one that the word spells
abbrev pub is_code : List ℕ → ℕ → ℕ → Bool
is_code (a ∷ b ∷ []) first second = first == a && second == b
is_code word first second = false

-- each operator: its code, what follows `operator`, and how many operands an expression of it has, if it is read
abbrev pub operators : List (String × String × ℕ)
operators =
    ("nw", " new", 2) ∷ ("na", " new[]", 2) ∷ ("dl", " delete", 1) ∷ ("da", " delete[]", 1) ∷ ("ps", "+", 1) ∷
    ("ng", "-", 1) ∷ ("ad", "&", 1) ∷ ("de", "*", 1) ∷ ("co", "~", 1) ∷ ("pl", "+", 2) ∷ ("mi", "-", 2) ∷
    ("ml", "*", 2) ∷ ("dv", "/", 2) ∷ ("rm", "%", 2) ∷ ("an", "&", 2) ∷ ("or", "|", 2) ∷ ("eo", "^", 2) ∷
    ("ls", "<<", 2) ∷ ("rs", ">>", 2) ∷ ("eq", "==", 2) ∷ ("ne", "!=", 2) ∷ ("lt", "<", 2) ∷ ("gt", ">", 2) ∷
    ("le", "<=", 2) ∷ ("ge", ">=", 2) ∷ ("nt", "!", 1) ∷ ("aa", "&&", 2) ∷ ("oo", "||", 2) ∷ ("pp", "++", 1) ∷
    ("mm", "--", 1) ∷ ("cm", ",", 2) ∷ ("pm", "->*", 2) ∷ ("pt", "->", 2) ∷ ("cl", "()", 2) ∷ ("ix", "[]", 2) ∷
    ("qu", "?:", 3) ∷ ("ss", "<=>", 2) ∷ ("aS", "=", 2) ∷ ("pL", "+=", 2) ∷ ("mI", "-=", 2) ∷ ("mL", "*=", 2) ∷
    ("dV", "/=", 2) ∷ ("rM", "%=", 2) ∷ ("aN", "&=", 2) ∷ ("oR", "|=", 2) ∷ ("eO", "^=", 2) ∷ ("lS", "<<=", 2) ∷
    ("rS", ">>=", 2) ∷ []

-- the text and the number of operands of a code in a table
abbrev pub operator_in : List (String × String × ℕ) → ℕ → ℕ → Option (List ℕ × ℕ)
operator_in [] first second = None
operator_in ((code, text, operands) ∷ table) first second =
    if is_code (codes code) first second then Some (codes text, operands) else operator_in table first second

-- what follows `operator` for a code of <operator-name>
abbrev pub operator_text : ℕ → ℕ → Option (List ℕ)
operator_text first second = option_map (λ row. row.0) (operator_in operators first second)

-- how many operands an expression of the code has
abbrev pub operator_arity : ℕ → ℕ → Option ℕ
operator_arity first second = option_map (λ row. row.1) (operator_in operators first second)

-- what follows `operator`, where a code of <operator-name> is next
abbrev pub operator_here : List ℕ → Option (List ℕ)
operator_here (first ∷ second ∷ bytes) = operator_text first second
operator_here bytes = None
