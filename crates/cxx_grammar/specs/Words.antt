-- The tables: words of types, literals and operators (Itanium C++ ABI 5.1.3 to 5.1.6).
use Prim.Native.String.{String}
use Rattle.std.specs.Prelude.{ℕ, List, [], ◌∷◌, codes, Option, Some, None, if◌then◌else◌, option_map}
use Rattle.cxx_tree.specs.declared.kinds.Std.{Std}
use Rattle.cxx_tree.specs.declared.kinds.Std.TheVariants as std
use Rattle.abi_scalars.specs.Bytes.{begins}

-- Each row of a table has a code. The first row whose code the next bytes begin with is taken.
abbrev pub row : {A : Type 0} → List (String × A) → List ℕ → Option A
row [] bytes = None
row ((code, value) ∷ table) bytes = if begins (codes code) bytes then Some value else row table bytes

-- the same of a table of words
abbrev pub word_of : List (String × String) → List ℕ → Option (List ℕ)
word_of table bytes = option_map (λ word. codes word) (row table bytes)

-- <builtin-type> of one letter
abbrev pub builtins : List (String × String)
builtins =
    ("v", "void") ∷
    ("w", "wchar_t") ∷
    ("b", "bool") ∷
    ("c", "char") ∷
    ("a", "signed char") ∷
    ("h", "unsigned char") ∷
    ("s", "short") ∷
    ("t", "unsigned short") ∷
    ("i", "int") ∷
    ("j", "unsigned int") ∷
    ("l", "long") ∷
    ("m", "unsigned long") ∷
    ("x", "long long") ∷
    ("y", "unsigned long long") ∷
    ("n", "__int128") ∷
    ("o", "unsigned __int128") ∷
    ("f", "float") ∷
    ("d", "double") ∷
    ("e", "long double") ∷
    ("g", "__float128") ∷
    ("z", "...") ∷ []

unfoldable pub builtin_of : List ℕ → Option (List ℕ)
builtin_of bytes = word_of builtins bytes

-- <builtin-type> after its `D`
abbrev pub d_builtins : List (String × String)
d_builtins =
    ("d", "decimal64") ∷
    ("e", "decimal128") ∷
    ("f", "decimal32") ∷
    ("h", "half") ∷
    ("i", "char32_t") ∷
    ("s", "char16_t") ∷
    ("u", "char8_t") ∷
    ("a", "auto") ∷
    ("c", "decltype(auto)") ∷ []

unfoldable pub d_builtin_of : List ℕ → Option (List ℕ)
d_builtin_of bytes = word_of d_builtins bytes

-- what stands around a number: in front of it, and behind it
pub record Around : Type 0 where
  pub front : List ℕ
  pub behind : List ℕ

abbrev pub around : String → String → Around
around front behind = record { front = codes front; behind = codes behind }

-- the literals of integer types, by the letters of these
abbrev pub integers : List (String × Around)
integers =
    ("i", around "" "") ∷
    ("j", around "" "u") ∷
    ("l", around "" "l") ∷
    ("m", around "" "ul") ∷
    ("x", around "" "ll") ∷
    ("y", around "" "ull") ∷
    ("w", around "(wchar_t)" "") ∷
    ("c", around "(char)" "") ∷
    ("a", around "(signed char)" "") ∷
    ("h", around "(unsigned char)" "") ∷
    ("s", around "(short)" "") ∷
    ("t", around "(unsigned short)" "") ∷
    ("n", around "(__int128)" "") ∷
    ("o", around "(unsigned __int128)" "") ∷ []

unfoldable pub integer_of : List ℕ → Option Around
integer_of bytes = row integers bytes

-- <substitution> that is an abbreviation of std, after its `S`
abbrev pub abbreviations : List (String × Std)
abbreviations =
    ("a", std.Allocator) ∷
    ("b", std.BasicString) ∷
    ("s", std.String) ∷
    ("i", std.Istream) ∷
    ("o", std.Ostream) ∷
    ("d", std.Iostream) ∷ []

unfoldable pub std_of : List ℕ → Option Std
std_of bytes = row abbreviations bytes

-- <operator-name> of two letters, of which the second is a capital letter
abbrev pub assignments : List (String × String)
assignments =
    ("aN", "operator&=") ∷
    ("aS", "operator=") ∷
    ("dV", "operator/=") ∷
    ("eO", "operator^=") ∷
    ("lS", "operator<<=") ∷
    ("mI", "operator-=") ∷
    ("mL", "operator*=") ∷
    ("oR", "operator|=") ∷
    ("pL", "operator+=") ∷
    ("rM", "operator%=") ∷
    ("rS", "operator>>=") ∷ []

-- these, and those that begin with a letter from i on
abbrev pub later_operators : List (String × String)
later_operators =
    ("ix", "operator[]") ∷
    ("le", "operator<=") ∷
    ("ls", "operator<<") ∷
    ("lt", "operator<") ∷
    ("mi", "operator-") ∷
    ("ml", "operator*") ∷
    ("mm", "operator--") ∷
    ("na", "operator new[]") ∷
    ("ne", "operator!=") ∷
    ("ng", "operator-") ∷
    ("nt", "operator!") ∷
    ("nw", "operator new") ∷
    ("oo", "operator||") ∷
    ("or", "operator|") ∷
    ("pl", "operator+") ∷
    ("pm", "operator->*") ∷
    ("pp", "operator++") ∷
    ("ps", "operator+") ∷
    ("pt", "operator->") ∷
    ("qu", "operator?") ∷
    ("rm", "operator%") ∷
    ("rs", "operator>>") ∷
    ("ss", "operator<=>") ∷ assignments

-- all of them
abbrev pub operators : List (String × String)
operators =
    ("aa", "operator&&") ∷
    ("ad", "operator&") ∷
    ("an", "operator&") ∷
    ("aw", "operator co_await") ∷
    ("cl", "operator()") ∷
    ("cm", "operator,") ∷
    ("co", "operator~") ∷
    ("da", "operator delete[]") ∷
    ("de", "operator*") ∷
    ("dl", "operator delete") ∷
    ("dv", "operator/") ∷
    ("eo", "operator^") ∷
    ("eq", "operator==") ∷
    ("ge", "operator>=") ∷
    ("gt", "operator>") ∷ later_operators

unfoldable pub operator_of : List ℕ → Option (List ℕ)
operator_of bytes = word_of operators bytes
