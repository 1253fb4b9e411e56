-- What a symbol prints.
use Rattle.std.specs.Prelude.{ℕ, nat_eq, nat_le, Bool, false, ◌&&◌, not, if◌then◌else◌}
use Rattle.std.specs.Prelude.{List, [], ◌∷◌, ◌++◌, codes, Option, Some, None, option_map}
use Rattle.cxx_tree.specs.Tree.{Tree, encoding}
use Rattle.cxx_tree.specs.Stored.{Store, forest, tree_at, text_at}
use Rattle.cxx_printer.specs.declared.env.Env.{Env}
use Rattle.cxx_printer.specs.declared.env.Style.{Style}
use Rattle.cxx_printer.specs.declared.symbol.Mode.{Mode}
use Rattle.cxx_printer.specs.declared.symbol.Mode.TheVariants.{Name, Signature}
use Rattle.cxx_printer.specs.declared.symbol.Symbol as stored
use Rattle.cxx_printer.specs.Words.{is_llvm, top, byte}
use Rattle.cxx_printer.specs.Print.{whole, print, print_parts, items_of, signature_right}

-- what a symbol is read as
pub record Symbol : Type 0 where
  pub tree : Tree
  pub is_block : Bool  -- the symbol is that of a block's function
  pub suffix : Option (List ℕ)  -- what follows from a dot

-- the symbol whose tree and suffix stand in an arena
abbrev pub symbol_at : Store → stored.Symbol → Symbol
symbol_at s x =
    record { tree = tree_at (forest s) x.tree; is_block = x.is_block; suffix = option_map (text_at s.held) x.suffix }

-- of a function its name, or all but its return type; any other tree whole
unfoldable pub mode_text : Mode → Env → Tree → List ℕ
mode_text Name env (encoding ret name params cv ref rest) = whole (print name env)
mode_text Signature env (encoding ret name params cv ref rest) =
    whole (print name env) ++ signature_right env [] (items_of params) cv ref (print_parts rest env)
mode_text mode env t = whole (print t env)

unfoldable pub block_text : Bool → List ℕ
block_text is_block = if is_block then codes "invocation function for block in " else []

-- the first byte, if there is one, is a digit
unfoldable pub is_digit_first : List ℕ → Bool
is_digit_first [] = false
is_digit_first (b ∷ bs) = nat_le (byte "0") b && nat_le b (byte "9")

-- a piece of a suffix begins here: with a dot that no digit follows
unfoldable pub is_piece : List ℕ → Bool
is_piece [] = false
is_piece (b ∷ bs) = nat_eq b (byte ".") && not (is_digit_first bs)

-- between two pieces, before what is left of a suffix
unfoldable pub between : List ℕ → List ℕ
between bs = if is_piece bs then codes "] [clone " else []

-- what is left of a suffix after its first byte
unfoldable pub pieces_behind : List ℕ → List ℕ
pieces_behind [] = codes "]"
pieces_behind (b ∷ bs) = between (b ∷ bs) ++ (b ∷ pieces_behind bs)

-- a suffix in pieces. The first one begins where the suffix does
unfoldable pub pieces_text : List ℕ → List ℕ
pieces_text [] = []
pieces_text (b ∷ bs) = codes " [clone " ++ (b ∷ pieces_behind bs)

unfoldable pub in_parens : List ℕ → List ℕ
in_parens bytes = codes " (" ++ (bytes ++ codes ")")

unfoldable pub suffix_text : Env → Option (List ℕ) → List ℕ
suffix_text env None = []
suffix_text env (Some bytes) = if is_llvm env then in_parens bytes else pieces_text bytes

unfoldable pub symbol_in : Env → Mode → Symbol → List ℕ
symbol_in env mode x = block_text x.is_block ++ (mode_text mode env x.tree ++ suffix_text env x.suffix)

-- what a symbol prints
abbrev pub symbol_text : Mode → Style → Symbol → List ℕ
symbol_text mode style x = symbol_in (top style) mode x
