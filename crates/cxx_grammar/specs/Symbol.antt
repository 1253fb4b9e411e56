-- The whole grammar: symbols (Itanium C++ ABI 5.1.1).
use Rattle.std.specs.Prelude.{ℕ, zero, suc, List, [], ◌∷◌, codes, Bool, true, false, Option, Some, None, if◌then◌else◌}
use Rattle.cxx_tree.specs.Tree.{Tree}
use Rattle.abi_scalars.specs.Bytes.{begins}
use Rattle.cxx_grammar.specs.State.{State, start}
use Rattle.cxx_grammar.specs.Parses.{Parses, ◌>>=◌, ◌>>◌, pure, refused, check, look, past, expect, optional, set_rest, by}
use Rattle.cxx_grammar.specs.declared.cases.PrefixCase.{PrefixCase}
use Rattle.cxx_grammar.specs.declared.cases.PrefixCase.TheVariants as prefix
use Rattle.cxx_grammar.specs.Cases.{case_of_prefix}
use Rattle.cxx_grammar.specs.Leaves.{parse_digits, parse_some_digits}
use Rattle.cxx_grammar.specs.Binds.{parse_closed}
use Rattle.cxx_grammar.specs.Productions.{Productions, no_productions}
use Rattle.cxx_grammar.specs.Names.{parse_name}
use Rattle.cxx_grammar.specs.Types.{parse_type, parse_qualified_type}
use Rattle.cxx_grammar.specs.Args.{parse_arg}
use Rattle.cxx_grammar.specs.Expressions.{parse_expression, parse_braced}
use Rattle.cxx_grammar.specs.Declarations.{parse_declaration}
use Rattle.cxx_grammar.specs.Encodings.{parse_encoding}

-- the productions that others may be inside of
abbrev pub productions_over : Productions → Productions
productions_over p = record {
  encoding = parse_encoding p;
  name = parse_name p;
  type = parse_type p;
  qualified_type = parse_qualified_type p;
  arg = parse_arg p;
  expression = parse_expression p;
  braced = parse_braced p;
  declaration = parse_declaration p;
}

-- the productions, of which at most so many may nest
unfoldable pub productions : ℕ → Productions
productions zero = no_productions
productions (suc depth) = productions_over (productions depth)

-- the most counted productions that may nest
abbrev pub max_depth : ℕ
max_depth = 512

-- what a symbol is read as
pub record Reading : Type 0 where
  pub tree : Tree
  -- it is the function of a block
  pub is_block : Bool
  -- what follows from a dot
  pub suffix : Option (List ℕ)

abbrev pub is_dot_or_end : List ℕ → Bool
is_dot_or_end [] = true
is_dot_or_end (b ∷ bytes) = begins (codes ".") (b ∷ bytes)

-- all bytes that are left: none, or a dot and others
abbrev pub parse_rest : Parses (List ℕ)
parse_rest = do
  bytes ← look
  check (is_dot_or_end bytes)
  set_rest []
  pure bytes

abbrev pub suffix_of : List ℕ → Option (List ℕ)
suffix_of [] = None
suffix_of (b ∷ bytes) = Some (b ∷ bytes)

-- <encoding> [. <vendor-specific suffix>], behind a prefix of n bytes
abbrev pub parse_plain_symbol : Productions → ℕ → Parses Reading
parse_plain_symbol p n = do
  past n
  t ← p.encoding
  rest ← parse_rest
  pure (record { tree = t; is_block = false; suffix = suffix_of rest })

-- [<digit>+ | _ <digit>+]
abbrev pub parse_block_number : Parses (List ℕ)
parse_block_number = do
  has_number ← optional "_"
  if has_number then parse_some_digits else parse_digits

-- _block_invoke [<digit>+ | _ <digit>+]
unfoldable pub parse_block_mark : Parses (Unit {0})
parse_block_mark = do
  expect "_block_invoke"
  parse_block_number
  pure tt

-- <encoding> _block_invoke [<digit>+ | _ <digit>+] [. <vendor-specific suffix>], behind a prefix of n bytes. The suffix
-- isn't printed
abbrev pub parse_block_symbol : Productions → ℕ → Parses Reading
parse_block_symbol p n = do
  past n
  t ← p.encoding
  parse_block_mark
  parse_rest
  pure (record { tree = t; is_block = true; suffix = None })

unfoldable pub symbol_as : Productions → PrefixCase → Parses Reading
symbol_as p (prefix.Plain n) = parse_plain_symbol p n
symbol_as p (prefix.Block n) = parse_block_symbol p n
symbol_as p prefix.None = refused

-- <mangled-name> ::= _Z <encoding>
--                ::= _Z <encoding> . <vendor-specific suffix>
-- A further underscore may stand in front, and two more in front of the function of a block
abbrev pub parse_mangled_name : Productions → Parses Reading
parse_mangled_name p = by case_of_prefix (symbol_as p)

abbrev pub found_of : {A : Type 0} → Option (A × State) → Option A
found_of None = None
found_of (Some (a, s)) = Some a

-- the reading of a symbol, if there is one. It reads all of the bytes
abbrev pub parse_symbol : List ℕ → Option Reading
parse_symbol symbol = found_of (parse_mangled_name (productions max_depth) (start symbol))

abbrev pub is_end : List ℕ → Bool
is_end [] = true
is_end (b ∷ bytes) = false

-- a type alone, as a program names types at run time: it is all of the bytes, and has no template parameter
unfoldable pub parse_closed_type : Productions → Parses Tree
parse_closed_type p = do
  t ← p.type false
  bytes ← look
  check (is_end bytes)
  parse_closed t
