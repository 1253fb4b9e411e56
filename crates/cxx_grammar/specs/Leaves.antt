-- Productions without counted productions inside: source names, numbers, substitutions, parameters, builtin types.
use Prim.Native.String.{String}
use Rattle.std.specs.Prelude.{ℕ, List, [], ◌∷◌, ◌++◌, nat_le, Bool, false, not, codes, length, take, slice_get, Option, Some, None, if◌then◌else◌}
use Rattle.cxx_tree.specs.declared.kinds.Cv.{Cv}
use Rattle.cxx_tree.specs.declared.kinds.Prec.TheVariants.{Primary}
use Rattle.cxx_tree.specs.declared.kinds.RefQual.{RefQual}
use Rattle.cxx_tree.specs.declared.kinds.RefQual.TheVariants as refqual
use Rattle.cxx_tree.specs.declared.kinds.Std.{Std}
use Rattle.cxx_tree.specs.Tree.{Tree, named, std_name, param, abi_tag}
use Rattle.cxx_tree.specs.Phrases.{word, literal, prefixed}
use Rattle.cxx_tree.specs.Texts.{number_printed}
use Rattle.abi_scalars.specs.Bytes.{begins, begins_digit}
use Rattle.abi_scalars.specs.Scalars.{index_of, source_text}
use Rattle.abi_scalars.specs.Texts.{digits, identifier, number_text}
use Rattle.abi_scalars.specs.declared.numerals.Radix.TheVariants.{Decimal, Base36}
use Rattle.cxx_grammar.specs.Words.{std_of, builtin_of, d_builtin_of, integer_of, operator_of}
use Rattle.cxx_grammar.specs.declared.cases.FloatFormat.{FloatFormat}
use Rattle.cxx_grammar.specs.Floats.{float_len, are_hex, float_text, float_digits}
use Rattle.cxx_grammar.specs.Ordinals.{ordinal_of}
use Rattle.cxx_grammar.specs.Parses.{Parses, ◌>>=◌, ◌>>◌, pure, refused, check, given, look, past, expect, optional, of_bytes, parse_code, if_next, repeat, make, saved}

abbrev pub make_name : List ℕ → Parses Tree
make_name text = make (named text)

abbrev pub make_word : String → Parses Tree
make_word text = make_name (codes text)

-- a code of n letters, for which there is a word
abbrev pub make_code : ℕ → Option (List ℕ) → Parses Tree
make_code n found = do
  word ← given found
  past n
  make_name word

-- the word of the code that is next, in a table
abbrev pub parse_word : ℕ → (List ℕ → Option (List ℕ)) → Parses Tree
parse_word n word_of = do
  bytes ← look
  make_code n (word_of bytes)

-- Digits.

-- <digits> ::= <digit>*
abbrev pub parse_digits : Parses (List ℕ)
parse_digits = of_bytes (λ bytes. Some (digits Decimal bytes))

abbrev pub parse_some_digits : Parses (List ℕ)
parse_some_digits = do
  bytes ← look
  check (begins_digit bytes)
  parse_digits

-- Names.

-- <identifier>, with its length in front
abbrev pub parse_identifier : Parses (List ℕ)
parse_identifier = of_bytes identifier

-- <source-name> ::= <positive length number> <identifier>
abbrev pub parse_source_name : Parses Tree
parse_source_name = do
  name ← parse_identifier
  make_name (source_text name)

-- a source name after n bytes, with a word in front of it
abbrev pub parse_prefixed : ℕ → List ℕ → Parses Tree
parse_prefixed n word = do
  past n
  name ← parse_source_name
  make (prefixed word word name Primary)

-- <operator-name> that is a code of two letters
abbrev pub parse_operator : Parses Tree
parse_operator = parse_word 2 operator_of

-- <abi-tag> ::= B <source-name>
abbrev pub parse_abi_tag : Tree → Parses Tree
parse_abi_tag name = do
  past 1
  tag ← parse_identifier
  make (abi_tag name tag)

abbrev pub is_tags_end : List ℕ → Bool
is_tags_end bytes = not (begins (codes "B") bytes)

-- <abi-tags> ::= <abi-tag>*, behind a name
unfoldable pub parse_abi_tags : Tree → Parses Tree
parse_abi_tags name = repeat is_tags_end parse_abi_tag name

-- Parts of special names, which print nothing.

-- <number> _
abbrev pub parse_offset : Parses (Unit {0})
parse_offset = do
  of_bytes number_text
  expect "_"

abbrev pub parse_two_offsets : Parses (Unit {0})
parse_two_offsets = do
  parse_offset
  parse_offset

abbrev pub parse_plain_offset : Parses (Unit {0})
parse_plain_offset = do
  expect "h"
  parse_offset

-- <call-offset> ::= h <nv-offset> _
--               ::= v <v-offset> _
-- <nv-offset> ::= <offset number>
-- <v-offset> ::= <offset number> _ <virtual offset number>
unfoldable pub parse_call_offset : Parses (Unit {0})
parse_call_offset = do
  is_virtual ← optional "v"
  if is_virtual then parse_two_offsets else parse_plain_offset

abbrev pub after_seq_id : List ℕ → Parses (Unit {0})
after_seq_id [] = do optional "_"; pure tt
after_seq_id (d ∷ ds) = expect "_"

-- what may stand behind the name of a temporary: [[<seq-id>] _]
unfoldable pub parse_temporary_id : Parses (Unit {0})
parse_temporary_id = do
  id ← of_bytes (λ bytes. Some (digits Base36 bytes))
  after_seq_id id

-- Substitutions and template parameters.

-- the saved tree with the index
abbrev pub saved_at : ℕ → Parses Tree
saved_at k s = given (slice_get s.saved k) s

abbrev pub parse_saved : Parses Tree
parse_saved = do
  k ← of_bytes (index_of Base36)
  saved_at k

-- with tags it is saved
abbrev pub parse_abbreviation : Std → Parses Tree
parse_abbreviation std = do
  past 1
  name ← make (std_name std false)
  if_next "B" (saved (parse_abi_tags name)) (pure name)

abbrev pub substitution_as : Option Std → Parses Tree
substitution_as None = parse_saved
substitution_as (Some std) = parse_abbreviation std

-- <substitution> ::= S <seq-id> _ | S_
--                ::= Sa | Sb | Ss | Si | So | Sd, with <abi-tags>
unfoldable pub parse_substitution : Parses Tree
parse_substitution = do
  past 1
  bytes ← look
  substitution_as (std_of bytes)

-- <number> _, of which the number isn't left out
abbrev pub parse_outer_level : Parses ℕ
parse_outer_level = do
  past 1
  bytes ← look
  check (begins_digit bytes)
  of_bytes (index_of Decimal)

-- [L <number> _]: the level of a template parameter
unfoldable pub parse_param_level : Parses ℕ
parse_param_level = if_next "L" parse_outer_level (pure 0)

-- <template-param> ::= T_ | T <number> _
--                  ::= TL <level-1 number> __ | TL <level-1 number> _ <number> _
unfoldable pub parse_template_param : Parses Tree
parse_template_param = do
  past 1
  level ← parse_param_level
  index ← of_bytes (index_of Decimal)
  make (param level index)

-- Qualifiers.

-- <CV-qualifiers> ::= [r] [V] [K]
unfoldable pub parse_cv : Parses Cv
parse_cv = do
  is_restrict ← optional "r"
  is_volatile ← optional "V"
  is_const ← optional "K"
  pure (record { is_const = is_const; is_volatile = is_volatile; is_restrict = is_restrict })

abbrev pub parse_lvalue : Parses RefQual
parse_lvalue = do
  is_lvalue ← optional "R"
  pure (if is_lvalue then refqual.Lvalue else refqual.None)

-- <ref-qualifier> ::= R | O, which may be left out
unfoldable pub parse_ref : Parses RefQual
parse_ref = do
  is_rvalue ← optional "O"
  if is_rvalue then pure refqual.Rvalue else parse_lvalue

-- Builtin types.

abbrev pub parse_d_builtin : Parses Tree
parse_d_builtin = do
  is_null ← optional "n"
  if is_null then make (word (codes "std::nullptr_t") (codes "decltype(nullptr)")) else parse_word 1 d_builtin_of

-- <builtin-type> ::= v | w | b | .. | D n | D d | ..
unfoldable pub parse_builtin : Parses Tree
parse_builtin = do
  is_d ← optional "D"
  if is_d then parse_d_builtin else parse_word 1 builtin_of

abbrev pub float_named : List ℕ → Parses Tree
float_named number = do
  has_x ← optional "x"
  if has_x then make_name (codes "_Float" ++ (number ++ codes "x"))
      else (do expect "_"; make_name (codes "_Float" ++ number))

abbrev pub parse_numbered_float : Parses Tree
parse_numbered_float = do
  number ← parse_some_digits
  float_named number

-- DF16b | DF <number> _ | DF <number> x
unfoldable pub parse_float_type : Parses Tree
parse_float_type = do
  past 2
  if_next "16b" (do past 3; make_word "std::bfloat16_t") parse_numbered_float

-- Function parameters.

abbrev pub make_param : List ℕ → Parses Tree
make_param number = make (word (codes "fp" ++ number) (codes "{parm#" ++ (ordinal_of number ++ codes "}")))

-- [<CV-qualifiers>] [<number>] _
abbrev pub parse_param_number : Parses Tree
parse_param_number = do
  parse_cv
  number ← parse_digits
  expect "_"
  make_param number

-- <number> p [<CV-qualifiers>] [<number>] _
abbrev pub parse_outer_number : Parses Tree
parse_outer_number = do
  parse_some_digits
  expect "p"
  parse_param_number

abbrev pub parse_outer_param : Parses Tree
parse_outer_param = do
  past 2
  parse_outer_number

abbrev pub parse_inner_param : Parses Tree
parse_inner_param = do
  past 2
  parse_param_number

abbrev pub parse_this : Parses Tree
parse_this = do
  past 3
  make_word "this"

-- <function-param> ::= fpT
--                  ::= fp [<CV-qualifiers>] [<number>] _
--                  ::= fL <number> p [<CV-qualifiers>] [<number>] _
unfoldable pub parse_function_param : Parses Tree
parse_function_param =
    if_next "fpT" parse_this (if_next "fp" parse_inner_param (if_next "fL" parse_outer_param refused))

-- Literals without a type inside.

-- <number> E: what is printed of the number
abbrev pub parse_number_end : Parses (List ℕ)
parse_number_end = do
  number ← of_bytes number_text
  expect "E"
  pure (number_printed number)

-- a text that is the same in both styles
abbrev pub make_literal : List ℕ → Parses Tree
make_literal text = make (literal text text)

-- b0E | b1E
unfoldable pub parse_bool : Parses Tree
parse_bool = do
  past 1
  is_true ← optional "1E"
  if is_true then make_literal (codes "true") else (do expect "0E"; make_literal (codes "false"))

-- DnE | Dn0E
unfoldable pub parse_null : Parses Tree
parse_null = do
  past 2
  has_zero ← optional "0"
  expect "E"
  make (literal (codes "nullptr") (if has_zero then codes "(decltype(nullptr))0" else codes "decltype(nullptr)"))

-- the letter of an integer type, <number> E
unfoldable pub parse_integer : Parses Tree
parse_integer = do
  texts ← parse_code 1 integer_of
  number ← parse_number_end
  make_literal (texts.front ++ (number ++ texts.behind))

-- digits that are as many as the format has
abbrev pub parse_float_digits : FloatFormat → Parses (List ℕ)
parse_float_digits format = do
  bytes ← look
  check (nat_le (float_len format) (length bytes))
  past (float_len format)
  pure (take (float_len format) bytes)

-- the letter of a floating type, digits, E
unfoldable pub parse_float : FloatFormat → Parses Tree
parse_float format = do
  past 1
  digits ← parse_float_digits format
  check (are_hex digits)
  expect "E"
  make (literal (float_text format digits) (float_digits format digits))
