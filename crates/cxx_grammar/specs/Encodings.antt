-- Encodings (Itanium C++ ABI 5.1.1).
use Rattle.std.specs.Prelude.{ℕ, List, length, codes, ◌&&◌, Bool, false, not, Option, None, if◌then◌else◌}
use Rattle.cxx_tree.specs.Tree.{Tree, Trees, data_name}
use Rattle.cxx_tree.specs.Stored.{trees_from_list}
use Rattle.cxx_tree.specs.Phrases.{function_encoding}
use Rattle.cxx_grammar.specs.declared.cases.EncodingCase.{EncodingCase}
use Rattle.cxx_grammar.specs.declared.cases.EncodingCase.TheVariants as encoding
use Rattle.cxx_grammar.specs.declared.rows.End.TheVariants as end
use Rattle.cxx_grammar.specs.declared.rows.Item.{Item}
use Rattle.cxx_grammar.specs.declared.rows.Item.TheVariants as item
use Rattle.cxx_grammar.specs.State.{Info, LearnedName}
use Rattle.cxx_grammar.specs.Parses.{Parses, ◌>>=◌, ◌<$>◌, pure, some, by, if_bytes, if_next, make, at_level}
use Rattle.cxx_grammar.specs.Cases.{case_of_encoding, is_encoding_end}
use Rattle.cxx_grammar.specs.Binds.{has_args, bind_encoding, parse_closed}
use Rattle.cxx_grammar.specs.Constraints.{parse_constraint}
use Rattle.cxx_grammar.specs.Productions.{Productions}
use Rattle.cxx_grammar.specs.Rows.{special_of, parse_row_of, parse_list, parse_params}

-- [Ua9enable_ifI <template-arg>* E]
unfoldable pub parse_enable_if : Productions → Parses (Option Trees)
parse_enable_if p =
    if_next "Ua9enable_ifI" (some <$> parse_list p (length (codes "Ua9enable_ifI")) item.Arg) (pure None)

-- a function has its return type in front of its parameters
abbrev pub has_return : Info → Bool
has_return info = info.ends_with_args && not info.no_return

abbrev pub parse_return : Productions → Bool → Parses (Option Tree)
parse_return p is_there = if is_there then some <$> p.type false else pure None

-- the first parameter of a function, which may be its object
abbrev pub first_param : Info → Item
first_param info = if info.explicit_object then item.Object else item.Type

abbrev pub make_function : Option Tree → LearnedName → List Tree → Option Trees → Option Tree → Parses Tree
make_function ret n params enable_if constraint =
    make (function_encoding ret n.tree (trees_from_list params) enable_if constraint n.info.cv n.info.ref)

-- [<enable-if>] [<return type>] <parameters> [Q <constraint-expression>]
abbrev pub parse_function : Productions → LearnedName → Parses Tree
parse_function p n = do
  enable_if ← parse_enable_if p
  ret ← parse_return p (has_return n.info)
  params ← parse_params p (first_param n.info) end.Encoding
  constraint ← parse_constraint p
  make_function ret n params enable_if constraint

-- what follows the name: nothing where it isn't a function's
unfoldable pub parse_signature : Productions → LearnedName → Parses Tree
parse_signature p n = if_bytes is_encoding_end (make (data_name n.tree)) (parse_function p n)

-- A name that has arguments is a binder: in `_Z1fIiEvN1AUlT_E_E` the parameter of the lambda is that of `f<int>`, and
-- in `_Z1fN1AUlT_E_E` it is the lambda's own, `auto`
abbrev pub level_behind : LearnedName → ℕ
level_behind n = if has_args n then 1 else 0

abbrev pub parse_named_encoding : Productions → Parses Tree
parse_named_encoding p = do
  n ← p.name
  t ← at_level (level_behind n) (parse_signature p n)
  bind_encoding n t

-- a <special-name>. No template parameter is left in it
abbrev pub parse_special_encoding : Productions → Parses Tree
parse_special_encoding p = do
  t ← parse_row_of special_of p
  parse_closed t

unfoldable pub encoding_as : Productions → EncodingCase → Parses Tree
encoding_as p encoding.Special = parse_special_encoding p
encoding_as p encoding.Name = parse_named_encoding p

-- <encoding> ::= <function name> <bare-function-type>
--            ::= <data name>
--            ::= <special-name>
-- <bare-function-type> ::= <signature type>+ [Q <constraint-expression>]
abbrev pub parse_encoding : Productions → Parses Tree
parse_encoding p = at_level 0 (by case_of_encoding (encoding_as p))
