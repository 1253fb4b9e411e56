-- Productions that are a row of items, of which a tree is made. Such a production is a row of a table.
use Prim.Native.String.{String}
use Rattle.std.specs.Prelude.{ℕ, List, [], ◌∷◌, Bool, true, false, codes, drop, Option, Some, None, if◌then◌else◌}
use Rattle.cxx_tree.specs.declared.kinds.Prec.{Prec}
use Rattle.cxx_tree.specs.declared.kinds.Prec.TheVariants.{Primary, Unary}
use Rattle.cxx_tree.specs.Tree.{Tree, Trees, expansion, listed}
use Rattle.cxx_tree.specs.Stored.{trees_from_list}
use Rattle.cxx_tree.specs.Phrases.{binary, bindings, call, conditional, conversion, count, ctor_vtable, designated, designated_range, enclosing, fold, init_list, member, named_cast, postfix_op, prefix_op, prefixed, subscript, suffixed}
use Rattle.abi_scalars.specs.Bytes.{begins, begins_digit}
use Rattle.abi_scalars.specs.Texts.{optional_number_text}
use Rattle.cxx_grammar.specs.declared.rows.End.{End}
use Rattle.cxx_grammar.specs.declared.rows.End.TheVariants as end
use Rattle.cxx_grammar.specs.declared.rows.Item.{Item}
use Rattle.cxx_grammar.specs.declared.rows.Item.TheVariants as item
use Rattle.cxx_grammar.specs.declared.rows.Maker.{Maker}
use Rattle.cxx_grammar.specs.declared.rows.Maker.TheVariants as maker
use Rattle.cxx_grammar.specs.Parses.{Parses, ◌>>=◌, ◌>>◌, pure, refused, given, look, past, expect, optional, of_bytes, if_bytes, if_next, item_more, items_after, is_e, make}
use Rattle.cxx_grammar.specs.Cases.{is_params_end, is_lambda_end, is_function_end}
use Rattle.cxx_grammar.specs.Words.{row}
use Rattle.cxx_grammar.specs.Leaves.{make_name, parse_digits, parse_source_name, parse_template_param, parse_function_param, parse_offset, parse_call_offset, parse_temporary_id}
use Rattle.cxx_grammar.specs.Modules.{parse_module}
use Rattle.cxx_grammar.specs.Productions.{Productions, name_tree}
use Rattle.cxx_grammar.specs.Requirements.{parse_constrained_arg, parse_requirement}

-- a text in LLVM's style, and in GNU's
pub record Styled : Type 0 where
  pub llvm : List ℕ
  pub gnu : List ℕ

-- a production: how many letters of its code are skipped, its items, what is made of their trees, and the words of
-- that. The code of a thunk ends with the first letter of its offset, which isn't skipped
pub record Row : Type 0 where
  pub skip : ℕ
  pub items : List Item
  pub maker : Maker
  pub words : Styled

-- words in front of the tree of an item, in both styles
abbrev pub behind_words : ℕ → List Item → String → String → Row
behind_words skip items llvm gnu = record {
  skip = skip;
  items = items;
  maker = maker.Prefixed;
  words = record { llvm = codes llvm; gnu = codes gnu };
}

-- the same words in both styles, behind a code of two letters
abbrev pub behind : String → List Item → Row
behind words items = behind_words 2 items words words

-- what a maker makes of items behind a code of two letters, with the same words in both styles
abbrev pub coded : Maker → List ℕ → List Item → Row
coded maker words items =
    record { skip = 2; items = items; maker = maker; words = record { llvm = words; gnu = words } }

abbrev pub made : Maker → String → List Item → Row
made maker words items = coded maker (codes words) items

-- <special-name> ::= TV <type> | TT <type> | TI <type> | TS <type>
--                ::= TA <template-arg>
--                ::= TC <type> <number> _ <type>
--                ::= TW <name> | TH <name>
--                ::= Tc <call-offset> <call-offset> <encoding>
--                ::= T <call-offset> <encoding>
--                ::= GV <name>
--                ::= GR <name> [[<seq-id>] _]
--                ::= GI <module-name>
--                ::= GTt <encoding> | GTn <encoding>

-- those after `T`
abbrev pub t_specials : List (String × Row)
t_specials =
    ("V", behind "vtable for " (item.Type ∷ [])) ∷
    ("T", behind "VTT for " (item.Type ∷ [])) ∷
    ("I", behind "typeinfo for " (item.Type ∷ [])) ∷
    ("S", behind "typeinfo name for " (item.Type ∷ [])) ∷
    ("A", behind "template parameter object for " (item.Arg ∷ [])) ∷
    ("C", made maker.CtorVtable "" (item.Type ∷ item.Offset ∷ item.Type ∷ [])) ∷
    ("W", behind_words 2 (item.Name ∷ []) "thread-local wrapper routine for " "TLS wrapper function for ") ∷
    ("H", behind_words 2 (item.Name ∷ []) "thread-local initialization routine for " "TLS init function for ") ∷
    ("c", behind "covariant return thunk to " (item.CallOffset ∷ item.CallOffset ∷ item.Encoding ∷ [])) ∷
    ("h", behind_words 1 (item.CallOffset ∷ item.Encoding ∷ []) "non-virtual thunk to " "non-virtual thunk to ") ∷
    ("v", behind_words 1 (item.CallOffset ∷ item.Encoding ∷ []) "virtual thunk to " "virtual thunk to ") ∷ []

unfoldable pub t_special_of : List ℕ → Option Row
t_special_of bytes = row t_specials bytes

-- those after `G`
abbrev pub g_specials : List (String × Row)
g_specials =
    ("V", behind "guard variable for " (item.Name ∷ [])) ∷
    ("R", behind "reference temporary for " (item.Name ∷ item.SeqId ∷ [])) ∷
    ("I", behind "initializer for module " (item.Module ∷ [])) ∷
    ("Tt", behind_words 3 (item.Encoding ∷ []) "transaction clone for " "transaction clone for ") ∷
    ("Tn", behind_words 3 (item.Encoding ∷ []) "non-transaction clone for " "non-transaction clone for ") ∷ []

unfoldable pub g_special_of : List ℕ → Option Row
g_special_of bytes = row g_specials bytes

abbrev pub special_of : List ℕ → Option Row
special_of bytes =
    if begins (codes "T") bytes then t_special_of (drop 1 bytes) else
    if begins (codes "G") bytes then g_special_of (drop 1 bytes) else None

-- words in front of the tree of an item in parentheses, behind a code of two letters
abbrev pub enclosed_by : String → List Item → Row
enclosed_by words items = made (maker.Enclosing Primary) words items

-- <decltype> ::= Dt <expression> E
--            ::= DT <expression> E
abbrev pub decltype_row : Row
decltype_row =
    record (behind_words 2 (item.Expression ∷ item.E ∷ []) "decltype" "decltype ") { maker = maker.Enclosing Primary }

-- words behind the tree of an item, behind a code of two letters
abbrev pub followed_by : String → List Item → Row
followed_by words items = made maker.Suffixed words items

-- <builtin-type> ::= DB <number> _ | DB <expression> _ | DU <number> _ | DU <expression> _
--                ::= Dk <type-constraint> | DK <type-constraint>
-- <type-constraint> ::= <name>
-- <class-enum-type> ::= Ts <name> | Tu <name> | Te <name>
abbrev pub type_rows : List (String × Row)
type_rows =
    ("Dt", decltype_row) ∷
    ("DT", decltype_row) ∷
    ("DB", enclosed_by "_BitInt" (item.Size ∷ [])) ∷
    ("DU", enclosed_by "unsigned _BitInt" (item.Size ∷ [])) ∷
    ("Dk", followed_by " auto" (item.Name ∷ [])) ∷
    ("DK", followed_by " decltype(auto)" (item.Name ∷ [])) ∷
    ("Ts", behind "struct " (item.Name ∷ [])) ∷
    ("Tu", behind "union " (item.Name ∷ [])) ∷
    ("Te", behind "enum " (item.Name ∷ [])) ∷ []

unfoldable pub type_row_of : List ℕ → Option Row
type_row_of bytes = row type_rows bytes

-- DC <source-name>+ E
abbrev pub bindings_row : Row
bindings_row = made maker.Bindings "" (item.SourceName ∷ item.SourceNames ∷ [])

-- DO <expression> E
abbrev pub computed_noexcept_row : Row
computed_noexcept_row = enclosed_by "noexcept" (item.Expression ∷ item.E ∷ [])

-- a tree that nothing is made of, behind a code of so many letters
abbrev pub same_row : ℕ → List Item → Row
same_row skip items = record (made maker.Same "" items) { skip = skip }

-- X <expression> E
abbrev pub expression_arg_row : Row
expression_arg_row = same_row 1 (item.Expression ∷ item.E ∷ [])

-- _Z <encoding> E | LZ <encoding> E
abbrev pub encoding_row : Row
encoding_row = same_row 2 (item.Encoding ∷ item.E ∷ [])

-- Items.

abbrev pub parse_number_size : Parses Tree
parse_number_size = do
  number ← parse_digits
  make_name number

-- <number> | <expression>
abbrev pub parse_size_inside : Productions → Parses Tree
parse_size_inside p = if_bytes begins_digit parse_number_size p.expression

-- <number> _ | <expression> _: the size of an array, of a vector or of an integer
unfoldable pub parse_size : Productions → Parses Tree
parse_size p = do
  size ← parse_size_inside p
  expect "_"
  pure size

-- the object of a function
abbrev pub parse_object : Productions → Parses Tree
parse_object p = do
  t ← p.type false
  make (prefixed (codes "this ") (codes "this ") t Primary)

-- the tree of an item
unfoldable pub tree_as : Productions → Item → Parses Tree
tree_as p item.Type = p.type false
tree_as p item.Name = name_tree p
tree_as p item.Arg = p.arg
tree_as p item.ConstrainedArg = parse_constrained_arg p
tree_as p item.Encoding = p.encoding
tree_as p item.Param = if_next "v" refused (p.type false)
tree_as p item.BareType = p.type true
tree_as p item.Object = parse_object p
tree_as p item.Expression = p.expression
tree_as p item.Braced = p.braced
tree_as p item.Requirement = parse_requirement p
tree_as p item.SourceName = parse_source_name
tree_as p item.Module = parse_module
tree_as p item.TemplateParam = parse_template_param
tree_as p item.FunctionParam = parse_function_param
tree_as p item.Size = parse_size p
tree_as p other = refused

unfoldable pub ends : End → List ℕ → Bool
ends end.E = is_e
ends end.Encoding = is_params_end
ends end.Lambda = is_lambda_end
ends end.Function = is_function_end
ends end.Underscore = begins (codes "_")

-- items up to an end, after others
abbrev pub list_after : Productions → Item → End → List Tree → Parses (List Tree)
list_after p item end trees = items_after trees (ends end) (tree_as p item)

-- items up to an `E`, which is read, after others
abbrev pub rest_after : Productions → Item → List Tree → Parses (List Tree)
rest_after p item trees = do
  more ← list_after p item end.E trees
  expect "E"
  pure more

-- _ <expression>* E
abbrev pub parse_operands : Productions → List Tree → Parses (List Tree)
parse_operands p trees = do
  past 1
  rest_after p item.Expression trees

abbrev pub parse_optional_number : Parses (List ℕ)
parse_optional_number = of_bytes optional_number_text

abbrev pub skip_number : Parses (Unit {0})
skip_number = do
  parse_optional_number
  pure tt

-- the tree of an item after others, or the trees of a list; of an item that is skipped there is none
unfoldable pub item_as : Productions → List Tree → Item → Parses (List Tree)
item_as p trees item.Expressions = rest_after p item.Expression trees
item_as p trees item.Braces = rest_after p item.Braced trees
item_as p trees item.Args = rest_after p item.Arg trees
item_as p trees item.SourceNames = rest_after p item.SourceName trees
item_as p trees item.Operands =
    if_next "_" (parse_operands p trees) (item_more (tree_as p item.Expression) trees)
item_as p trees item.Offset = do parse_offset; pure trees
item_as p trees item.CallOffset = do parse_call_offset; pure trees
item_as p trees item.SeqId = do parse_temporary_id; pure trees
item_as p trees item.Number = do skip_number; pure trees
item_as p trees item.E = do expect "E"; pure trees
item_as p trees other = item_more (tree_as p other) trees

-- the trees of items, after others
unfoldable pub parse_items : Productions → List Tree → List Item → Parses (List Tree)
parse_items p trees [] = pure trees
parse_items p trees (item ∷ items) = do
  more ← item_as p trees item
  parse_items p more items

-- Trees.

-- `sizeof...` of a pattern
abbrev pub make_pattern_count : Tree → Parses Tree
make_pattern_count t = do
  pattern ← make (expansion t)
  make (count false pattern)

abbrev pub make_listed : List Tree → Parses Tree
make_listed ts = make (listed (trees_from_list ts))

-- `sizeof...` of arguments
abbrev pub make_args_count : List Tree → Parses Tree
make_args_count ts = do
  args ← make_listed ts
  make (count true args)

-- what is made of no tree, of one, of two or of three
unfoldable pub make_none : Maker → Styled → Parses Tree
make_none maker.Name words = make_name words.llvm
make_none other words = refused

unfoldable pub make_one : Maker → Styled → Tree → Parses Tree
make_one maker.Same words t = pure t
make_one maker.Prefixed words t = make (prefixed words.llvm words.gnu t Primary)
make_one maker.Unary words t = make (prefixed words.llvm words.gnu t Unary)
make_one (maker.Enclosing prec) words t = make (enclosing words.llvm words.gnu t prec)
make_one maker.Suffixed words t = make (suffixed t words.llvm words.gnu)
make_one (maker.Prefix prec) words a = make (prefix_op words.llvm a prec)
make_one maker.Postfix words a = make (postfix_op a words.llvm)
make_one maker.Expansion words t = make (expansion t)
make_one maker.CountPattern words t = make_pattern_count t
make_one maker.CountPack words t = make (count true t)
make_one (maker.Fold is_left) words e = make (fold is_left words.llvm e None)
make_one other words t = refused

unfoldable pub make_two : Maker → Styled → Tree → Tree → Parses Tree
make_two maker.CtorVtable words whole part = make (ctor_vtable part whole)
make_two (maker.Binary prec) words a b = make (binary a words.llvm b prec)
make_two (maker.Member prec) words a b = make (member a words.llvm b prec)
make_two maker.Subscript words a index = make (subscript a index)
make_two maker.NamedCast words t e = make (named_cast words.llvm t e)
make_two (maker.Designated is_index) words d e = make (designated d e is_index)
make_two (maker.FoldWith true) words init e = make (fold true words.llvm e (Some init))
make_two (maker.FoldWith false) words e init = make (fold false words.llvm e (Some init))
make_two other words a b = refused

unfoldable pub make_three : Maker → Styled → Tree → Tree → Tree → Parses Tree
make_three maker.Conditional words a b c = make (conditional a b c)
make_three maker.DesignatedRange words a b e = make (designated_range a b e)
make_three other words a b c = refused

unfoldable pub make_few : Maker → Styled → List Tree → Parses Tree
make_few maker words [] = make_none maker words
make_few maker words (a ∷ []) = make_one maker words a
make_few maker words (a ∷ b ∷ []) = make_two maker words a b
make_few maker words (a ∷ b ∷ c ∷ []) = make_three maker words a b c
make_few maker words more = refused

-- a tree, and a list of those behind it
abbrev pub make_behind : (Tree → Trees → Tree) → List Tree → Parses Tree
make_behind tree_of [] = refused
make_behind tree_of (t ∷ ts) = make (tree_of t (trees_from_list ts))

abbrev pub converted : Prec → Tree → Trees → Tree
converted prec t es = conversion t es prec

abbrev pub make_init_list : List Tree → Parses Tree
make_init_list es = make (init_list None (trees_from_list es))

abbrev pub make_bindings : List Tree → Parses Tree
make_bindings names = make (bindings (trees_from_list names))

abbrev pub typed_init_list : Tree → Trees → Tree
typed_init_list t es = init_list (Some t) es

-- what is made of trees
unfoldable pub make_as : Maker → Styled → List Tree → Parses Tree
make_as (maker.Conversion prec) words trees = make_behind (converted prec) trees
make_as maker.Call words trees = make_behind call trees
make_as maker.TypedInitList words trees = make_behind typed_init_list trees
make_as maker.InitList words trees = make_init_list trees
make_as maker.Bindings words trees = make_bindings trees
make_as maker.CountArgs words trees = make_args_count trees
make_as other words trees = make_few other words trees

-- a row
unfoldable pub parse_row : Productions → Row → Parses Tree
parse_row p row = do
  past row.skip
  trees ← parse_items p [] row.items
  make_as row.maker row.words trees

-- the row of a table whose code is next
abbrev pub parse_row_of : (List ℕ → Option Row) → Productions → Parses Tree
parse_row_of row_of p = do
  bytes ← look
  row ← given (row_of bytes)
  parse_row p row

-- a row, or otherwise another parser
abbrev pub row_or : Productions → Option Row → Parses Tree → Parses Tree
row_or p None otherwise = otherwise
row_or p (Some row) otherwise = parse_row p row

-- the row of a table whose code is next, or otherwise another parser
abbrev pub parse_row_or : (List ℕ → Option Row) → Productions → Parses Tree → Parses Tree
parse_row_or row_of p otherwise s = row_or p (row_of s.rest) otherwise s

-- Lists.

-- items up to an `E`, which is read, behind n letters
unfoldable pub parse_list : Productions → ℕ → Item → Parses Trees
parse_list p n item = do
  past n
  trees ← list_after p item end.E []
  expect "E"
  pure (trees_from_list trees)

-- types up to an end, of which the first one is an item of its own
abbrev pub parse_some_params : Productions → Item → End → Parses (List Tree)
parse_some_params p first end = do
  t ← tree_as p first
  list_after p item.Type end (t ∷ [])

-- v | <type>+, up to an end
unfoldable pub parse_params : Productions → Item → End → Parses (List Tree)
parse_params p first end = do
  is_void ← optional "v"
  if is_void then pure [] else parse_some_params p first end
