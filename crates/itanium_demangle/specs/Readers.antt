-- How the parser of a production agrees with the grammar. A reader's clause `reads` says what it reads by that parser.
-- With the laws here it says what it reads of trees.
use Rattle.std.specs.Prelude.{◌≡◌, ◌≤◌, ℕ, Bool, true, false, List, map, length, Some, None}
use Rattle.demangle_text.specs.Shape.{Shape}
use Rattle.demangle_edit.specs.Lists.{arguments_shape}
use Rattle.demangle_quals.specs.declared.quals.Quals.{Quals}
use Rattle.itanium_syntax.specs.declared.context.Context.{Context}
use Rattle.itanium_syntax.specs.Args.{argument_case}
use Rattle.itanium_syntax.specs.Expressions.{primary_case}
use Rattle.itanium_syntax.specs.Encodings.{encoding_case}
use Rattle.itanium_syntax.specs.Specials.{special_case}
use Rattle.itanium_grammar.specs.Tree.{Tree, shape_of, bare_shape, own_quals, printing}
use Rattle.itanium_grammar.specs.Grammar.{Position, Cost, Name, EncodingAs, SpecialAs, Thunk, SymbolName, Args, ArgumentAs}
use Rattle.itanium_grammar.specs.Cases.{EncodingEnd, AfterName}
use Rattle.itanium_grammar.specs.Grammar.{Pack, PrimaryAs, Expression, TypeOf}
use Rattle.itanium_grammar.specs.Answer.{max_text}
use Rattle.itanium_reader.specs.Parser.{ParserState, Parses, parse_bare_name, parse_name, parse_encoding, parse_special}
use Rattle.itanium_reader.specs.Parser.{parse_thunk, parse_args, parse_argument, parse_pack}
use Rattle.itanium_reader.specs.Parser.{parse_primary, parse_expression, parse_type}
use Rattle.itanium_demangle.specs.Meaning.{state_at, HasReading, HasNoReading}

-- the parser agrees with the grammar, from every position of trees and for all counts before. R are the readings that
-- it may return. N are those that can't exist if it returns `None`: all of R, or only those that `Narrow` selects
pub record IsParserOf {T A : Type 0} (R N : Position → T → Position → Cost → Type 0) (show : T → A) (depth : ℕ)
    (parse : Parses A) : Type 0 where
  -- what the parser returns is a reading R within the limits, and every other such reading agrees with it
  pub reads :
      (p : Position) (entered most_saved : ℕ) (found : A) (after : ParserState)
      → parse (state_at p entered most_saved) ≡ Some (found, after)
      → HasReading (R p) show depth entered most_saved found after
  -- if the parser returns `None`, no reading N within the limits exists
  pub none :
      (p : Position) (entered most_saved : ℕ)
      → parse (state_at p entered most_saved) ≡ None
      → HasNoReading (N p) depth

-- a reading R whose tree prints at most `max_text` bytes. An uncounted production is covered only so far: if its parser
-- returns `None`, a reading that prints more may exist
abbrev pub Narrow : (Position → Tree → Position → Cost → Type 0) → Position → Tree → Position → Cost → Type 0
Narrow R p t q c = R p t q c × (length (printing t) ≤ max_text)

-- the shape of a name without its own qualifiers, and these
abbrev pub bare_of : Tree → Shape × Quals
bare_of t = (bare_shape t, own_quals t)

-- the shape of a list of arguments
abbrev pub shape_of_args : List Tree → Shape
shape_of_args ts = arguments_shape (map shape_of ts)

-- <encoding>, by how it ends and what it begins with
abbrev pub Encoding : EncodingEnd → Context → Position → Tree → Position → Cost → Type 0
Encoding end x p = EncodingAs (encoding_case end p.rest) x p

-- <special-name>, by what it begins with
abbrev pub SpecialName : Context → Position → Tree → Position → Cost → Type 0
SpecialName x p = SpecialAs (special_case p.rest) x p

-- <template-arg>, by what it begins with
abbrev pub Argument : Context → Position → Tree → Position → Cost → Type 0
Argument x p = ArgumentAs (argument_case p.rest) x p

-- <expr-primary>, by what it begins with
abbrev pub Primary : Context → Position → Tree → Position → Cost → Type 0
Primary x p = PrimaryAs (primary_case p.rest) x p

-- each parser agrees with the grammar, in every context and for every depth
pub record LawsOfReaders : Type 0 where
  -- <name> without its own qualifiers, which wait for the parameters of an encoding
  pub bare_names :
      (depth : ℕ) (x : Context)
      → IsParserOf (Name true x) (Name true x) bare_of depth (parse_bare_name depth x)
  -- <name>
  pub names :
      (depth : ℕ) (x : Context)
      → IsParserOf (Name false x) (Name false x) shape_of depth (parse_name depth x)
  -- <encoding>
  pub encodings :
      (depth : ℕ) (end : EncodingEnd) (x : Context)
      → IsParserOf (Encoding end x) (Narrow (Encoding end x)) shape_of depth (parse_encoding depth end x)
  -- <special-name>
  pub special_names :
      (depth : ℕ) (x : Context)
      → IsParserOf (SpecialName x) (SpecialName x) shape_of depth (parse_special depth x)
  -- T <call-offset> <encoding> | T c <call-offset> <call-offset> <encoding>
  pub thunks :
      (depth : ℕ) (x : Context)
      → IsParserOf (Thunk x) (Thunk x) shape_of depth (parse_thunk depth x)
  -- what follows the prefix of a symbol
  pub symbols :
      (depth : ℕ) (x : Context)
      → IsParserOf (SymbolName x) (SymbolName x) shape_of depth (parse_encoding depth AfterName x)
  -- <template-args>, those of a name or others
  pub lists :
      (depth : ℕ) (x : Context) (of_name : Bool)
      → IsParserOf (Args of_name x) (Args of_name x) shape_of_args depth (parse_args depth x of_name)
  -- <template-arg>
  pub arguments :
      (depth : ℕ) (x : Context)
      → IsParserOf (Argument x) (Narrow (Argument x)) shape_of depth (parse_argument depth x)
  -- <template-arg> ::= J <template-arg>* E
  pub packs :
      (depth : ℕ) (x : Context)
      → IsParserOf (Pack x) (Pack x) shape_of depth (parse_pack depth x)
  -- <expr-primary>: a literal, or an external name
  pub primaries :
      (depth : ℕ) (x : Context)
      → IsParserOf (Primary x) (Narrow (Primary x)) shape_of depth (parse_primary depth x)
  -- <expression>
  pub expressions :
      (depth : ℕ) (x : Context)
      → IsParserOf (Expression x) (Expression x) shape_of depth (parse_expression depth x)
  -- <type>
  pub types :
      (depth : ℕ) (x : Context)
      → IsParserOf (TypeOf x) (TypeOf x) shape_of depth (parse_type depth x)
