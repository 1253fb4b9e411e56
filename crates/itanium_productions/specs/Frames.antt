-- What is read in a frame of its own, and the words around it.
use Rattle.std.specs.Prelude.{ℕ, List, Some}
use Rattle.itanium_syntax.specs.declared.context.Context.{Context}
use Rattle.itanium_grammar.specs.Tree.{worded_shape}
use Rattle.demangle_text.specs.Shape.{Shape}
use Rattle.itanium_reader.specs.Parser.{Parses, ◌>>=◌, parse_type, parse_name, parse_expression, operand_by}
use Rattle.itanium_productions.specs.declared.frames.Framed.{Framed}
use Rattle.itanium_productions.specs.declared.frames.Framed.TheVariants.{FramedType, FramedName}
use Rattle.itanium_productions.specs.declared.frames.Framed.TheVariants.{FramedExpression, FramedOperand}

-- what is read in the frame
abbrev pub parse_framed : Framed → ℕ → Context → Parses Shape
parse_framed FramedType d x s = parse_type d x s
parse_framed FramedName d x s = parse_name d x s
parse_framed FramedExpression d x s = parse_expression d x s
parse_framed FramedOperand d x s = operand_by (parse_expression d x) s

-- words in front of what is read, and after it
abbrev pub parse_between : List ℕ → Parses Shape → List ℕ → Parses Shape
parse_between words parse close s = parse s >>= λ found. Some (worded_shape words found.0 close, found.1)
