-- What the calls from C write.
use Rattle.std.specs.Prelude.{ℕ, List, [], Bool, Option, Some, None}
use Rattle.cxx_tree.specs.Tree.{Tree}
use Rattle.cxx_printer.specs.Parts.{base_name_text, context_text, parameters_text, return_type_text}
use Rattle.cxx_printer.specs.declared.env.Style.{Style}
use Rattle.cxx_demangle.specs.Parts.{part_of}
use Rattle.cosvigle_engine.specs.Printed.{IsAnswer, IsPrintedAs}
use Rattle.cosvigle_engine.specs.declared.reader.Printing.{Printing}
use Rattle.text_filter.specs.Printed.{ReplaceOptions}
use Rattle.text_filter.specs.Filtered.{IsAnswered}
use Rattle.text_filter.specs.Replaced.{IsReplaced}
use Rattle.cosvigle_c.specs.Capacity.{Fills, IsShort}
use Rattle.cosvigle_c.specs.Numbers.{printing_of, piece_of}
use Rattle.cosvigle_c.specs.declared.numbers.Piece.{Piece}
use Rattle.cosvigle_c.specs.declared.numbers.Piece.TheVariants as piece

-- symbols in words are replaced by what is printed for them
abbrev pub by_printing : Bool → Printing → ReplaceOptions
by_printing strip printing = record { strip = strip; all = printing.types; printing = IsPrintedAs printing }

-- what is printed for the symbol is written
pub record WritesAnswer (printing : Printing) (symbol old new : List ℕ) (needed : ℕ) : Type 0 where
  pub text : List ℕ
  pub answer : IsAnswer printing symbol (Some text)
  pub fills : Fills text old new needed

-- the capacity is too small for what is printed for the symbol
pub record LacksCapacity (printing : Printing) (symbol old new : List ℕ) (needed : ℕ) : Type 0 where
  pub text : List ℕ
  pub answer : IsAnswer printing symbol (Some text)
  pub short : IsShort text old new needed

-- the filtered text of the lines is written
pub record WritesLines (printing : Printing) (lines old new : List ℕ) (needed : ℕ) : Type 0 where
  pub text : List ℕ
  pub filtered : IsAnswered (IsPrintedAs printing) lines text
  pub fills : Fills text old new needed

-- the replaced text of the bytes is written
pub record WritesWords (strip : Bool) (printing : Printing) (bytes old new : List ℕ) (needed : ℕ) : Type 0 where
  pub text : List ℕ
  pub replaced : IsReplaced (by_printing strip printing) bytes text
  pub fills : Fills text old new needed

-- the capacity is too small for the filtered text of the lines, which is kept
pub record KeepsLines (printing : Printing) (lines old new : List ℕ) (needed : ℕ) (kept : List ℕ) : Type 0 where
  pub filtered : IsAnswered (IsPrintedAs printing) lines kept
  pub short : IsShort kept old new needed

-- the capacity is too small for the replaced text of the bytes, which is kept
pub record KeepsWords (strip : Bool) (printing : Printing) (bytes old new : List ℕ) (needed : ℕ)
    (kept : List ℕ) : Type 0 where
  pub replaced : IsReplaced (by_printing strip printing) bytes kept
  pub short : IsShort kept old new needed

-- the text of a part of a tree
abbrev pub piece_text : Piece → Style → Option Tree → List ℕ
piece_text piece.BaseName style tree = part_of base_name_text style tree
piece_text piece.Context style tree = part_of context_text style tree
piece_text piece.Parameters style tree = part_of parameters_text style tree
piece_text piece.ReturnType style tree = part_of return_type_text style tree

-- the part and the style that a call asks for
abbrev pub asked_piece : Option Piece → Option Printing → Option (Piece × Style)
asked_piece (Some p) (Some printing) = Some (p, printing.part.style)
asked_piece (Some p) None = None
asked_piece None printing = None

abbrev pub asked_part : ℕ → ℕ → Option (Piece × Style)
asked_part part flags = asked_piece (piece_of part) (printing_of flags)

-- its text
abbrev pub asked_text : Option (Piece × Style) → Option Tree → List ℕ
asked_text (Some asked) tree = piece_text asked.0 asked.1 tree
asked_text None tree = []

abbrev pub part_text : ℕ → ℕ → Option Tree → List ℕ
part_text part flags tree = asked_text (asked_part part flags) tree
