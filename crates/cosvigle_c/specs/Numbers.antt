-- What the numbers of a call from C ask for.
use Rattle.std.specs.Prelude.{ℕ, ◌/◌, ◌%◌, ◌==◌, ℤ, pos, Bool, true, false, Option, Some, None, if◌then◌else◌}
use Rattle.cosvigle_engine.specs.declared.reader.Printing.{Printing}
use Rattle.cxx_printer.specs.declared.symbol.Mode.{Mode}
use Rattle.cxx_printer.specs.declared.symbol.Mode.TheVariants as mode
use Rattle.cxx_printer.specs.declared.env.Style.{Style}
use Rattle.cxx_printer.specs.declared.env.Style.TheVariants as style
use Rattle.cxx_printer.specs.declared.parts.Kind.{Kind}
use Rattle.cxx_printer.specs.declared.parts.Kind.TheVariants as kind
use Rattle.cosvigle_c.specs.declared.numbers.Piece.{Piece}
use Rattle.cosvigle_c.specs.declared.numbers.Piece.TheVariants as piece

-- how much of a declaration is printed: all of it, all but its return type, or the name alone
abbrev pub mode_of : ℕ → Option Mode
mode_of number =
    if number == 0 then Some mode.Declaration else
    if number == 1 then Some mode.Signature else
    if number == 2 then Some mode.Name else
    None

-- the style
abbrev pub style_of : ℕ → Option Style
style_of number =
    if number == 0 then Some style.Gnu else
    if number == 1 then Some style.GnuShort else
    if number == 2 then Some style.Llvm else
    None

-- whether what is no symbol is read as a type
abbrev pub types_of : ℕ → Option Bool
types_of number = if number == 0 then Some false else if number == 1 then Some true else None

-- all three, without a limit
abbrev pub printing_with : Option Mode → Option Style → Option Bool → Option Printing
printing_with (Some m) (Some s) (Some types) =
    Some (record { types = types; part = record { mode = m; style = s; limit = None } })
printing_with (Some m) (Some s) None = None
printing_with (Some m) None types = None
printing_with None s types = None

-- what a sum of flags asks for: the two lowest bits are the mode, the next two the style, and the fifth asks for types
abbrev pub printing_of : ℕ → Option Printing
printing_of flags = printing_with (mode_of (flags % 4)) (style_of (flags / 4 % 4)) (types_of (flags / 16))

-- the same printing with this limit
abbrev pub within : Printing → Option ℕ → Printing
within printing limit = record {
  types = printing.types;
  part = record { mode = printing.part.mode; style = printing.part.style; limit = limit };
}

-- how many nodes may be kept in so many bytes of memory: 256 bytes are counted for a node, and 0 is the default
abbrev pub limit_of : ℕ → Option ℕ
limit_of bytes = if bytes == 0 then None else Some (bytes / 256)

-- a part of a symbol
abbrev pub piece_of : ℕ → Option Piece
piece_of number =
    if number == 0 then Some piece.BaseName else
    if number == 1 then Some piece.Context else
    if number == 2 then Some piece.Parameters else
    if number == 3 then Some piece.ReturnType else
    None

-- what a symbol stands for
abbrev pub number_of : Option Kind → ℤ
number_of None = pos 0
number_of (Some kind.Function) = pos 1
number_of (Some kind.Data) = pos 2
number_of (Some kind.Special) = pos 3
