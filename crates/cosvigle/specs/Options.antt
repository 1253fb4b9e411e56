-- What arguments ask. Options stand as those of `c++filt` do: letters in a group, and names that may be shortened.
use Rattle.std.specs.Prelude.{◌≡◌, ℕ, ◌+◌, ◌*◌, ◌-◌, ◌/◌, min, List, [], ◌∷◌, ◌++◌, Bool, true, false, ◌&&◌, ◌||◌, ◌==◌, Option, Some, None, codes, map, length, take, drop, if◌then◌else◌}
use Rattle.std.specs.Borrow.{Bor}
use Rattle.abi_scalars.specs.Bytes.{is, is_digit, one_of, begins}
use Rattle.cosvigle.specs.declared.options.Flags.{Flags}
use Rattle.cosvigle.specs.declared.options.EarlyExit.{EarlyExit}
use Rattle.cosvigle.specs.declared.options.EarlyExit.TheVariants as instead
use Rattle.cosvigle.specs.declared.options.Valued.{Valued}
use Rattle.cosvigle.specs.declared.options.Valued.TheVariants as valued
use Rattle.cosvigle.specs.declared.options.OptionState.{OptionState}
use Rattle.cosvigle.specs.declared.options.OptionState.TheVariants.{Ready, NeedsValue, Exit}
use Rattle.cosvigle.specs.declared.options.Kind.{Kind}
use Rattle.cosvigle.specs.declared.options.Kind.TheVariants.{End, Name, Letters, Symbol}
use Rattle.cosvigle.specs.declared.options.Request.{Request}
use Rattle.cosvigle.specs.declared.options.Request.TheVariants.{Symbols, Stopped}
use Rattle.cosvigle_engine.specs.declared.reader.Printing.{Printing}
use Rattle.cxx_printer.specs.declared.symbol.Mode.{Mode}
use Rattle.cxx_printer.specs.declared.symbol.Mode.TheVariants as mode
use Rattle.cxx_printer.specs.declared.env.Style.{Style}
use Rattle.cxx_printer.specs.declared.env.Style.TheVariants.{Llvm, Gnu, GnuShort}
use Rattle.cosvigle.specs.declared.option_names.Found.{Found}
use Rattle.cosvigle.specs.declared.option_names.Found.TheVariants.{Nothing, Prefix, Several, Exact}
use Rattle.cosvigle.specs.declared.option_names.LongOption.{LongOption}
use Rattle.cosvigle.specs.declared.option_names.LongOption.TheVariants as long

-- the texts are the same
abbrev pub same : List ℕ → List ℕ → Bool
same [] [] = true
same [] (b ∷ bytes) = false
same (c ∷ word) [] = false
same (c ∷ word) (b ∷ bytes) = (b == c) && same word bytes

-- flags with another one
abbrev pub with_strip : Bool → Flags → Flags
with_strip on flags = record flags { strip = on }

abbrev pub with_lines : Bool → Flags → Flags
with_lines on flags = record flags { lines = on }

abbrev pub with_pass_through : Bool → Flags → Flags
with_pass_through on flags = record flags { pass_through = on }

abbrev pub with_types : Bool → Flags → Flags
with_types on flags = record flags { types = on }

abbrev pub with_name : Bool → Flags → Flags
with_name on flags = record flags { name = on }

abbrev pub with_no_return : Bool → Flags → Flags
with_no_return on flags = record flags { no_return = on }

abbrev pub with_style : Style → Flags → Flags
with_style style flags = record flags { style = style }

abbrev pub with_brief : Bool → Flags → Flags
with_brief on flags = record flags { brief = on }

abbrev pub with_memory : ℕ → Flags → Flags
with_memory bytes flags = record flags { memory = Some bytes }

-- how much of a declaration is printed: the name where parameters are left out, and else the return type too unless it
-- is left out
abbrev pub mode_of : Flags → Mode
mode_of flags = if flags.name then mode.Name else if flags.no_return then mode.Signature else mode.Declaration

-- the style of declarations: in GNU's style the abbreviations of `std` are written out, unless they are to stay
abbrev pub style_with : Style → Bool → Style
style_with Llvm brief = Llvm
style_with Gnu brief = if brief then GnuShort else Gnu
style_with GnuShort brief = GnuShort

abbrev pub style_of : Flags → Style
style_of flags = style_with flags.style flags.brief

-- how many nodes may be kept in so many bytes of memory: 256 bytes are counted for a node
abbrev pub limit_of : Option ℕ → Option ℕ
limit_of (Some bytes) = Some (bytes / 256)
limit_of None = None

-- what is read, and what is printed of it
abbrev pub printing_of : Flags → Printing
printing_of flags = record {
  types = flags.types;
  part = record { mode = mode_of flags; style = style_of flags; limit = limit_of flags.memory };
}

-- what a format asks for
abbrev pub after_format : Flags → List ℕ → OptionState
after_format flags format =
    if same (codes "auto") format || same (codes "gnu-v3") format then Ready (with_pass_through false flags) else
    if same (codes "none") format then Ready (with_pass_through true flags) else
    Exit instead.UnknownFormat

-- what a style asks for
abbrev pub after_style : Flags → List ℕ → OptionState
after_style flags style =
    if same (codes "llvm") style then Ready (with_style Llvm flags) else
    if same (codes "gnu") style then Ready (with_style Gnu flags) else
    if same (codes "gnu-short") style then Ready (with_style GnuShort flags) else
    Exit instead.UnknownStyle

-- the number that decimal digits stand for, after those that were read. One past the greatest is the greatest.
abbrev pub number_from : ℕ → List ℕ → Option ℕ
number_from number [] = Some number
number_from number (byte ∷ digits) =
    if is_digit byte then number_from (min (10 * number + (byte - 48)) 18446744073709551615) digits else None

abbrev pub number_of : List ℕ → Option ℕ
number_of digits = number_from 0 digits

-- what a number of bytes asks for, which isn't 0
abbrev pub with_number : Flags → Option ℕ → OptionState
with_number flags None = Exit instead.NoNumber
with_number flags (Some number) = if number == 0 then Exit instead.NoNumber else Ready (with_memory number flags)

abbrev pub after_memory : Flags → List ℕ → OptionState
after_memory flags digits = with_number flags (number_of digits)

-- what the value of an option asks for
abbrev pub after_value : Flags → Valued → List ℕ → OptionState
after_value flags valued.Format value = after_format flags value
after_value flags valued.Style value = after_style flags value
after_value flags valued.MaxMemory value = after_memory flags value

-- what the option with a letter asks for
abbrev pub after_letter : Flags → ℕ → OptionState
after_letter flags letter =
    if is "_" letter then Ready (with_strip true flags) else
    if is "n" letter then Ready (with_strip false flags) else
    if is "l" letter then Ready (with_lines true flags) else
    if is "p" letter then Ready (with_name true flags) else
    if is "t" letter then Ready (with_types true flags) else
    if is "i" letter then Ready (with_brief true flags) else
    if one_of (codes "rR") letter then Ready flags else
    if is "s" letter then NeedsValue flags valued.Format else
    if is "h" letter then Exit instead.Help else
    if is "v" letter then Exit instead.Version else
    Exit instead.UnknownOption

-- what an option without a letter asks for
abbrev pub after_long_option : Flags → LongOption → OptionState
after_long_option flags long.MaxMemory = NeedsValue flags valued.MaxMemory
after_long_option flags long.NoReturn = Ready (with_no_return true flags)
after_long_option flags long.Style = NeedsValue flags valued.Style

-- what letters ask for, after what has been read: what follows one that takes a value is that value
abbrev pub letters : OptionState → List ℕ → OptionState
letters (Ready flags) [] = Ready flags
letters (Ready flags) (b ∷ bytes) = letters (after_letter flags b) bytes
letters (NeedsValue flags option) [] = NeedsValue flags option
letters (NeedsValue flags option) (b ∷ bytes) = after_value flags option (b ∷ bytes)
letters (Exit stop) bytes = Exit stop

-- an argument with `-`, and letters after it
abbrev pub after_letters : Flags → List ℕ → OptionState
after_letters flags argument = letters (Ready flags) (drop 1 argument)

-- one more option whose name begins with the bytes
abbrev pub with_match : Found → ℕ → Found
with_match Nothing letter = Prefix letter
with_match (Prefix first) letter = if first == letter then Prefix first else Several
with_match Several letter = Several
with_match (Exact first) letter = Exact first

-- an option's name, and the option's letter
abbrev pub match_name : Found → List ℕ → List ℕ → ℕ → Found
match_name found bytes name letter =
    if begins bytes name then (if length name == length bytes then Exact letter else with_match found letter) else found

-- the options with a letter whose names begin with the bytes: a whole name counts alone
abbrev pub find_option : List ℕ → Found
find_option bytes =
    match_name (match_name (match_name (match_name (match_name (match_name
    (match_name (match_name (match_name (match_name (match_name (match_name (match_name Nothing
    bytes (codes "strip-underscore") 95)
    bytes (codes "no-strip-underscores") 110)
    bytes (codes "no-params") 112)
    bytes (codes "no-verbose") 105)
    bytes (codes "no-recurse-limit") 114)
    bytes (codes "no-recursion-limit") 114)
    bytes (codes "recurse-limit") 82)
    bytes (codes "recursion-limit") 82)
    bytes (codes "types") 116)
    bytes (codes "format") 115)
    bytes (codes "lines") 108)
    bytes (codes "help") 104)
    bytes (codes "version") 118

-- the option without a letter whose name begins with the bytes. No two of these names begin alike.
abbrev pub find_long_option : List ℕ → Option LongOption
find_long_option bytes =
    if begins bytes (codes "max-memory") then Some long.MaxMemory else
    if begins bytes (codes "no-return") then Some long.NoReturn else
    if begins bytes (codes "style") then Some long.Style else None

-- how many bytes stand before the first `=`
abbrev pub name_len : List ℕ → ℕ
name_len [] = 0
name_len (b ∷ bytes) = if is "=" b then 0 else 1 + name_len bytes

-- what an option asks for that is given a value
abbrev pub with_value : OptionState → List ℕ → OptionState
with_value (NeedsValue flags option) value = after_value flags option value
with_value (Ready flags) value = Exit instead.UnexpectedValue
with_value (Exit by) value = Exit instead.UnexpectedValue

-- what an option asks for, where so many bytes are its name, and after a `=` the others are its value
abbrev pub after_named : OptionState → ℕ → List ℕ → OptionState
after_named state len bytes = if len == length bytes then state else with_value state (drop (len + 1) bytes)

-- what the option without a letter asks for, if there is one
abbrev pub after_long : Flags → Option LongOption → ℕ → List ℕ → OptionState
after_long flags (Some option) len bytes = after_named (after_long_option flags option) len bytes
after_long flags None len bytes = Exit instead.UnknownOption

-- what the option found asks for. One without a letter counts where no name of one with a letter begins so.
abbrev pub after_found : Flags → Found → ℕ → List ℕ → OptionState
after_found flags Nothing len bytes = after_long flags (find_long_option (take len bytes)) len bytes
after_found flags Several len bytes = Exit instead.AmbiguousOption
after_found flags (Prefix letter) len bytes = after_named (after_letter flags letter) len bytes
after_found flags (Exact letter) len bytes = after_named (after_letter flags letter) len bytes

-- what follows `--`: a name, and a value after `=`
abbrev pub after_name : Flags → List ℕ → OptionState
after_name flags bytes = after_found flags (find_option (take (name_len bytes) bytes)) (name_len bytes) bytes

-- the argument begins with `-`, and isn't that alone
abbrev pub begins_option : List ℕ → Bool
begins_option [] = false
begins_option (byte ∷ []) = false
begins_option (byte ∷ next ∷ bytes) = is "-" byte

-- what an argument is that is no option's value
abbrev pub kind_of : List ℕ → Kind
kind_of argument =
    if same (codes "--") argument then End else
    if begins (codes "--") argument then Name else
    if begins_option argument then Letters else Symbol

-- what has been read of arguments
pub data State : Type 0 where
  -- options and symbols: what the former choose, the latter, and the argument that was read last, if it was an option's
  reading : OptionState → List (List ℕ) → List ℕ → State
  -- `--`, and all that follows is a symbol
  ended : Flags → List (List ℕ) → State
  -- what stops the reading, and the argument that does
  stopped : EarlyExit → List ℕ → State

-- one argument more, of this kind, after these flags
abbrev pub of_kind : Kind → Flags → List (List ℕ) → List ℕ → List ℕ → State
of_kind End flags symbols last argument = ended flags symbols
of_kind Name flags symbols last argument = reading (after_name flags (drop 2 argument)) symbols argument
of_kind Letters flags symbols last argument = reading (after_letters flags argument) symbols argument
of_kind Symbol flags symbols last argument = reading (Ready flags) (symbols ++ argument ∷ []) last

-- one argument more
abbrev pub next : State → List ℕ → State
next (reading (Ready flags) symbols last) argument = of_kind (kind_of argument) flags symbols last argument
next (reading (NeedsValue flags option) symbols last) argument =
    reading (after_value flags option argument) symbols argument
next (reading (Exit stop) symbols last) argument = stopped stop last
next (ended flags symbols) argument = ended flags (symbols ++ argument ∷ [])
next (stopped stop last) argument = stopped stop last

-- all arguments
abbrev pub read : State → List (List ℕ) → State
read state [] = state
read state (argument ∷ arguments) = read (next state argument) arguments

-- the part of a path after its last slash, or after `from` if there is none
abbrev pub past_slashes : List ℕ → List ℕ → List ℕ
past_slashes from [] = from
past_slashes from (byte ∷ path) = past_slashes (if is "/" byte then path else from) path

abbrev pub base_name : List ℕ → List ℕ
base_name path = past_slashes path path

-- no option: the style is LLVM's if the program is called as `llvm-cxxfilt`, and else GNU's
abbrev pub flags_of : List ℕ → Flags
flags_of program = record {
  strip = false;
  lines = false;
  pass_through = false;
  types = false;
  name = false;
  no_return = false;
  style = if begins (codes "llvm-cxxfilt") (base_name program) then Llvm else Gnu;
  brief = false;
  memory = None;
}

-- the bytes of texts
abbrev pub texts : List (Bor (List ℕ)) → List (List ℕ)
texts arguments = map (λ argument. argument.now) arguments

-- what is asked after these were read
abbrev pub AsksFor : State → Request → Type 0
AsksFor (reading (Ready flags) symbols last) (Symbols chosen given) = (chosen ≡ flags) × (texts given.items ≡ symbols)
AsksFor (reading (NeedsValue flags option) symbols last) (Stopped by argument) =
    (by ≡ instead.MissingValue) × (argument.now ≡ last)
AsksFor (reading (Exit stop) symbols last) (Stopped by argument) = (by ≡ stop) × (argument.now ≡ last)
AsksFor (ended flags symbols) (Symbols chosen given) = (chosen ≡ flags) × (texts given.items ≡ symbols)
AsksFor (stopped stop last) (Stopped by argument) = (by ≡ stop) × (argument.now ≡ last)
AsksFor (reading (Ready flags) symbols last) (Stopped by argument) = ⊥
AsksFor (reading (NeedsValue flags option) symbols last) (Symbols chosen given) = ⊥
AsksFor (reading (Exit stop) symbols last) (Symbols chosen given) = ⊥
AsksFor (ended flags symbols) (Stopped by argument) = ⊥
AsksFor (stopped stop last) (Symbols chosen given) = ⊥

-- all arguments of a program, and what they ask
abbrev pub IsRequest : List ℕ → List (List ℕ) → Request → Type 0
IsRequest program arguments request = AsksFor (read (reading (Ready (flags_of program)) [] []) arguments) request
