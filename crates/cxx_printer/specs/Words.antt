-- Words that are printed, and the environment of a printing.
use Prim.Native.String.{String}
use Rattle.std.specs.Prelude.{ℕ, nat_eq, Bool, true, false, ◌&&◌, ◌||◌, not, List, [], ◌∷◌, ◌++◌, codes, if◌then◌else◌, slice_index}
use Rattle.cxx_tree.specs.declared.kinds.Context.{Context}
use Rattle.cxx_tree.specs.declared.kinds.Context.TheVariants as context
use Rattle.cxx_tree.specs.declared.kinds.Cv.{Cv}
use Rattle.cxx_tree.specs.declared.kinds.Guard.{Guard}
use Rattle.cxx_tree.specs.declared.kinds.Guard.TheVariants as guard
use Rattle.cxx_tree.specs.declared.kinds.RefQual.{RefQual}
use Rattle.cxx_tree.specs.declared.kinds.RefQual.TheVariants as refqual
use Rattle.cxx_tree.specs.declared.kinds.Std.{Std}
use Rattle.cxx_tree.specs.declared.kinds.Std.TheVariants as std
use Rattle.cxx_printer.specs.declared.env.Env.{Env}
use Rattle.cxx_printer.specs.declared.env.Style.{Style}
use Rattle.cxx_printer.specs.declared.env.Style.TheVariants.{Llvm, Gnu, GnuShort}
use Rattle.cxx_printer.specs.declared.shapes.Ending.{Ending}
use Rattle.cxx_printer.specs.declared.shapes.Ending.TheVariants.{Less, Greater, Other}
use Rattle.cxx_printer.specs.declared.words.Form.{Form}
use Rattle.cxx_printer.specs.declared.words.Form.TheVariants.{Plain, Arrayed, Callable}

abbrev pub llvm_style : Style → Bool
llvm_style Llvm = true
llvm_style style = false

abbrev pub is_llvm : Env → Bool
is_llvm env = llvm_style env.style

-- at the top of a tree
abbrev pub top : Style → Env
top style = record { style = style; pack = 0; angle = false }

-- in parentheses or brackets
abbrev pub enclosed : Env → Env
enclosed env = record { style = env.style; pack = env.pack; angle = false }

-- in angle brackets
abbrev pub in_angle : Env → Env
in_angle env = record { style = env.style; pack = env.pack; angle = true }

-- at an element of the packs around
abbrev pub at : Env → ℕ → Env
at env element = record { style = env.style; pack = element; angle = env.angle }

abbrev pub in_context : Env → Context → Env
in_context env context.Same = env
in_context env context.Enclosed = enclosed env
in_context env context.Angle = in_angle env

-- a phrase with this guard stands in parentheses
abbrev pub is_guarded : Env → Guard → Bool
is_guarded env guard.Greater = env.angle || not (is_llvm env)
is_guarded env guard.Shift = env.angle && is_llvm env
is_guarded env g = false

-- around the parts of a phrase with this guard
abbrev pub within : Env → Guard → Env
within env guard.Enclosed = enclosed env
within env g = if is_guarded env g then enclosed env else env

-- of two texts the one of the style
abbrev pub styled : Env → List ℕ → List ℕ → List ℕ
styled env llvm gnu = if is_llvm env then llvm else gnu

-- the byte of a character
abbrev pub byte : String → ℕ
byte text = slice_index (codes text) 0

abbrev pub ending_of_byte : ℕ → Ending
ending_of_byte b = if nat_eq b (byte "<") then Less else (if nat_eq b (byte ">") then Greater else Other)

-- how a text ends
unfoldable pub ending : List ℕ → Ending
ending [] = Other
ending (b ∷ []) = ending_of_byte b
ending (b ∷ c ∷ bs) = ending (c ∷ bs)

-- abbreviations of std, not written out
unfoldable pub short_std_text : Std → List ℕ
short_std_text std.Allocator = codes "std::allocator"
short_std_text std.BasicString = codes "std::basic_string"
short_std_text std.String = codes "std::string"
short_std_text std.Istream = codes "std::istream"
short_std_text std.Ostream = codes "std::ostream"
short_std_text std.Iostream = codes "std::iostream"

-- written out. The closing brackets are given
unfoldable pub long_std_text : List ℕ → Std → List ℕ
long_std_text close std.String = codes "std::basic_string<char, std::char_traits<char>, std::allocator<char" ++ close
long_std_text close std.Istream = codes "std::basic_istream<char, std::char_traits<char" ++ close
long_std_text close std.Ostream = codes "std::basic_ostream<char, std::char_traits<char" ++ close
long_std_text close std.Iostream = codes "std::basic_iostream<char, std::char_traits<char" ++ close
long_std_text close k = short_std_text k

-- an abbreviation of std. The flag says that LLVM's style and GNU's short one write it out
unfoldable pub std_text : Style → Std → Bool → List ℕ
std_text Llvm k expanded = if expanded then long_std_text (codes ">>") k else short_std_text k
std_text Gnu k expanded = long_std_text (codes "> >") k
std_text GnuShort k expanded = if expanded then long_std_text (codes "> >") k else short_std_text k

unfoldable pub cv_text : Cv → List ℕ
cv_text cv =
    (if cv.is_const then codes " const" else [])
    ++ ((if cv.is_volatile then codes " volatile" else []) ++ (if cv.is_restrict then codes " restrict" else []))

unfoldable pub ref_text : RefQual → List ℕ
ref_text refqual.None = []
ref_text refqual.Lvalue = codes " &"
ref_text refqual.Rvalue = codes " &&"

-- the mark of a reference
unfoldable pub mark : Bool → List ℕ
mark lvalue = if lvalue then codes "&" else codes "&&"

-- before the mark of a pointer or a reference to a type of this form
unfoldable pub opened : Form → List ℕ
opened Plain = []
opened Arrayed = codes " ("
opened Callable = codes "("

-- before the class of a pointer to a member of this form
unfoldable pub member_opened : Style → Form → List ℕ
member_opened style Plain = codes " "
member_opened style Arrayed = if llvm_style style then codes "(" else codes " ("
member_opened style Callable = codes "("

-- after the mark or the class
unfoldable pub closed : Form → List ℕ
closed Plain = []
closed form = codes ")"
