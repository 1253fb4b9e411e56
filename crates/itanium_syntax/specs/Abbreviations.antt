-- The abbreviations of std (Itanium C++ ABI 5.1.10, "Compression").
use Rattle.std.specs.Prelude.{ℕ, List, codes, Option, Some, None, if◌then◌else◌}
use Rattle.abi_scalars.specs.Bytes.{begins}
use Rattle.itanium_syntax.specs.declared.abbreviations.Abbreviation.{Abbreviation}
use Rattle.itanium_syntax.specs.declared.abbreviations.Abbreviation.TheVariants.{Allocator, BasicString, StdString, Istream, Ostream, Iostream}

-- which name the letter stands for that is next
abbrev pub abbreviation_of : List ℕ → Option Abbreviation
abbreviation_of bytes =
    if begins (codes "a") bytes then Some Allocator else
    if begins (codes "b") bytes then Some BasicString else
    if begins (codes "s") bytes then Some StdString else
    if begins (codes "i") bytes then Some Istream else
    if begins (codes "o") bytes then Some Ostream else
    if begins (codes "d") bytes then Some Iostream else None

-- what is printed, as the Rust crate itanium-demangle prints it: `Si` and `Sd` in full, and `So` as `std::ostream`
abbrev pub abbreviation_text : Abbreviation → List ℕ
abbreviation_text Allocator = codes "std::allocator"
abbreviation_text BasicString = codes "std::basic_string"
abbreviation_text StdString = codes "std::string"
abbreviation_text Istream = codes "std::basic_istream<char, std::char_traits<char> >"
abbreviation_text Ostream = codes "std::ostream"
abbreviation_text Iostream = codes "std::basic_iostream<char, std::char_traits<char> >"

-- the base name, which stands after std::
abbrev pub abbreviation_own : Abbreviation → List ℕ
abbreviation_own Allocator = codes "allocator"
abbreviation_own BasicString = codes "basic_string"
abbreviation_own StdString = codes "string"
abbreviation_own Istream = codes "basic_istream"
abbreviation_own Ostream = codes "ostream"
abbreviation_own Iostream = codes "basic_iostream"
