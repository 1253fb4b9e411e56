-- The texts of qualifiers, references and pointers.
use Rattle.std.specs.Prelude.{ℕ, List, [], ◌++◌, codes, Bool, false, ◌||◌, if◌then◌else◌, Option, Some, None, is_some}
use Rattle.demangle_quals.specs.declared.quals.Quals.{Quals}
use Rattle.demangle_quals.specs.declared.quals.Reference.{Reference}
use Rattle.demangle_quals.specs.declared.quals.Pointer.{Pointer}
use Rattle.demangle_quals.specs.declared.quals.Pointer.TheVariants.{Star}
use Rattle.demangle_quals.specs.declared.quals.Pointer.TheVariants as pointer
use Rattle.demangle_quals.specs.declared.quals.Reference.TheVariants.{Left, Right}

-- no qualifier is set
abbrev pub no_quals : Quals
no_quals = record { constant = false; volatile = false; restrict = false; reference = None }

-- the words of the qualifiers that are set
abbrev pub words_text : Quals → List ℕ
words_text q =
    (if q.constant then codes " const" else [])
    ++ ((if q.volatile then codes " volatile" else [])
    ++ (if q.restrict then codes " restrict" else []))

-- a reference qualifier, with a space in front
abbrev pub reference_text : Option Reference → List ℕ
reference_text None = []
reference_text (Some Left) = codes " &"
reference_text (Some Right) = codes " &&"

-- the words, and then the reference
abbrev pub quals_text : Quals → List ℕ
quals_text q = words_text q ++ reference_text q.reference

-- whether any qualifier is set
abbrev pub has_quals : Quals → Bool
has_quals q = q.constant || q.volatile || q.restrict || is_some q.reference

-- the token of a pointer or a reference
abbrev pub pointer_text : Pointer → List ℕ
pointer_text Star = codes "*"
pointer_text pointer.Left = codes "&"
pointer_text pointer.Right = codes "&&"
