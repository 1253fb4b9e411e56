-- The cases of names (Itanium C++ ABI 5.1.2). Of several cases the first one that fits holds.
use Rattle.std.specs.Prelude.{ℕ, List, Bool, true, false, ◌&&◌, ◌||◌, drop, codes, if◌then◌else◌, is_some}
use Rattle.demangle_quals.specs.declared.quals.Quals.{Quals}
use Rattle.demangle_quals.specs.Quals.{no_quals}
use Rattle.abi_scalars.specs.Bytes.{letter, begins, begins_between, begins_digit, past_letter}
use Rattle.itanium_syntax.specs.Operators.{operator_here}
use Rattle.itanium_syntax.specs.Cases.{NameCase, NestedName, LocalName, UnscopedName, UnscopedCase, StdName, SubstitutionName, PlainName, FirstSegmentCase}
use Rattle.itanium_syntax.specs.Cases.{TemplateParamFirst, StdFirst, SubstitutionFirst, NameFirst, SegmentCase}
use Rattle.itanium_syntax.specs.Cases.{EndOfSegments, ArgsSegment, NameSegment, UnqualifiedCase, ConstructorName}
use Rattle.itanium_syntax.specs.Cases.{DestructorName, OrdinaryName, OrdinaryCase, SourceName, UnnamedTypeName, LambdaName}
use Rattle.itanium_syntax.specs.Cases.{ConversionName, LiteralOperatorName, OperatorName, UnreadableName, TagCase, NoTag}
use Rattle.itanium_syntax.specs.Cases.{NextTag, SubstitutionCase, AbbreviationSubstitution, ComponentSubstitution}
use Rattle.itanium_syntax.specs.Types.{cv_quals, past_cv, with_reference, past_reference}

-- <name>
abbrev pub name_case : List ℕ → NameCase
name_case bytes =
    if begins (codes "N") bytes then NestedName else
    if begins (codes "Z") bytes then LocalName else UnscopedName

-- <unscoped-name>, or a <substitution> for a template's name
abbrev pub unscoped_case : List ℕ → UnscopedCase
unscoped_case bytes =
    if begins (codes "St") bytes then StdName else
    if begins (codes "S") bytes then SubstitutionName else PlainName

-- the first segment of a <nested-name>
abbrev pub first_segment_case : List ℕ → FirstSegmentCase
first_segment_case bytes =
    if begins (codes "T") bytes then TemplateParamFirst else
    if begins (codes "St") bytes then StdFirst else
    if begins (codes "S") bytes then SubstitutionFirst else NameFirst

-- whether the first segment of a <nested-name> is saved: all but `St` and a substitution are
abbrev pub first_segment_is_candidate : FirstSegmentCase → Bool
first_segment_is_candidate StdFirst = false
first_segment_is_candidate SubstitutionFirst = false
first_segment_is_candidate first = true

-- a later segment of a <nested-name>, or its end
abbrev pub segment_case : List ℕ → SegmentCase
segment_case bytes =
    if begins (codes "E") bytes then EndOfSegments else
    if begins (codes "I") bytes then ArgsSegment else NameSegment

-- C1 to C5 of <ctor-dtor-name>
abbrev pub begins_constructor : List ℕ → Bool
begins_constructor bytes = begins (codes "C") bytes && begins_between "1" "5" (drop 1 bytes)

-- D0, D1, D2, D4 and D5 of <ctor-dtor-name>
abbrev pub begins_destructor : List ℕ → Bool
begins_destructor bytes =
    begins (codes "D") bytes && (begins_between "0" "2" (drop 1 bytes) || begins_between "4" "5" (drop 1 bytes))

-- an <unqualified-name> that is no <ctor-dtor-name>, so it needs no parent. `UnreadableName`: there is none
abbrev pub ordinary_case : List ℕ → OrdinaryCase
ordinary_case bytes =
    if begins_between "1" "9" bytes then SourceName else
    if begins (codes "Ut") bytes then UnnamedTypeName else
    if begins (codes "Ul") bytes then LambdaName else
    if begins (codes "cv") bytes then ConversionName else
    if begins (codes "li") bytes then LiteralOperatorName else
    if is_some (operator_here bytes) then OperatorName else UnreadableName

-- <unqualified-name>: constructors and destructors have a parent
abbrev pub unqualified_case : Bool → List ℕ → UnqualifiedCase
unqualified_case in_parent bytes =
    if in_parent && begins_constructor bytes then ConstructorName else
    if in_parent && begins_destructor bytes then DestructorName else
    OrdinaryName

-- an <abi-tag>, or `NoTag`: the tags have ended
abbrev pub tag_case : List ℕ → TagCase
tag_case bytes = if begins (codes "B") bytes && begins_digit (drop 1 bytes) then NextTag else NoTag

-- <substitution> after its S: a letter of std, or a number
abbrev pub substitution_case : List ℕ → SubstitutionCase
substitution_case bytes = if begins_between "a" "z" bytes then AbbreviationSubstitution else ComponentSubstitution

-- past the L of an internal name, which a digit follows
abbrev pub past_internal : List ℕ → List ℕ
past_internal bytes = if begins (codes "L") bytes && begins_digit (drop 1 bytes) then drop 1 bytes else bytes

-- past the M of a data member's initializer
abbrev pub past_initializer_letter : List ℕ → List ℕ
past_initializer_letter bytes = past_letter (letter "M") bytes

-- the qualifiers of a <nested-name>; one with an explicit object parameter, H, has none
abbrev pub name_quals : List ℕ → Quals
name_quals bytes = if begins (codes "H") bytes then no_quals else with_reference (cv_quals bytes) (past_cv bytes)

-- what is after the qualifiers of a <nested-name>
abbrev pub past_name_quals : List ℕ → List ℕ
past_name_quals bytes = if begins (codes "H") bytes then drop 1 bytes else past_reference (past_cv bytes)
