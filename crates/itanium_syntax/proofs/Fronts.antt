-- Fronts of the bytes: what each scalar and each case takes.
use Rattle.std.proofs.Common.{◌≡◌, ◌<◌, ℕ, ◌+◌, Bool, true, false, List, [], ◌∷◌, length, drop, refl}
use Rattle.std.proofs.Common.{sym, ap, arith, Option, Some, None, length-drop, if◌then◌else◌, nat_lt, ◌&&◌}
use Rattle.std.proofs.Common.{codes, ◌-◌}
use Rattle.std.specs.Prelude.{◌==◌, ◌||◌, option_map}
use Rattle.std.proofs.lemmas.List.{take_all}
use Rattle.std.proofs.lemmas.Grind.{common_steps}
use Rattle.std.proofs.lemmas.Option.{cond_some, option_and_then_some, some_pair_parts, same_Some}
use Rattle.demangle_quals.specs.declared.quals.Pointer.{Pointer}
use Rattle.itanium_syntax.specs.declared.abbreviations.Abbreviation.{Abbreviation}
use Rattle.abi_scalars.specs.declared.numerals.Radix.TheVariants.{Decimal}
use Rattle.itanium_syntax.specs.Abbreviations.{abbreviation_of}
use Rattle.abi_scalars.specs.Bytes.{begins, begins_one_of, past_letter}
use Rattle.itanium_syntax.specs.Cases.{AfterName, SpecialEncoding, NameEncoding, FullEncoding}
use Rattle.itanium_syntax.specs.Cases.{TypeSpecial, NameSpecial, TemporarySpecial, ConstructionSpecial, ThunkSpecial}
use Rattle.itanium_syntax.specs.Cases.{PreExpression, AddressExpression, UnaryExpression, PostExpression}
use Rattle.itanium_syntax.specs.Cases.{BinaryExpression, GreaterExpression, ConditionalExpression, PrimaryExpression}
use Rattle.itanium_syntax.specs.Cases.{ExpressionArgument, PrimaryArgument, StringLiteralEntity, DefaultArgumentEntity}
use Rattle.itanium_syntax.specs.Cases.{NameEntity, ExpansionType, LambdaName, ConversionName, UnnamedTypeName}
use Rattle.itanium_syntax.specs.Cases.{LiteralOperatorName, OperatorName, PackArgument, StdFirst, EndOfSegments}
use Rattle.itanium_syntax.specs.Cases.{ArgsSegment, ConstructorName, DestructorName, ArgsAttached, EndOfArguments}
use Rattle.itanium_syntax.specs.Cases.{BuiltinType, ArrayType, FunctionType, PointerToMemberType, PointerType, CvFunction}
use Rattle.itanium_syntax.specs.Cases.{NoParams, EndOfTypes}
use Rattle.itanium_syntax.specs.Names.{first_segment_case, segment_case, unqualified_case, ordinary_case, past_internal, past_initializer_letter, past_name_quals}
use Rattle.std.specs.Str.{is_utf8}
use Rattle.std.specs.Prelude.{take}
use Rattle.itanium_syntax.specs.Expressions.{value_len, literal_value, expression_case}
use Rattle.itanium_syntax.specs.declared.offsets.Signed.{Signed}
use Rattle.itanium_syntax.specs.declared.offsets.CallOffset.{CallOffset}
use Rattle.itanium_syntax.specs.declared.offsets.CallOffset.TheVariants.{Plain, Virtual}
use Rattle.itanium_syntax.specs.declared.offsets.ThunkOffsets.{ThunkOffsets}
use Rattle.itanium_syntax.specs.declared.offsets.ThunkOffsets.TheVariants.{Single, Covariant}
use Rattle.itanium_syntax.specs.Offsets.{with_sign, signed_number, signed_part, virtual_offset, call_offset, covariant_offsets, thunk_offsets, past_base_offset}
use Rattle.itanium_syntax.specs.Specials.{special_case}
use Rattle.itanium_syntax.specs.Encodings.{entity_case, begins_special, encoding_case}
use Rattle.itanium_syntax.specs.Args.{attached_case, argument_list_case, argument_case}
use Rattle.itanium_syntax.specs.Types.{type_case, type_list_case, cv_case, params_case, past_builtin, past_cv, past_reference}
use Rattle.itanium_syntax.specs.Operators.{operator_here}
use Rattle.itanium_syntax.specs.Numbers.{ordinal, optional_number}
use Rattle.abi_scalars.specs.Scalars.{numeral, number, index_of}
pub use Rattle.abi_scalars.proofs.Fronts.{IsAfter, Takes, after_none, after_drop, after_then, after-le, takes_then, after_takes}
pub use Rattle.abi_scalars.proofs.Fronts.{takes_takes, takes_drop, letter_after, source_takes, index_takes}
use Rattle.abi_scalars.proofs.Fronts.{end_of, if_after, numeral_takes, number_takes, ended_takes, following_takes, optional_takes}

pub internal_after : (bytes : List ℕ) → IsAfter (past_internal bytes) bytes
internal_after bytes = if_after _ 1 bytes

pub initializer_after : (bytes : List ℕ) → IsAfter (past_initializer_letter bytes) bytes
initializer_after bytes = letter_after 77 bytes

pub cv_after : (bytes : List ℕ) → IsAfter (past_cv bytes) bytes
cv_after bytes = after_then (letter_after 114 bytes) (after_then (letter_after 86 _) (letter_after 75 _))

pub quals_after : (bytes : List ℕ) → IsAfter (past_name_quals bytes) bytes
quals_after bytes = go (begins (72 ∷ []) bytes)
  where
    go : (t : Bool) → IsAfter (if t then drop 1 bytes else past_reference (past_cv bytes)) bytes
    go true = after_drop 1 bytes
    go false = after_then (cv_after bytes) (if_after _ 1 _)

pub std_shorter : (bytes : List ℕ) → first_segment_case bytes ≡ StdFirst → length (drop 2 bytes) < length bytes
std_shorter [] e = cc
std_shorter (b ∷ bytes) _ = (takes_drop 2 (b ∷ bytes) (omega arith) (omega arith)).shorter

pub segments_end_shorter : (bytes : List ℕ) → segment_case bytes ≡ EndOfSegments → length (drop 1 bytes) < length bytes
segments_end_shorter [] e = cc
segments_end_shorter (b ∷ bytes) _ = omega arith

pub arguments_end_shorter : (bytes : List ℕ) → argument_list_case bytes ≡ EndOfArguments → length (drop 1 bytes) < length bytes
arguments_end_shorter [] e = cc
arguments_end_shorter (b ∷ bytes) _ = omega arith

-- a list has its I
pub attached_some : (bytes : List ℕ) → attached_case bytes ≡ ArgsAttached → 0 < length bytes
attached_some [] e = cc
attached_some (b ∷ bytes) _ = omega arith

pub segment_args_some : (bytes : List ℕ) → segment_case bytes ≡ ArgsSegment → 0 < length bytes
segment_args_some [] e = cc
segment_args_some (b ∷ bytes) _ = omega arith

past_builtin_shorter : (bytes : List ℕ) → 0 < length bytes → length (past_builtin bytes) < length bytes
past_builtin_shorter bytes some = go (begins (codes "D") bytes)
  where
    go : (t : Bool) → length (if t then drop 2 bytes else drop 1 bytes) < length bytes
    go true = (takes_drop 2 bytes (omega arith) some).shorter
    go false = (takes_drop 1 bytes (omega arith) some).shorter

pub builtin_shorter : (bytes : List ℕ) → type_case bytes ≡ BuiltinType → length (past_builtin bytes) < length bytes
builtin_shorter [] e = cc
builtin_shorter (b ∷ bytes) _ = past_builtin_shorter (b ∷ bytes) (omega arith)

pub builtin_after : (bytes : List ℕ) → IsAfter (past_builtin bytes) bytes
builtin_after bytes = go (begins (codes "D") bytes)
  where
    go : (t : Bool) → IsAfter (if t then drop 2 bytes else drop 1 bytes) bytes
    go true = after_drop 2 bytes
    go false = after_drop 1 bytes

pub abbreviation_takes : (bytes : List ℕ) (known : Abbreviation) → abbreviation_of bytes ≡ Some known → Takes (drop 1 bytes) bytes
abbreviation_takes [] known e = cc
abbreviation_takes (b ∷ bytes) known _ = takes_drop 1 (b ∷ bytes) (omega arith) (omega arith)

pub constructor_some : (bytes : List ℕ) → unqualified_case true bytes ≡ ConstructorName → 0 < length bytes
constructor_some [] e = cc
constructor_some (b ∷ bytes) _ = omega arith

pub destructor_some : (bytes : List ℕ) → unqualified_case true bytes ≡ DestructorName → 0 < length bytes
destructor_some [] e = cc
destructor_some (b ∷ bytes) _ = omega arith

pub types_end_some : (in_function_type : Bool) (bytes : List ℕ) → type_list_case in_function_type bytes ≡ EndOfTypes → 0 < length bytes
types_end_some true [] e = cc
types_end_some false [] e = cc
types_end_some in_function_type (b ∷ bytes) _ = omega arith

-- these types have a letter of their own
pub array_some : (bytes : List ℕ) → type_case bytes ≡ ArrayType → 0 < length bytes
array_some [] e = cc
array_some (b ∷ bytes) _ = omega arith

pub member_some : (bytes : List ℕ) → type_case bytes ≡ PointerToMemberType → 0 < length bytes
member_some [] e = cc
member_some (b ∷ bytes) _ = omega arith

pub function_some : (bytes : List ℕ) → type_case bytes ≡ FunctionType → 0 < length bytes
function_some [] e = cc
function_some (b ∷ bytes) _ = omega arith

pub pointer_some : (bytes : List ℕ) (kind : Pointer) → type_case bytes ≡ PointerType kind → 0 < length bytes
pointer_some [] kind e = cc
pointer_some (b ∷ bytes) kind _ = omega arith

pub cv_function_some : (bytes : List ℕ) → cv_case bytes ≡ CvFunction → 0 < length bytes
cv_function_some [] e = cc
cv_function_some (b ∷ bytes) _ = omega arith

pub no_params_some : (bytes : List ℕ) → params_case bytes ≡ NoParams → 0 < length bytes
no_params_some [] e = cc
no_params_some (b ∷ bytes) _ = omega arith

-- qualifiers have a letter
pub cv_shorter : (bytes : List ℕ) → begins_one_of (codes "rVK") bytes ≡ true → length (past_cv bytes) < length bytes
cv_shorter [] e = cc
cv_shorter (b ∷ bytes) e = go (b == 114) (b == 86) (b == 75) refl refl refl e
  where
    go : (r v k : Bool) → (b == 114) ≡ r → (b == 86) ≡ v → (b == 75) ≡ k → (r || (v || (k || false))) ≡ true → length (past_cv (b ∷ bytes)) < length (b ∷ bytes)
    go true v k er ev ek h = rw er (omega (arith, after-le (after_then (letter_after 86 bytes) (letter_after 75 (past_letter 86 bytes)))))
    go false true k er ev ek h = rw (er, ev) (omega (arith, after-le (letter_after 75 bytes)))
    go false false true er ev ek h = rw (er, ev, ek) (omega arith)
    go false false false er ev ek h = cc

-- these names have a letter
pub lambda_some : (bytes : List ℕ) → ordinary_case bytes ≡ LambdaName → 0 < length bytes
lambda_some [] e = cc
lambda_some (b ∷ bytes) _ = omega arith

pub conversion_some : (bytes : List ℕ) → ordinary_case bytes ≡ ConversionName → 0 < length bytes
conversion_some [] e = cc
conversion_some (b ∷ bytes) _ = omega arith

pub unnamed_type_some : (bytes : List ℕ) → ordinary_case bytes ≡ UnnamedTypeName → 0 < length bytes
unnamed_type_some [] e = cc
unnamed_type_some (b ∷ bytes) _ = omega arith

pub literal_operator_some : (bytes : List ℕ) → ordinary_case bytes ≡ LiteralOperatorName → 0 < length bytes
literal_operator_some [] e = cc
literal_operator_some (b ∷ bytes) _ = omega arith

pub operator_some : (bytes : List ℕ) → ordinary_case bytes ≡ OperatorName → 0 < length bytes
operator_some [] e = cc
operator_some (b ∷ bytes) _ = omega arith

pub pack_some : (bytes : List ℕ) → argument_case bytes ≡ PackArgument → 0 < length bytes
pack_some [] e = cc
pack_some (b ∷ bytes) _ = omega arith

pub expansion_some : (bytes : List ℕ) → type_case bytes ≡ ExpansionType → 0 < length bytes
expansion_some [] e = cc
expansion_some (b ∷ bytes) _ = omega arith

-- what follows an encoding has its E
pub string_literal_some : (bytes : List ℕ) → entity_case bytes ≡ StringLiteralEntity → 0 < length bytes
string_literal_some [] e = cc
string_literal_some (b ∷ bytes) _ = omega arith

pub default_argument_some : (bytes : List ℕ) → entity_case bytes ≡ DefaultArgumentEntity → 0 < length bytes
default_argument_some [] e = cc
default_argument_some (b ∷ bytes) _ = omega arith

pub entity_some : (bytes : List ℕ) → entity_case bytes ≡ NameEntity → 0 < length bytes
entity_some [] e = cc
entity_some (b ∷ bytes) _ = omega arith

pub ruleset entities_some = (string_literal_some, default_argument_some, entity_some)

-- these expressions have a byte
pub pre_some : (bytes : List ℕ) → expression_case bytes ≡ PreExpression → 0 < length bytes
pre_some [] e = cc
pre_some (b ∷ bytes) _ = omega arith

pub address_some : (bytes : List ℕ) → expression_case bytes ≡ AddressExpression → 0 < length bytes
address_some [] e = cc
address_some (b ∷ bytes) _ = omega arith

pub unary_some : (bytes : List ℕ) → expression_case bytes ≡ UnaryExpression → 0 < length bytes
unary_some [] e = cc
unary_some (b ∷ bytes) _ = omega arith

pub post_some : (bytes : List ℕ) → expression_case bytes ≡ PostExpression → 0 < length bytes
post_some [] e = cc
post_some (b ∷ bytes) _ = omega arith

pub binary_some : (bytes : List ℕ) → expression_case bytes ≡ BinaryExpression → 0 < length bytes
binary_some [] e = cc
binary_some (b ∷ bytes) _ = omega arith

pub greater_some : (bytes : List ℕ) → expression_case bytes ≡ GreaterExpression → 0 < length bytes
greater_some [] e = cc
greater_some (b ∷ bytes) _ = omega arith

pub conditional_some : (bytes : List ℕ) → expression_case bytes ≡ ConditionalExpression → 0 < length bytes
conditional_some [] e = cc
conditional_some (b ∷ bytes) _ = omega arith

pub primary_some : (bytes : List ℕ) → expression_case bytes ≡ PrimaryExpression → 0 < length bytes
primary_some [] e = cc
primary_some (b ∷ bytes) _ = omega arith

pub ruleset expressions_some = (pre_some, address_some, unary_some, post_some, binary_some, greater_some, conditional_some, primary_some)

pub expression_argument_some : (bytes : List ℕ) → argument_case bytes ≡ ExpressionArgument → 0 < length bytes
expression_argument_some [] e = cc
expression_argument_some (b ∷ bytes) _ = omega arith

pub literal_argument_some : (bytes : List ℕ) → argument_case bytes ≡ PrimaryArgument → 0 < length bytes
literal_argument_some [] e = cc
literal_argument_some (b ∷ bytes) _ = omega arith

pub ruleset arguments_some = (expression_argument_some, literal_argument_some)

-- these special names have a byte
pub type_special_some : (bytes : List ℕ) → special_case bytes ≡ TypeSpecial → 0 < length bytes
type_special_some [] e = cc
type_special_some (b ∷ bytes) _ = omega arith

pub name_special_some : (bytes : List ℕ) → special_case bytes ≡ NameSpecial → 0 < length bytes
name_special_some [] e = cc
name_special_some (b ∷ bytes) _ = omega arith

pub temporary_some : (bytes : List ℕ) → special_case bytes ≡ TemporarySpecial → 0 < length bytes
temporary_some [] e = cc
temporary_some (b ∷ bytes) _ = omega arith

pub construction_some : (bytes : List ℕ) → special_case bytes ≡ ConstructionSpecial → 0 < length bytes
construction_some [] e = cc
construction_some (b ∷ bytes) _ = omega arith

pub thunk_some : (bytes : List ℕ) → special_case bytes ≡ ThunkSpecial → 0 < length bytes
thunk_some [] e = cc
thunk_some (b ∷ bytes) _ = omega arith

-- an encoding that ends after its name has a name alone
pub alone_after_name : (bytes : List ℕ) → encoding_case AfterName bytes ≡ FullEncoding → ⊥
alone_after_name bytes is = go (begins_special bytes) is
  where
    go : (special : Bool) → (if special then SpecialEncoding else NameEncoding) ≡ FullEncoding → ⊥
    go true e = cc
    go false e = cc

pub ruleset specials_some = (type_special_some, name_special_some, temporary_some, construction_some, thunk_some)

pub ruleset names_some = (lambda_some, conversion_some, unnamed_type_some, literal_operator_some, operator_some)

pub ruleset cases = (
  types_end_some,
  pack_some,
  expansion_some,
  array_some,
  member_some,
  function_some,
  pointer_some,
  cv_function_some,
  no_params_some,
  std_shorter,
  segments_end_shorter,
  arguments_end_shorter,
  attached_some,
  segment_args_some,
  builtin_shorter,
)

pub ordinal_takes : (bytes : List ℕ) (found : ℕ × List ℕ) → ordinal bytes ≡ Some found → Takes found.1 bytes
unfolding ordinal
ordinal_takes bytes found e = following_takes (index_of Decimal bytes) bytes found (index_takes Decimal bytes) e

-- a code of an operator is two bytes
pub operator_takes : (bytes text : List ℕ) → operator_here bytes ≡ Some text → Takes (drop 2 bytes) bytes
operator_takes [] text e = cc
operator_takes (a ∷ []) text e = cc
operator_takes (a ∷ b ∷ bytes) text _ = takes_drop 2 (a ∷ b ∷ bytes) (omega arith) (omega arith)

pub optional_number_takes : (bytes : List ℕ) (found : Option ℕ × List ℕ) → optional_number bytes ≡ Some found → Takes found.1 bytes
unfolding optional_number
optional_number_takes bytes found e = optional_takes None (option_map (λ n. (Some n.0, n.1)) (number bytes)) bytes found (λ v. go v (number bytes) refl) e
  where
    go : (v : Option ℕ × List ℕ) (o : Option (ℕ × List ℕ)) → number bytes ≡ o → option_map (λ n. (Some n.0, n.1)) o ≡ Some v → Takes v.1 bytes
    go v None read g = cc
    go v (Some n) read g = let is : n.1 ≡ v.1 = (some_pair_parts (Some n.0) v.0 n.1 v.1 g).1 in rw (← is) (number_takes bytes n read)

pub reference_after : (bytes : List ℕ) → IsAfter (past_reference bytes) bytes
reference_after bytes = if_after _ 1 bytes

pub literal_value_takes : (bytes : List ℕ) (found : List ℕ × List ℕ) → literal_value bytes ≡ Some found → Takes found.1 bytes
unfolding literal_value
literal_value_takes bytes found e =
    let parts = cond_some (nat_lt (value_len bytes) (length bytes) && is_utf8 (take (value_len bytes) bytes)) _ found e in
    let is : drop (value_len bytes + 1) bytes ≡ found.1 = ap (λ (f : List ℕ × List ℕ). f.1) parts.1 in
    let within : value_len bytes < length bytes = grind (arith, common_steps, parts.0) in
    record {
      after = record { count = value_len bytes + 1; is = sym is };
      shorter = omega (arith, ap length is, length-drop (value_len bytes + 1) bytes);
    }

signed_number_takes : (bytes : List ℕ) (found : Signed × List ℕ) → signed_number bytes ≡ Some found → Takes found.1 bytes
signed_number_takes bytes found e = go (begins (codes "n") bytes) e
  where
    numbered : (minus : Bool) (front : List ℕ) (o : Option (ℕ × List ℕ)) → numeral Decimal front ≡ o → option_map (λ n. (with_sign minus n.0, n.1)) o ≡ Some found → Takes found.1 front
    numbered minus front None read g = cc
    numbered minus front (Some n) read g =
        let is : n.1 ≡ found.1 = (some_pair_parts (with_sign minus n.0) found.0 n.1 found.1 g).1 in
        rw (← is) (numeral_takes Decimal front n read)

    go : (b : Bool) → option_map (λ n. (with_sign b n.0, n.1)) (numeral Decimal (if b then drop 1 bytes else bytes)) ≡ Some found → Takes found.1 bytes
    go true f = after_takes (after_drop 1 bytes) (numbered true (drop 1 bytes) (numeral Decimal (drop 1 bytes)) refl f)
    go false f = numbered false bytes (numeral Decimal bytes) refl f

signed_part_takes : (bytes : List ℕ) (found : Signed × List ℕ) → signed_part bytes ≡ Some found → Takes found.1 bytes
signed_part_takes bytes found e = ended_takes (signed_number bytes) bytes found (signed_number_takes bytes) e

plain_offset_takes : (bytes : List ℕ) (found : CallOffset × List ℕ) → option_map (λ a. (Plain a.0, a.1)) (signed_part bytes) ≡ Some found → Takes found.1 bytes
plain_offset_takes bytes found e = go (signed_part bytes) refl e
  where
    go : (o : Option (Signed × List ℕ)) → signed_part bytes ≡ o → option_map (λ n. (Plain n.0, n.1)) o ≡ Some found → Takes found.1 bytes
    go None f g = cc
    go (Some n) f g = let is : n.1 ≡ found.1 = (some_pair_parts (Plain n.0) found.0 n.1 found.1 g).1 in rw (← is) (signed_part_takes bytes n f)

virtual_offset_takes : (bytes : List ℕ) (found : CallOffset × List ℕ) → virtual_offset bytes ≡ Some found → Takes found.1 bytes
virtual_offset_takes bytes found e = option_and_then_some _ (signed_part bytes) found e (λ a read more. takes_takes (signed_part_takes bytes a read) (go a (signed_part a.1) refl more))
  where
    go : (a : Signed × List ℕ) (o : Option (Signed × List ℕ)) → signed_part a.1 ≡ o → option_map (λ b. (Virtual a.0 b.0, b.1)) o ≡ Some found → Takes found.1 a.1
    go a None f g = cc
    go a (Some b) f g = let is : b.1 ≡ found.1 = (some_pair_parts (Virtual a.0 b.0) found.0 b.1 found.1 g).1 in rw (← is) (signed_part_takes a.1 b f)

call_offset_takes : (bytes : List ℕ) (found : CallOffset × List ℕ) → call_offset bytes ≡ Some found → Takes found.1 bytes
call_offset_takes bytes found e = go (begins (codes "h") bytes) (begins (codes "v") bytes) e
  where
    go : (h v : Bool) → (if h then option_map (λ a. (Plain a.0, a.1)) (signed_part (drop 1 bytes)) else if v then virtual_offset (drop 1 bytes) else None) ≡ Some found → Takes found.1 bytes
    go true v f = after_takes (after_drop 1 bytes) (plain_offset_takes (drop 1 bytes) found f)
    go false true f = after_takes (after_drop 1 bytes) (virtual_offset_takes (drop 1 bytes) found f)
    go false false f = cc

-- a call offset at a place ends where as many bytes are left as after it
pub offset_at : (bytes rest : List ℕ) (place : ℕ) (offset : CallOffset)
    → Some (offset, rest) ≡ call_offset (take (length bytes - place) (drop place bytes))
    → Some (offset, drop (length bytes - length rest) bytes) ≡ call_offset (drop place bytes)
offset_at bytes rest place offset e =
    let all = take_all (length bytes - place) (drop place bytes) (omega (arith, length-drop place bytes)) in
    let read : Some (offset, rest) ≡ call_offset (drop place bytes) = rw all at e in
    let is = end_of (after_then (after_drop place bytes) (call_offset_takes (drop place bytes) (offset, rest) (sym read)).after) in
    rw (← is) read

covariant_offsets_takes : (bytes : List ℕ) (found : ThunkOffsets × List ℕ) → covariant_offsets bytes ≡ Some found → Takes found.1 bytes
covariant_offsets_takes bytes found e = option_and_then_some _ (call_offset bytes) found e (λ a read more. takes_takes (call_offset_takes bytes a read) (go a (call_offset a.1) refl more))
  where
    go : (a : CallOffset × List ℕ) (o : Option (CallOffset × List ℕ)) → call_offset a.1 ≡ o → option_map (λ b. (Covariant a.0 b.0, b.1)) o ≡ Some found → Takes found.1 a.1
    go a None f g = cc
    go a (Some b) f g = let is : b.1 ≡ found.1 = (some_pair_parts (Covariant a.0 b.0) found.0 b.1 found.1 g).1 in rw (← is) (call_offset_takes a.1 b f)

pub thunk_offsets_after : (bytes : List ℕ) (found : ThunkOffsets × List ℕ) → thunk_offsets bytes ≡ Some found → IsAfter found.1 bytes
unfolding thunk_offsets
thunk_offsets_after bytes found e = go (begins (codes "c") bytes) e
  where
    single : (o : Option (CallOffset × List ℕ)) → call_offset bytes ≡ o → option_map (λ a. (Single a.0, a.1)) o ≡ Some found → Takes found.1 bytes
    single None f g = cc
    single (Some a) f g = let is : a.1 ≡ found.1 = (some_pair_parts (Single a.0) found.0 a.1 found.1 g).1 in rw (← is) (call_offset_takes bytes a f)

    go : (c : Bool) → (if c then covariant_offsets (drop 1 bytes) else option_map (λ a. (Single a.0, a.1)) (call_offset bytes)) ≡ Some found → IsAfter found.1 bytes
    go true f = (after_takes (after_drop 1 bytes) (covariant_offsets_takes (drop 1 bytes) found f)).after
    go false f = (single (call_offset bytes) refl f).after

pub base_offset_takes : (bytes rest : List ℕ) → past_base_offset bytes ≡ Some rest → Takes rest bytes
unfolding past_base_offset
base_offset_takes bytes rest e = go (signed_part bytes) refl e
  where
    go : (o : Option (Signed × List ℕ)) → signed_part bytes ≡ o → option_map (λ n. n.1) o ≡ Some rest → Takes rest bytes
    go None f g = cc
    go (Some n) f g = let is : n.1 ≡ rest = same_Some _ _ g in rw (← is) (signed_part_takes bytes n f)
