-- Answers by computation.
use Rattle.std.proofs.Common.{◌≡◌, ℕ, List, [], ◌∷◌, ◌++◌, Bool, true, false, Option, Some, None, refl, sym, codes}
use Rattle.std.specs.Str.{is_utf8, chars}
use Rattle.std.specs.Fmt.{digits}
use Rattle.std.proofs.lemmas.Str.{IsUtf8-from_is_utf8, is_utf8-from_IsUtf8}
use Rattle.std.specs.Prelude.{option_map}
use Rattle.std.proofs.lemmas.Option.{some_pair_parts}
use Rattle.demangle_text.specs.Shape.{Shape, text}
use Rattle.abi_scalars.specs.Scalars.{front_digits, weighted, number, index_of, source_name}
use Rattle.itanium_syntax.specs.Numbers.{ordinal, optional_number}
use Rattle.itanium_grammar.specs.Answer.{start, initial, max_depth, max_text, IsAnswer}
use Rattle.itanium_grammar.specs.Cases.{AfterName}
use Rattle.abi_scalars.specs.Symbol.{after_prefix, suffix}
use Rattle.itanium_syntax.specs.Expressions.{literal_value}
use Rattle.itanium_syntax.specs.Offsets.{thunk_offsets, past_base_offset}
use Rattle.itanium_reader.specs.Parser.{ParserState, begun, loop, segment_turn, tag_turn, list_turn, typed_turn}
use Rattle.itanium_reader.specs.Parser.{parse_unqualified, parse_substitution, parse_template_param, parse_nested}
use Rattle.itanium_reader.specs.Parser.{parse_bare_name, parse_encoding, parse_local, parse_thunk, parse_special}
use Rattle.itanium_reader.specs.Parser.{parse_primary, parse_expression, parse_argument, parse_name}
use Rattle.itanium_demangle.specs.Examples.{WorkedSymbols, e_acute}
use Rattle.itanium_demangle.proofs.Readers.{symbols}
use Rattle.itanium_demangle.proofs.Symbols.{no_prefix, not_read, printed}

-- what the parser answers for a symbol, and whether it is UTF-8
abbrev answered : Option (Shape × ParserState) → Option (List ℕ × Bool)
answered parsed = option_map (λ r. (text r.0 ++ suffix r.1.rest, is_utf8 (text r.0))) parsed

some_answer : (symbol inside answer : List ℕ) → after_prefix symbol ≡ Some inside → answered (parse_encoding max_depth AfterName initial (begun inside)) ≡ Some (answer, true) → IsAnswer symbol (Some answer)
some_answer symbol inside answer prefix is = go (parse_encoding max_depth AfterName initial (begun inside)) refl is
  where
    go : (o : Option (Shape × ParserState)) → parse_encoding max_depth AfterName initial (begun inside) ≡ o → answered o ≡ Some (answer, true) → IsAnswer symbol (Some answer)
    go None e f = cc
    go (Some (s, after)) e f =
        let parts = some_pair_parts _ _ _ _ f in
        printed symbol inside 0 0 s after (Some answer) prefix ((symbols max_depth initial).reads (start inside) 0 0 s after e) (IsUtf8-from_is_utf8 (text s) parts.1, sym parts.0)

no_reading : (symbol inside : List ℕ) → after_prefix symbol ≡ Some inside → answered (parse_encoding max_depth AfterName initial (begun inside)) ≡ None → IsAnswer symbol None
no_reading symbol inside prefix is = go (parse_encoding max_depth AfterName initial (begun inside)) refl is
  where
    go : (o : Option (Shape × ParserState)) → parse_encoding max_depth AfterName initial (begun inside) ≡ o → answered o ≡ None → IsAnswer symbol None
    go None e f = not_read symbol inside prefix ((symbols max_depth initial).none (start inside) 0 0 e)
    go (Some (s, after)) e f = cc

not_text : (symbol inside answer : List ℕ) → after_prefix symbol ≡ Some inside → answered (parse_encoding max_depth AfterName initial (begun inside)) ≡ Some (answer, false) → IsAnswer symbol None
not_text symbol inside answer prefix is = go (parse_encoding max_depth AfterName initial (begun inside)) refl is
  where
    go : (o : Option (Shape × ParserState)) → parse_encoding max_depth AfterName initial (begun inside) ≡ o → answered o ≡ Some (answer, false) → IsAnswer symbol None
    go None e f = cc
    go (Some (s, after)) e f =
        let parts = some_pair_parts _ _ _ _ f in
        printed symbol inside 0 0 s after None prefix ((symbols max_depth initial).reads (start inside) 0 0 s after e) (λ u. let yes = is_utf8-from_IsUtf8 (text s) u in cc)

pub worked_symbols : WorkedSymbols
unfolding max_text parse_name parse_bare_name parse_encoding parse_local parse_thunk parse_special
    parse_primary parse_expression parse_argument literal_value thunk_offsets past_base_offset parse_nested loop
    segment_turn tag_turn list_turn typed_turn parse_unqualified parse_substitution parse_template_param source_name number
    index_of ordinal optional_number front_digits weighted digits is_utf8 chars lib.Utf8.encode
worked_symbols = record {
  nested = some_answer (codes "_ZN3Foo3barEv") (codes "N3Foo3barEv") (codes "Foo::bar") refl refl;
  reference_qualified = some_answer (codes "_ZNO3Foo3barEv") (codes "NO3Foo3barEv") (codes "Foo::bar &&") refl refl;
  unnamed_namespace = some_answer (codes "_Z12_GLOBAL__N_1") (codes "12_GLOBAL__N_1") (codes "(anonymous namespace)") refl refl;
  cut_and_not_printed = some_answer (codes "_Z11_GLOBAL__N" ++ e_acute) (codes "11_GLOBAL__N" ++ e_acute) (codes "(anonymous namespace)") refl refl;
  two_underscores = some_answer (codes "__Z3foo.cold") (codes "3foo.cold") (codes "foo.cold") refl refl;
  ignored_rest = some_answer (codes "_Z3foo@plt") (codes "3foo@plt") (codes "foo") refl refl;
  two_bytes = some_answer (codes "_Z2" ++ e_acute) (codes "2" ++ e_acute) e_acute refl refl;
  half_a_letter = not_text (codes "_Z1" ++ e_acute) (codes "1" ++ e_acute) (195 ∷ []) refl refl;
  no_prefix = no_prefix (codes "malloc") refl;
  nothing_after = no_reading (codes "_Z") [] refl refl;
  number_past_the_end = no_reading (codes "_Z18446744073709551615") (codes "18446744073709551615") refl refl;
  number_past_64_bits = no_reading (codes "_Z18446744073709551617a") (codes "18446744073709551617a") refl refl;
  too_short = no_reading (codes "_Z4foo") (codes "4foo") refl refl;
  length_zero = no_reading (codes "_Z0") (codes "0") refl refl;
  leading_zero = no_reading (codes "_Z03foo") (codes "03foo") refl refl;
  arguments = some_answer (codes "_ZNSt6vectorIS_IiEE4sizeEv") (codes "NSt6vectorIS_IiEE4sizeEv") (codes "std::vector<std::vector<int> >::size") refl refl;
  last_own_name = some_answer (codes "_ZNSaIcED2Ev") (codes "NSaIcED2Ev") (codes "std::allocator<char>::~allocator") refl refl;
  parameter = some_answer (codes "_Z1fIiT_Evv") (codes "1fIiT_Evv") (codes "f<int, int>") refl refl;
  no_parameter_yet = no_reading (codes "_Z1fIT_iEvv") (codes "1fIT_iEvv") refl refl;
  pointer_to_function = some_answer (codes "_Z1fIPFvvES1_Evv") (codes "1fIPFvvES1_Evv") (codes "f<void (*)(), void (*)()>") refl refl;
  arrays = some_answer (codes "_Z1fIA2_A3_iS0_Evv") (codes "1fIA2_A3_iS0_Evv") (codes "f<int [2][3], int [3]>") refl refl;
  reference_to_array = some_answer (codes "_Z1fIRKA3_iEvv") (codes "1fIRKA3_iEvv") (codes "f<int const (&) [3]>") refl refl;
  no_array_of_functions = no_reading (codes "_Z1fIA3_FvvEEvv") (codes "1fIA3_FvvEEvv") refl refl;
  member_function = some_answer (codes "_Z1fIM1AFvvREEvv") (codes "1fIM1AFvvREEvv") (codes "f<void (A::*)(void) &>") refl refl;
  no_scope_of_a_type = some_answer (codes "_Z1fI1AIiET_Evv") (codes "1fI1AIiET_Evv") (codes "f<A<int>, A<int> >") refl refl;
  operator = some_answer (codes "_ZN1AlsIiEEvv") (codes "N1AlsIiEEvv") (codes "A::operator<< <int>") refl refl;
  second_lambda = some_answer (codes "_ZN1AUlvE0_E") (codes "N1AUlvE0_E") (codes "A::{lambda()#2}") refl refl;
  tagged_name = some_answer (codes "_ZN1A12_GLOBAL__N_1B12_GLOBAL__N_1E") (codes "N1A12_GLOBAL__N_1B12_GLOBAL__N_1E") (codes "A::(anonymous namespace)[abi:(anonymous namespace)]") refl refl;
  lambda_parameter = some_answer (codes "_Z1fIN1A1BENS1_UlP1CE_ES2_Ev") (codes "1fIN1A1BENS1_UlP1CE_ES2_Ev") (codes "f<A::B, A::B::{lambda(C*)#1}, C>") refl refl;
  conversion = some_answer (codes "_ZN3FoocvM1AiEv") (codes "N3FoocvM1AiEv") (codes "Foo::operator int A::*") refl refl;
  empty_pack = some_answer (codes "_Z1fIiJEEvv") (codes "1fIiJEEvv") (codes "f<int, >") refl refl;
  expansion_in_a_pack = some_answer (codes "_Z1fIJDpiEEvv") (codes "1fIJDpiEEvv") (codes "f<int>") refl refl;
  expansion = some_answer (codes "_Z1fIDpiEvv") (codes "1fIDpiEvv") (codes "f<int...>") refl refl;
  literal_operator = some_answer (codes "_Zli4_fooe") (codes "li4_fooe") (codes "operator\"\" _foo") refl refl;
  unnamed_type = some_answer (codes "_ZN3FooUt_3barEv") (codes "N3FooUt_3barEv") (codes "Foo::{unnamed type#1}::bar") refl refl;
  second_unnamed_type = some_answer (codes "_ZN1AUt0_E") (codes "N1AUt0_E") (codes "A::{unnamed type#2}") refl refl;
  tag_of_a_destructor = some_answer (codes "_ZN3FooD0B8nn180100Ev") (codes "N3FooD0B8nn180100Ev") (codes "Foo::~Foo[abi:nn180100]") refl refl;
  local_name = some_answer (codes "_ZZ1fvE1x") (codes "Z1fvE1x") (codes "f()::x") refl refl;
  string_literal = some_answer (codes "_ZZ1fvEss") (codes "Z1fvEss") (codes "f()::string literal") refl refl;
  dropped_return_type = some_answer (codes "_ZZ1fIiEvT_E1x") (codes "Z1fIiEvT_E1x") (codes "f<int>(int)::x") refl refl;
  return_type_alone = some_answer (codes "_ZZ1fIiEvE1x") (codes "Z1fIiEvE1x") (codes "f<int>::x") refl refl;
  encoding_without_parameters = some_answer (codes "_ZZ1fE1x") (codes "Z1fE1x") (codes "f::x") refl refl;
  scope_of_an_encoding = some_answer (codes "_Z1fIJZ1gIcEvE1xT_EEvv") (codes "1fIJZ1gIcEvE1xT_EEvv") (codes "f<g<char>::x, char>") refl refl;
  default_argument = some_answer (codes "_Z1fIZ1gvEd_N1A1BES0_Evv") (codes "1fIZ1gvEd_N1A1BES0_Evv") (codes "f<g()::{default arg#1}::A::B, A>") refl refl;
  qualifiers_after_parameters = some_answer (codes "_ZZNK3Foo3barEvE3baz") (codes "ZNK3Foo3barEvE3baz") (codes "Foo::bar() const::baz") refl refl;
  qualifiers_of_an_entity = some_answer (codes "_ZZN3Foo3barEvENKUlvE_clEv") (codes "ZN3Foo3barEvENKUlvE_clEv") (codes "Foo::bar()::{lambda()#1}::operator() const") refl refl;
  constructor_has_no_return_type = some_answer (codes "_ZZN3FooC1IiEET_E3bar") (codes "ZN3FooC1IiEET_E3bar") (codes "Foo::Foo<int>(int)::bar") refl refl;
  operands = some_answer (codes "_Z1fIL_Z1gEXplT_Li1EEEvv") (codes "1fIL_Z1gEXplT_Li1EEEvv") (codes "f<g, (g)+(1)>") refl refl;
  external_name_as_operand = some_answer (codes "_Z1fIXplL_Z1gELi1EEEvv") (codes "1fIXplL_Z1gELi1EEEvv") (codes "f<g+(1)>") refl refl;
  post_increment = some_answer (codes "_Z1fIXppL_Z1gEEEvv") (codes "1fIXppL_Z1gEEEvv") (codes "f<g++>") refl refl;
  pre_increment = some_answer (codes "_Z1fIXpp_L_Z1gEEEvv") (codes "1fIXpp_L_Z1gEEEvv") (codes "f<++g>") refl refl;
  greater = some_answer (codes "_Z1fIXgtL_Z1gELi1EEEvv") (codes "1fIXgtL_Z1gELi1EEEvv") (codes "f<((g)>(1))>") refl refl;
  floating_literal = some_answer (codes "_Z1fILf3f800000EEvv") (codes "1fILf3f800000EEvv") (codes "f<[3f800000]>") refl refl;
  leading_zeros = some_answer (codes "_Z1fILi007EEvv") (codes "1fILi007EEvv") (codes "f<007>") refl refl;
  empty_value = some_answer (codes "_Z1fIXngLiEEEvv") (codes "1fIXngLiEEEvv") (codes "f<-()>") refl refl;
  no_value = some_answer (codes "_Z1fILiEEvv") (codes "1fILiEEvv") (codes "f<>") refl refl;
  address_of_a_function = some_answer (codes "_Z1fIXadL_ZN3Foo3barEiEEEv") (codes "1fIXadL_ZN3Foo3barEiEEEv") (codes "f<&Foo::bar(int)>") refl refl;
  nested_operators = some_answer (codes "_Z1fIXmlplLi1ELi2ELi3EEEvv") (codes "1fIXmlplLi1ELi2ELi3EEEvv") (codes "f<((1)+(2))*(3)>") refl refl;
  cast_literal = some_answer (codes "_ZN3FooIiLm4EE3barEv") (codes "N3FooIiLm4EE3barEv") (codes "Foo<int, (unsigned long)4>::bar") refl refl;
  vtable_and_suffix = some_answer (codes "_ZTV3Foo.llvm.1") (codes "TV3Foo.llvm.1") (codes "{vtable(Foo)}.llvm.1") refl refl;
  guard_variable = some_answer (codes "_ZGVZ1fvE1x") (codes "GVZ1fvE1x") (codes "guard variable for f()::x") refl refl;
  construction_vtable = some_answer (codes "_ZTC1A16_1B") (codes "TC1A16_1B") (codes "construction vtable for B-in-A") refl refl;
  no_offset = no_reading (codes "_ZTC1A1B") (codes "TC1A1B") refl refl;
  thunk = some_answer (codes "_ZTh0_1fv") (codes "Th0_1fv") (codes "{virtual override thunk({offset(0)}, f)}") refl refl;
  covariant_thunk = some_answer (codes "_ZTcv0_n16_h8_N3Foo3barEv") (codes "Tcv0_n16_h8_N3Foo3barEv") (codes "{virtual override thunk({virtual offset(0, -16)}, {offset(8)}, Foo::bar)}") refl refl;
  negative_offset = some_answer (codes "_ZThn8_N3Foo3barEv") (codes "Thn8_N3Foo3barEv") (codes "{virtual override thunk({offset(-8)}, Foo::bar)}") refl refl;
  typeinfo = some_answer (codes "_ZTIMN4llvm4json6ObjectEKFSt8optionalINS_9StringRefEES3_E")
      (codes "TIMN4llvm4json6ObjectEKFSt8optionalINS_9StringRefEES3_E")
      (codes "typeinfo for std::optional<llvm::StringRef> (llvm::json::Object::*)(llvm::StringRef) const") refl refl;
}
