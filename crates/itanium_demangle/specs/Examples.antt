-- Symbols with their answers.
use Rattle.std.specs.Prelude.{ℕ, List, [], ◌∷◌, ◌++◌, Some, None, codes}
use Rattle.itanium_grammar.specs.Answer.{IsAnswer}

-- the letter é in UTF-8
abbrev pub e_acute : List ℕ
e_acute = 195 ∷ 169 ∷ []

-- what some symbols answer
pub record WorkedSymbols : Type 0 where
  pub nested : IsAnswer (codes "_ZN3Foo3barEv") (Some (codes "Foo::bar"))
  pub reference_qualified : IsAnswer (codes "_ZNO3Foo3barEv") (Some (codes "Foo::bar &&"))
  pub unnamed_namespace : IsAnswer (codes "_Z12_GLOBAL__N_1") (Some (codes "(anonymous namespace)"))
  pub cut_and_not_printed : IsAnswer (codes "_Z11_GLOBAL__N" ++ e_acute) (Some (codes "(anonymous namespace)"))
  pub two_underscores : IsAnswer (codes "__Z3foo.cold") (Some (codes "foo.cold"))
  pub ignored_rest : IsAnswer (codes "_Z3foo@plt") (Some (codes "foo"))
  pub two_bytes : IsAnswer (codes "_Z2" ++ e_acute) (Some e_acute)
  pub half_a_letter : IsAnswer (codes "_Z1" ++ e_acute) None
  pub no_prefix : IsAnswer (codes "malloc") None
  pub nothing_after : IsAnswer (codes "_Z") None
  pub number_past_the_end : IsAnswer (codes "_Z18446744073709551615") None
  pub number_past_64_bits : IsAnswer (codes "_Z18446744073709551617a") None
  pub too_short : IsAnswer (codes "_Z4foo") None
  pub length_zero : IsAnswer (codes "_Z0") None
  pub leading_zero : IsAnswer (codes "_Z03foo") None
  pub arguments : IsAnswer (codes "_ZNSt6vectorIS_IiEE4sizeEv") (Some (codes "std::vector<std::vector<int> >::size"))
  pub last_own_name : IsAnswer (codes "_ZNSaIcED2Ev") (Some (codes "std::allocator<char>::~allocator"))
  pub parameter : IsAnswer (codes "_Z1fIiT_Evv") (Some (codes "f<int, int>"))
  pub no_parameter_yet : IsAnswer (codes "_Z1fIT_iEvv") None
  pub pointer_to_function : IsAnswer (codes "_Z1fIPFvvES1_Evv") (Some (codes "f<void (*)(), void (*)()>"))
  pub arrays : IsAnswer (codes "_Z1fIA2_A3_iS0_Evv") (Some (codes "f<int [2][3], int [3]>"))
  pub reference_to_array : IsAnswer (codes "_Z1fIRKA3_iEvv") (Some (codes "f<int const (&) [3]>"))
  pub no_array_of_functions : IsAnswer (codes "_Z1fIA3_FvvEEvv") None
  pub member_function : IsAnswer (codes "_Z1fIM1AFvvREEvv") (Some (codes "f<void (A::*)(void) &>"))
  pub no_scope_of_a_type : IsAnswer (codes "_Z1fI1AIiET_Evv") (Some (codes "f<A<int>, A<int> >"))
  pub operator : IsAnswer (codes "_ZN1AlsIiEEvv") (Some (codes "A::operator<< <int>"))
  pub second_lambda : IsAnswer (codes "_ZN1AUlvE0_E") (Some (codes "A::{lambda()#2}"))
  pub tagged_name :
      IsAnswer (codes "_ZN1A12_GLOBAL__N_1B12_GLOBAL__N_1E")
      (Some (codes "A::(anonymous namespace)[abi:(anonymous namespace)]"))
  pub lambda_parameter :
      IsAnswer (codes "_Z1fIN1A1BENS1_UlP1CE_ES2_Ev")
      (Some (codes "f<A::B, A::B::{lambda(C*)#1}, C>"))
  pub conversion : IsAnswer (codes "_ZN3FoocvM1AiEv") (Some (codes "Foo::operator int A::*"))
  pub empty_pack : IsAnswer (codes "_Z1fIiJEEvv") (Some (codes "f<int, >"))
  pub expansion_in_a_pack : IsAnswer (codes "_Z1fIJDpiEEvv") (Some (codes "f<int>"))
  pub expansion : IsAnswer (codes "_Z1fIDpiEvv") (Some (codes "f<int...>"))
  pub literal_operator : IsAnswer (codes "_Zli4_fooe") (Some (codes "operator\"\" _foo"))
  pub unnamed_type : IsAnswer (codes "_ZN3FooUt_3barEv") (Some (codes "Foo::{unnamed type#1}::bar"))
  pub second_unnamed_type : IsAnswer (codes "_ZN1AUt0_E") (Some (codes "A::{unnamed type#2}"))
  pub tag_of_a_destructor : IsAnswer (codes "_ZN3FooD0B8nn180100Ev") (Some (codes "Foo::~Foo[abi:nn180100]"))
  pub local_name : IsAnswer (codes "_ZZ1fvE1x") (Some (codes "f()::x"))
  pub string_literal : IsAnswer (codes "_ZZ1fvEss") (Some (codes "f()::string literal"))
  pub dropped_return_type : IsAnswer (codes "_ZZ1fIiEvT_E1x") (Some (codes "f<int>(int)::x"))
  pub return_type_alone : IsAnswer (codes "_ZZ1fIiEvE1x") (Some (codes "f<int>::x"))
  pub encoding_without_parameters : IsAnswer (codes "_ZZ1fE1x") (Some (codes "f::x"))
  pub scope_of_an_encoding : IsAnswer (codes "_Z1fIJZ1gIcEvE1xT_EEvv") (Some (codes "f<g<char>::x, char>"))
  pub default_argument : IsAnswer (codes "_Z1fIZ1gvEd_N1A1BES0_Evv")
      (Some (codes "f<g()::{default arg#1}::A::B, A>"))
  pub qualifiers_after_parameters : IsAnswer (codes "_ZZNK3Foo3barEvE3baz") (Some (codes "Foo::bar() const::baz"))
  pub qualifiers_of_an_entity :
      IsAnswer (codes "_ZZN3Foo3barEvENKUlvE_clEv")
      (Some (codes "Foo::bar()::{lambda()#1}::operator() const"))
  pub constructor_has_no_return_type : IsAnswer (codes "_ZZN3FooC1IiEET_E3bar") (Some (codes "Foo::Foo<int>(int)::bar"))
  pub operands : IsAnswer (codes "_Z1fIL_Z1gEXplT_Li1EEEvv") (Some (codes "f<g, (g)+(1)>"))
  pub external_name_as_operand : IsAnswer (codes "_Z1fIXplL_Z1gELi1EEEvv") (Some (codes "f<g+(1)>"))
  pub post_increment : IsAnswer (codes "_Z1fIXppL_Z1gEEEvv") (Some (codes "f<g++>"))
  pub pre_increment : IsAnswer (codes "_Z1fIXpp_L_Z1gEEEvv") (Some (codes "f<++g>"))
  pub greater : IsAnswer (codes "_Z1fIXgtL_Z1gELi1EEEvv") (Some (codes "f<((g)>(1))>"))
  pub floating_literal : IsAnswer (codes "_Z1fILf3f800000EEvv") (Some (codes "f<[3f800000]>"))
  pub leading_zeros : IsAnswer (codes "_Z1fILi007EEvv") (Some (codes "f<007>"))
  pub empty_value : IsAnswer (codes "_Z1fIXngLiEEEvv") (Some (codes "f<-()>"))
  pub no_value : IsAnswer (codes "_Z1fILiEEvv") (Some (codes "f<>"))
  pub address_of_a_function : IsAnswer (codes "_Z1fIXadL_ZN3Foo3barEiEEEv") (Some (codes "f<&Foo::bar(int)>"))
  pub nested_operators : IsAnswer (codes "_Z1fIXmlplLi1ELi2ELi3EEEvv") (Some (codes "f<((1)+(2))*(3)>"))
  pub cast_literal : IsAnswer (codes "_ZN3FooIiLm4EE3barEv") (Some (codes "Foo<int, (unsigned long)4>::bar"))
  pub vtable_and_suffix : IsAnswer (codes "_ZTV3Foo.llvm.1") (Some (codes "{vtable(Foo)}.llvm.1"))
  pub guard_variable : IsAnswer (codes "_ZGVZ1fvE1x") (Some (codes "guard variable for f()::x"))
  pub construction_vtable : IsAnswer (codes "_ZTC1A16_1B") (Some (codes "construction vtable for B-in-A"))
  pub no_offset : IsAnswer (codes "_ZTC1A1B") None
  pub thunk : IsAnswer (codes "_ZTh0_1fv") (Some (codes "{virtual override thunk({offset(0)}, f)}"))
  pub covariant_thunk :
      IsAnswer (codes "_ZTcv0_n16_h8_N3Foo3barEv")
      (Some (codes "{virtual override thunk({virtual offset(0, -16)}, {offset(8)}, Foo::bar)}"))
  pub negative_offset :
      IsAnswer (codes "_ZThn8_N3Foo3barEv")
      (Some (codes "{virtual override thunk({offset(-8)}, Foo::bar)}"))
  pub typeinfo :
      IsAnswer (codes "_ZTIMN4llvm4json6ObjectEKFSt8optionalINS_9StringRefEES3_E")
      (Some (codes "typeinfo for std::optional<llvm::StringRef> (llvm::json::Object::*)(llvm::StringRef) const"))
