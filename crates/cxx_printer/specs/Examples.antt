-- Trees of symbols, with the declarations that they print. The symbol stands above each.
use Prim.Native.String.{String}
use Rattle.std.specs.Prelude.{◌≡◌, Bool, true, false, Some, None, codes}
use Rattle.cxx_tree.specs.declared.kinds.Cv.{Cv}
use Rattle.cxx_tree.specs.declared.kinds.Prec.TheVariants.{Primary, Postfix, Unary, Cast, Additive, Relational}
use Rattle.cxx_tree.specs.declared.kinds.RefQual.TheVariants as refqual
use Rattle.cxx_tree.specs.declared.kinds.Std.TheVariants.{String as StdString}
use Rattle.cxx_tree.specs.Tree.{Tree, Trees, named, std_name, scoped, with_args, abi_tag, in_module, data_name}
use Rattle.cxx_tree.specs.Tree.{objc_protocol, listed, expansion, qualified, pointer, reference, member_pointer, pack}
use Rattle.cxx_tree.specs.Tree.{no_trees, more_trees}
use Rattle.cxx_tree.specs.Phrases.{word, literal, default_arg, module_name, ctor_dtor, unnamed, closure, bindings}
use Rattle.cxx_tree.specs.Phrases.{array_of, function_of, suffixed, vendor_qualified, vector, function_encoding, ctor_vtable}
use Rattle.cxx_tree.specs.Phrases.{prefixed, enclosing, binary, prefix_op, member, call, new_expression, conversion}
use Rattle.cxx_tree.specs.Phrases.{init_list, typed_literal}
use Rattle.cxx_printer.specs.declared.env.Style.{Style}
use Rattle.cxx_printer.specs.declared.env.Style.TheVariants.{Llvm, Gnu, GnuShort}
use Rattle.cxx_printer.specs.declared.parts.Kind.{Kind}
use Rattle.cxx_printer.specs.declared.parts.Kind.TheVariants.{Function, Data, Special}
use Rattle.cxx_printer.specs.declared.symbol.Mode.TheVariants.{Declaration}
use Rattle.cxx_printer.specs.Parts.{kind_of, has_qualifiers, base_name_text, context_text, parameters_text, return_type_text}
use Rattle.cxx_printer.specs.Symbol.{Symbol, symbol_text}
use Rattle.cxx_printer.specs.Words.{top}

-- Trees that occur often.

abbrev pub name : String → Tree
name w = named (codes w)

abbrev pub int : Tree
int = name "int"

abbrev pub void : Tree
void = name "void"

-- a literal of an integer
abbrev pub number : String → Tree
number w = literal (codes w) (codes w)

-- the first parameter of a function, in an expression
abbrev pub fp : Tree
fp = word (codes "fp") (codes "{parm#1}")

abbrev pub one : Tree → Trees
one t = more_trees t no_trees

abbrev pub two : Tree → Tree → Trees
two t u = more_trees t (one u)

abbrev pub nested : Tree → Tree → Tree
nested scope n = scoped false scope n

abbrev pub f_of_int : Tree
f_of_int = with_args (name "f") (one int)

abbrev pub unqualified : Cv
unqualified = record { is_const = false; is_volatile = false; is_restrict = false }

abbrev pub is_const : Cv
is_const = record unqualified { is_const = true }

-- a function without a return type
abbrev pub plain : Tree → Trees → Tree
plain n params = function_encoding None n params None None unqualified refqual.None

abbrev pub returning : Tree → Tree → Trees → Tree
returning ret n params = function_encoding (Some ret) n params None None unqualified refqual.None

-- a tree after words, or in parentheses after a word
abbrev pub prefixed_by : String → Tree → Tree
prefixed_by w t = prefixed (codes w) (codes w) t Primary

abbrev pub enclosed_by : String → Tree → Tree
enclosed_by w t = enclosing (codes w) (codes w) t Primary

abbrev pub decltype : Tree → Tree
decltype e = enclosing (codes "decltype") (codes "decltype ") e Primary

-- Symbols, and what they print.

abbrev pub symbol_of : Tree → Symbol
symbol_of t = record { tree = t; is_block = false; suffix = None }

abbrev pub block_of : Tree → Symbol
block_of t = record { tree = t; is_block = true; suffix = None }

abbrev pub with_suffix : Tree → String → Symbol
with_suffix t w = record { tree = t; is_block = false; suffix = Some (codes w) }

abbrev pub PrintsAs : Style → Symbol → String → Type 0
PrintsAs style x text = symbol_text Declaration style x ≡ codes text

-- in LLVM's style
abbrev pub IsDeclared : Symbol → String → Type 0
IsDeclared x llvm = PrintsAs Llvm x llvm

-- in LLVM's style, and in GNU's
abbrev pub IsDeclaredInBoth : Symbol → String → String → Type 0
IsDeclaredInBoth x llvm gnu = PrintsAs Llvm x llvm × PrintsAs Gnu x gnu

abbrev pub Declares : Tree → String → Type 0
Declares t llvm = IsDeclared (symbol_of t) llvm

abbrev pub DeclaresInBoth : Tree → String → String → Type 0
DeclaresInBoth t llvm gnu = IsDeclaredInBoth (symbol_of t) llvm gnu

-- what trees of names, functions and special names print
pub record WorkedNames : Type 0 where
  -- _Z1f
  pub data_alone : Declares (data_name (name "f")) "f"
  -- _Z1fv
  pub no_parameters : Declares (plain (name "f") no_trees) "f()"
  -- _ZN1A1fEv
  pub nested_name : Declares (plain (nested (name "A") (name "f")) no_trees) "A::f()"
  -- _ZNKR1A1fEv
  pub member_qualifiers :
      Declares (function_encoding None (nested (name "A") (name "f")) no_trees None None is_const refqual.Lvalue)
      "A::f() const &"
  -- _ZN1AC1ERKS_
  pub constructor :
      Declares (plain (nested (name "A") (ctor_dtor (codes "A") false))
      (one (reference (qualified (name "A") is_const) true)))
      "A::A(A const&)"
  -- _ZN1AD0Ev
  pub destructor : Declares (plain (nested (name "A") (ctor_dtor (codes "A") true)) no_trees) "A::~A()"
  -- _ZNSsC1Ev
  pub expanded_scope :
      Declares (plain (nested (std_name StdString true) (ctor_dtor (codes "basic_string") false)) no_trees)
      "std::basic_string<char, std::char_traits<char>, std::allocator<char>>::basic_string()"
  -- _ZN1AplERKS_
  pub operator_name :
      Declares (plain (nested (name "A") (name "operator+")) (one (reference (qualified (name "A") is_const) true)))
      "A::operator+(A const&)"
  -- _ZN1AcvbEv
  pub conversion :
      Declares (plain (nested (name "A") (prefixed_by "operator " (name "bool"))) no_trees) "A::operator bool()"
  -- _ZN1AIiEcvT_Ev
  pub conversion_of_arguments :
      Declares (plain (nested (with_args (name "A") (one int)) (prefixed_by "operator " int)) no_trees)
      "A<int>::operator int()"
  -- _ZN1AcvPT_IiEEv
  pub conversion_with_arguments :
      Declares (plain (with_args (nested (name "A") (prefixed_by "operator " (pointer int))) (one int)) no_trees)
      "A::operator int*<int>()"
  -- _ZN3OpscvOT_IiEEv
  pub conversion_to_reference :
      Declares (plain (with_args (nested (name "Ops") (prefixed_by "operator " (reference int false))) (one int))
      no_trees)
      "Ops::operator int&&<int>()"
  -- _Zli3_kmy
  pub literal_operator :
      Declares (plain (prefixed_by "operator\"\" " (name "_km")) (one (name "unsigned long long")))
      "operator\"\" _km(unsigned long long)"
  -- _ZZ1fvE1x_0
  pub local_name : Declares (data_name (nested (plain (name "f") no_trees) (name "x"))) "f()::x"
  -- _ZZ1fvEs
  pub string_of_a_function :
      Declares (data_name (nested (plain (name "f") no_trees) (name "string literal"))) "f()::string literal"
  -- _ZZ1fvEd0_NKUlvE_clEv
  pub default_argument :
      DeclaresInBoth (function_encoding None
      (nested (default_arg (plain (name "f") no_trees) (codes "0") (codes "2"))
      (nested (closure no_trees None no_trees None (codes "") (codes "1")) (name "operator()"))) no_trees None None
      is_const refqual.None)
      "f()::'lambda'()::operator()() const" "f()::{default arg#2}::{lambda()#1}::operator()() const"
  -- _ZZ1fvENKUliE0_clEi
  pub second_lambda :
      DeclaresInBoth (function_encoding None
      (nested (plain (name "f") no_trees)
      (nested (closure no_trees None (one int) None (codes "0") (codes "2")) (name "operator()"))) (one int) None None
      is_const refqual.None)
      "f()::'lambda0'(int)::operator()(int) const" "f()::{lambda(int)#2}::operator()(int) const"
  -- _ZN1AUt_1fEv
  pub unnamed_type :
      DeclaresInBoth (plain (nested (nested (name "A") (unnamed (codes "") (codes "1"))) (name "f")) no_trees)
      "A::'unnamed'::f()" "A::{unnamed type#1}::f()"
  -- _ZN12_GLOBAL__N_11fEv
  pub unnamed_namespace :
      Declares (plain (nested (name "(anonymous namespace)") (name "f")) no_trees) "(anonymous namespace)::f()"
  -- _Z1fB5cxx11v
  pub tag : Declares (plain (abi_tag (name "f") (codes "cxx11")) no_trees) "f[abi:cxx11]()"
  -- _ZN1SB2t1C1Ev
  pub constructor_of_tagged :
      Declares (plain (nested (abi_tag (name "S") (codes "t1")) (ctor_dtor (codes "S") false)) no_trees)
      "S[abi:t1]::S()"
  -- _ZDC1a1bE
  pub structured_binding : Declares (data_name (bindings (two (name "a") (name "b")))) "[a, b]"
  -- _ZTV1A
  pub vtable : Declares (prefixed_by "vtable for " (name "A")) "vtable for A"
  -- _ZThn16_N1A1fEv
  pub thunk :
      Declares (prefixed_by "non-virtual thunk to " (plain (nested (name "A") (name "f")) no_trees))
      "non-virtual thunk to A::f()"
  -- _ZTv0_n24_N1A1fEv
  pub virtual_thunk :
      Declares (prefixed_by "virtual thunk to " (plain (nested (name "A") (name "f")) no_trees))
      "virtual thunk to A::f()"
  -- _ZTch0_h16_N1A1fEv
  pub covariant_thunk :
      Declares (prefixed_by "covariant return thunk to " (plain (nested (name "A") (name "f")) no_trees))
      "covariant return thunk to A::f()"
  -- _ZTC1A8_1B
  pub construction_vtable : Declares (ctor_vtable (name "B") (name "A")) "construction vtable for B-in-A"
  -- _ZGVZ1fvE1x
  pub guard_variable :
      Declares (prefixed_by "guard variable for " (nested (plain (name "f") no_trees) (name "x")))
      "guard variable for f()::x"
  -- _ZGR1x0_
  pub reference_temporary : Declares (prefixed_by "reference temporary for " (name "x")) "reference temporary for x"
  -- _ZTAXtl1ALi1EEE
  pub parameter_object :
      Declares (prefixed_by "template parameter object for " (init_list (Some (name "A")) (one (number "1"))))
      "template parameter object for A{1}"
  -- _ZGTtNKSt11logic_error4whatEv
  pub transaction_clone :
      Declares (prefixed_by "transaction clone for "
      (function_encoding None (nested (nested (name "std") (name "logic_error")) (name "what")) no_trees None None
      is_const refqual.None))
      "transaction clone for std::logic_error::what() const"
  -- ___Z1fv_block_invoke_2
  pub block : IsDeclared (block_of (plain (name "f") no_trees)) "invocation function for block in f()"
  -- _Z1fv.cold
  pub suffix : IsDeclared (with_suffix (plain (name "f") no_trees) ".cold") "f() (.cold)"
  -- _ZNH1A1fERS_i
  pub explicit_object :
      Declares (plain (nested (name "A") (name "f")) (two (prefixed_by "this " (reference (name "A") true)) int))
      "A::f(this A&, int)"
  -- _ZN1AF1gEi
  pub friend : Declares (plain (scoped true (name "A") (name "g")) (one int)) "A::friend g(int)"
  -- _ZW1MWP1P1fv
  pub partition :
      Declares (plain (in_module (name "f") (module_name (Some (module_name None (name "M") false)) (name "P") true))
      no_trees)
      "f@M:P()"
  -- _ZGIW1M
  pub module_initializer :
      Declares (prefixed_by "initializer for module " (module_name None (name "M") false)) "initializer for module M"
  -- _ZN1KIiEC1ITk2C2IT_EcEES3_
  pub declared_parameter :
      Declares (plain
      (with_args (nested (with_args (name "K") (one int)) (ctor_dtor (codes "K") false)) (one (name "char")))
      (one (name "char")))
      "K<int>::K<char>(char)"
  -- _ZltIiE1AT_
  pub less_operator :
      DeclaresInBoth (returning (name "A") (with_args (name "operator<") (one int)) (one int))
      "A operator<<int>(int)" "A operator< <int>(int)"
  -- _Z1fSs
  pub abbreviation :
      DeclaresInBoth (plain (name "f") (one (std_name StdString false)))
      "f(std::string)" "f(std::basic_string<char, std::char_traits<char>, std::allocator<char> >)"
  -- the same in GNU's short style
  pub short_abbreviation :
      PrintsAs GnuShort (symbol_of (plain (name "f") (one (std_name StdString false)))) "f(std::string)"
  -- _ZTW1x
  pub thread_local_wrapper :
      DeclaresInBoth (prefixed (codes "thread-local wrapper routine for ") (codes "TLS wrapper function for ")
      (name "x") Primary)
      "thread-local wrapper routine for x" "TLS wrapper function for x"
  -- _Z1fv.isra.0.cold
  pub suffix_in_pieces :
      IsDeclaredInBoth (with_suffix (plain (name "f") no_trees) ".isra.0.cold")
      "f() (.isra.0.cold)" "f() [clone .isra.0] [clone .cold]"

-- what trees of types and template arguments print
pub record WorkedTypes : Type 0 where
  -- _Z1fPKcz
  pub parameters :
      Declares (plain (name "f") (two (pointer (qualified (name "char") is_const)) (name "..."))) "f(char const*, ...)"
  -- _Z1fIiEvT_
  pub argument : Declares (returning void f_of_int (one int)) "void f<int>(int)"
  -- _Z1fIJEEvDpT_
  pub empty_pack :
      Declares (returning void (with_args (name "f") (one (listed no_trees))) (one (expansion (pack no_trees))))
      "void f<>()"
  -- _Z1fIRiEvOT_
  pub lvalue_wins :
      Declares (returning void (with_args (name "f") (one (reference int true)))
      (one (reference (reference int true) false)))
      "void f<int&>(int&)"
  -- _Z1fIOiEvOT_
  pub rvalue_of_rvalue :
      Declares (returning void (with_args (name "f") (one (reference int false)))
      (one (reference (reference int false) false)))
      "void f<int&&>(int&&)"
  -- _Z1fPA3_i
  pub pointer_to_array : Declares (plain (name "f") (one (pointer (array_of int (Some (name "3")))))) "f(int (*) [3])"
  -- _Z1fRA2_A3_i
  pub array_of_arrays :
      Declares (plain (name "f") (one (reference (array_of (array_of int (Some (name "3"))) (Some (name "2"))) true)))
      "f(int (&) [2][3])"
  -- _Z1fM1AA2_i
  pub member_array :
      DeclaresInBoth (plain (name "f") (one (member_pointer (name "A") (array_of int (Some (name "2"))))))
      "f(int(A::*) [2])" "f(int (A::*) [2])"
  -- _Z1fPFivE
  pub pointer_to_function :
      Declares (plain (name "f") (one (pointer (function_of int no_trees unqualified refqual.None None))))
      "f(int (*)())"
  -- _Z1fM1AKFivE
  pub pointer_to_member_function :
      Declares (plain (name "f")
      (one (member_pointer (name "A") (function_of int no_trees is_const refqual.None None))))
      "f(int (A::*)() const)"
  -- _Z1fPFPFivEcE
  pub function_that_returns_a_pointer :
      DeclaresInBoth (plain (name "f")
      (one
      (pointer
      (function_of (pointer (function_of int no_trees unqualified refqual.None None)) (one (name "char")) unqualified
      refqual.None None))))
      "f(int (* (*)(char))())" "f(int (*(*)(char))())"
  -- _Z3t11i
  pub plain_function : Declares (plain (name "t11") (one int)) "t11(int)"
  -- _Z1fIiEPFivET_
  pub returned_function :
      Declares (returning (pointer (function_of int no_trees unqualified refqual.None None)) f_of_int (one int))
      "int (*f<int>(int))()"
  -- _Z1fIiEPA3_iT_
  pub returned_array :
      Declares (returning (pointer (array_of int (Some (name "3")))) f_of_int (one int)) "int (*f<int>(int)) [3]"
  -- _Z1fPDoFvvE
  pub exception_specification :
      Declares (plain (name "f")
      (one (pointer (function_of void no_trees unqualified refqual.None (Some (name "noexcept"))))))
      "f(void (*)() noexcept)"
  -- _Z1fDv4_f
  pub vector_type : Declares (plain (name "f") (one (vector (name "float") (Some (name "4"))))) "f(float vector[4])"
  -- _Z1fA2_Dv4_f
  pub array_of_vectors :
      DeclaresInBoth (plain (name "f") (one (array_of (vector (name "float") (Some (name "4"))) (Some (name "2")))))
      "f(float vector[4][2])" "f(float __vector(4) [2])"
  -- _Z1fCd
  pub complex :
      Declares (plain (name "f") (one (suffixed (name "double") (codes " complex") (codes " _Complex"))))
      "f(double complex)"
  -- _Z1fDB17_DU33_
  pub sized_integers :
      Declares (plain (name "f") (two (enclosed_by "_BitInt" (name "17")) (enclosed_by "unsigned _BitInt" (name "33"))))
      "f(_BitInt(17), unsigned _BitInt(33))"
  -- _Z1fDF16_
  pub builtin_type : Declares (plain (name "f") (one (name "_Float16"))) "f(_Float16)"
  -- _Z1fU8__strongP11objc_object
  pub vendor_qualifier :
      Declares (plain (name "f") (one (vendor_qualified (pointer (name "objc_object")) (codes "__strong") None)))
      "f(objc_object* __strong)"
  -- _Z1fPU15objcproto5Proto11objc_object
  pub objective_c :
      Declares (plain (name "f") (one (pointer (objc_protocol (name "objc_object") (codes "Proto"))))) "f(id<Proto>)"
  -- _Z1fu14__remove_constIiE
  pub vendor_type : Declares (plain (name "f") (one (enclosed_by "__remove_const" int))) "f(__remove_const(int))"
  -- _Z1fITk1CiEvT_
  pub constrained_parameter : Declares (returning void f_of_int (one int)) "void f<int>(int)"
  -- _Z1fIiEvT_Q1CIS0_E
  pub constraint :
      Declares (function_encoding (Some void) f_of_int (one int) None (Some (with_args (name "C") (one (name "T"))))
      unqualified refqual.None)
      "void f<int>(int) requires C<T>"
  -- _Z1fIiEvT_Q1CITL0__E
  pub constraint_of_an_outer_level :
      Declares (function_encoding (Some void) f_of_int (one int) None (Some (with_args (name "C") (one (name "TL0_"))))
      unqualified refqual.None)
      "void f<int>(int) requires C<TL0_>"
  -- _Z1fI1AIiEEvv
  pub closing_brackets :
      DeclaresInBoth (returning void (with_args (name "f") (one (with_args (name "A") (one int)))) no_trees)
      "void f<A<int>>()" "void f<A<int> >()"
  -- _Z1fI1AIiEJEEvv
  pub closing_brackets_with_a_pack :
      DeclaresInBoth (returning void (with_args (name "f") (two (with_args (name "A") (one int)) (listed no_trees)))
      no_trees)
      "void f<A<int>>()" "void f<A<int>>()"
  -- _Z1fDn
  pub null_pointer_type :
      DeclaresInBoth (plain (name "f") (one (word (codes "std::nullptr_t") (codes "decltype(nullptr)"))))
      "f(std::nullptr_t)" "f(decltype(nullptr))"

-- what trees of expressions print
pub record WorkedExpressions : Type 0 where
  -- _Z1fIiEDTplfp_Li1EET_
  pub sum :
      DeclaresInBoth (returning (decltype (binary fp (codes "+") (number "1") Additive)) f_of_int (one int))
      "decltype(fp + 1) f<int>(int)" "decltype ({parm#1}+(1)) f<int>(int)"
  -- _Z1fIiEDTcl1gfp_EET_
  pub call_of_a_name :
      Declares (returning (decltype (call (name "g") (one fp))) f_of_int (one int)) "decltype(g(fp)) f<int>(int)"
  -- _Z1fIiEDTptfp_1xET_
  pub member_access :
      Declares (returning (decltype (member fp (codes "->") (name "x") Postfix)) f_of_int (one int))
      "decltype(fp->x) f<int>(int)"
  -- _Z1fIiEDTnw_T_piLi1EEET_
  pub new :
      Declares (returning (decltype (new_expression no_trees int (one (number "1")) false false)) f_of_int (one int))
      "decltype(new int(1)) f<int>(int)"
  -- _Z1fILd3ff8000000000000EEvv
  pub double_literal :
      Declares (returning void
      (with_args (name "f") (one (literal (codes "0x1.8p+0") (codes "(double)[3ff8000000000000]")))) no_trees)
      "void f<0x1.8p+0>()"
  -- _Z1fILf3fc00000EEvv
  pub float_literal :
      DeclaresInBoth (returning void
      (with_args (name "f") (one (literal (codes "0x1.8p+0f") (codes "(float)[3fc00000]")))) no_trees)
      "void f<0x1.8p+0f>()" "void f<(float)[3fc00000]>()"
  -- _Z1fILe3fffc000000000000000EEvv
  pub extended_literal :
      Declares (returning void
      (with_args (name "f") (one (literal (codes "0xcp-3L") (codes "(long double)[3fffc000000000000000]")))) no_trees)
      "void f<0xcp-3L>()"
  -- _Z1fIL1En3EEvv
  pub enumerator :
      Declares (returning void (with_args (name "f") (one (typed_literal (name "E") (codes "-3")))) no_trees)
      "void f<(E)-3>()"
  -- _Z1fIXadL_Z1gvEEEvv
  pub address :
      DeclaresInBoth (returning void
      (with_args (name "f") (one (prefix_op (codes "&") (plain (name "g") no_trees) Unary))) no_trees)
      "void f<&g()>()" "void f<&(g())>()"
  -- _Z1fIXadL_ZN1AptEvEEEvv
  pub address_of_a_member :
      DeclaresInBoth (returning void
      (with_args (name "f")
      (one (prefix_op (codes "&") (plain (nested (name "A") (name "operator->")) no_trees) Unary))) no_trees)
      "void f<&A::operator->()>()" "void f<&A::operator-> >()"
  -- _Z1fIiEDTgtfp_fp_ET_
  pub greater :
      DeclaresInBoth (returning (decltype (binary fp (codes ">") fp Relational)) f_of_int (one int))
      "decltype(fp > fp) f<int>(int)" "decltype (({parm#1}>{parm#1})) f<int>(int)"
  -- _Z1fIiEDTcvT_fp_ET_
  pub cast :
      DeclaresInBoth (returning (decltype (conversion int (one fp) Cast)) f_of_int (one int))
      "decltype((int)(fp)) f<int>(int)" "decltype ((int){parm#1}) f<int>(int)"

-- a tree with what it stands for, and whether that has qualifiers
abbrev pub Names : Tree → Kind → Bool → Type 0
Names t kind has = (kind_of t ≡ kind) × (has_qualifiers t ≡ has)

-- a tree with its parts in a style: the base name, the context, the parameters and the return type
pub record HasParts (t : Tree) (style : Style) (base context params ret : String) : Type 0 where
  pub base_name : base_name_text (top style) t ≡ codes base
  pub scopes : context_text (top style) t ≡ codes context
  pub parameters : parameters_text (top style) t ≡ codes params
  pub return_type : return_type_text (top style) t ≡ codes ret

-- what trees stand for, and their parts
pub record WorkedParts : Type 0 where
  -- _ZNK1A1fEv
  pub member_function :
      Names (function_encoding None (nested (name "A") (name "f")) no_trees None None is_const refqual.None) Function true
  -- _ZNO1A1fEv
  pub reference_qualifier :
      Names (function_encoding None (nested (name "A") (name "f")) no_trees None None unqualified refqual.Rvalue) Function
      true
  -- _ZN1A1fEv
  pub without_qualifiers : Names (plain (nested (name "A") (name "f")) no_trees) Function false
  -- _ZN1A1xE
  pub member : Names (data_name (nested (name "A") (name "x"))) Data false
  -- _ZTV1A
  pub vtable : Names (prefixed_by "vtable for " (name "A")) Special false
  -- _ZN1A1BIiE1fB3tagIiEEvSs
  pub of_function :
      HasParts
      (returning void
      (with_args
      (abi_tag
      (nested (nested (name "A") (with_args (name "B") (one int))) (name "f")) (codes "tag")) (one int))
      (one (std_name StdString false)))
      Gnu "f" "A::B<int>" "(std::basic_string<char, std::char_traits<char>, std::allocator<char> >)" "void"
  -- _Z1fIiEPA2_ivSs
  pub of_return_type :
      HasParts (returning (pointer (array_of int (Some (name "2")))) f_of_int (one (std_name StdString false))) GnuShort
      "f" "" "(std::string)" "int (*) [2]"
  -- _ZN1A1xE
  pub of_data : HasParts (data_name (nested (name "A") (name "x"))) Llvm "x" "A" "" ""
  -- _ZTV1A
  pub of_vtable : HasParts (prefixed_by "vtable for " (name "A")) Llvm "" "" "" ""
