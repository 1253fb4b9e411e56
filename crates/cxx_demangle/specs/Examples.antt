-- Symbols with their declarations.
use Rattle.std.specs.Prelude.{codes, Some, None}
use Rattle.cxx_printer.specs.declared.env.Style.TheVariants.{Llvm}
use Rattle.cxx_printer.specs.declared.symbol.Mode.TheVariants.{Signature, Declaration}
use Rattle.cxx_demangle.specs.declared.demangler.Printing.{Printing}
use Rattle.cxx_demangle.specs.Answer.{IsAnswer}

abbrev pub whole : Printing
whole = record { mode = Declaration; style = Llvm; limit = None }

pub record WorkedSymbols : Type 0 where
  -- a function without parameters
  pub function : IsAnswer whole (codes "_Z1fv") (Some (codes "f()"))
  -- a member function with its qualifiers
  pub member : IsAnswer whole (codes "_ZNK1A1fEv") (Some (codes "A::f() const"))
  -- a name that was saved, and a pointer to it
  pub substitution : IsAnswer whole (codes "_Z1f1APS_") (Some (codes "f(A, A*)"))
  -- a return type, and a template parameter that stands for an argument
  pub parameter : IsAnswer whole (codes "_Z1fIiEvT_") (Some (codes "void f<int>(int)"))
  -- the same without its return type
  pub signature : IsAnswer (record whole { mode = Signature }) (codes "_Z1fIiEvT_") (Some (codes "f<int>(int)"))
  -- an operator of a vendor, with the number of its operands
  pub vendor : IsAnswer whole (codes "_Zv13negi") (Some (codes "operator neg(int)"))
  -- a pack that is expanded
  pub pack : IsAnswer whole (codes "_Z1fIJicEEvDpT_") (Some (codes "void f<int, char>(int, char)"))
  -- a template parameter that stands for nothing
  pub no_argument : IsAnswer whole (codes "_Z1fT_") None
  -- a byte that isn't read
  pub rest : IsAnswer whole (codes "_Z1fv,") None
  -- what follows from a dot
  pub suffix : IsAnswer whole (codes "_Z1fv.part.0") (Some (codes "f() (.part.0)"))
  -- the function of a block
  pub block : IsAnswer whole (codes "___Z1fv_block_invoke") (Some (codes "invocation function for block in f()"))
  -- a name with a tag
  pub tag : IsAnswer whole (codes "_Z1fB3tagv") (Some (codes "f[abi:tag]()"))
  -- a local name with its discriminator
  pub local : IsAnswer whole (codes "_ZZ1fvE1x_0") (Some (codes "f()::x"))
  -- a closure
  pub closure : IsAnswer whole (codes "_ZZ1fvENKUliE0_clEi") (Some (codes "f()::'lambda0'(int)::operator()(int) const"))
  -- a conversion operator, whose arguments follow its type
  pub conversion : IsAnswer whole (codes "_ZN1AcvPT_IiEEv") (Some (codes "A::operator int*<int>()"))
  -- arrays
  pub array : IsAnswer whole (codes "_Z1fRA2_A3_i") (Some (codes "f(int (&) [2][3])"))
  -- types of functions
  pub function_type : IsAnswer whole (codes "_Z1fPFPFivEcE") (Some (codes "f(int (* (*)(char))())"))
  -- an expression
  pub expression : IsAnswer whole (codes "_Z1fIiEDTplfp_Li1EET_") (Some (codes "decltype(fp + 1) f<int>(int)"))
  -- a name that isn't resolved
  pub scope : IsAnswer whole (codes "_Z1fI1BEDTsr1AIT_EE1xES1_") (Some (codes "decltype(A<B>::x) f<B>(B)"))
  -- a fold
  pub fold : IsAnswer whole (codes "_Z1fIJicEEDTfrplfp_EDpT_")
      (Some (codes "decltype(((fp...) + ...)) f<int, char>(int, char)"))
  -- a partition of a module
  pub partition : IsAnswer whole (codes "_ZW1MWP1N1fv") (Some (codes "f@M:N()"))
  -- a friend
  pub friend : IsAnswer whole (codes "_ZN1AF1fEv") (Some (codes "A::friend f()"))
  -- a function with an explicit object
  pub object : IsAnswer whole (codes "_ZNH1A1fES_") (Some (codes "A::f(this A)"))
  -- a function with a condition
  pub condition : IsAnswer whole (codes "_Z1fUa9enable_ifILi1EEv") (Some (codes "f() [enable_if:1]"))
