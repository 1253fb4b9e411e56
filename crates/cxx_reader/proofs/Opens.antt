-- One level of the grammar.
use Rattle.std.proofs.Common.{ℕ, ◌≡◌, ◌-◌, ◌<◌, refl, ap, zero, suc, arith, None, Bool}
use Rattle.cxx_grammar.specs.State.{State}
use Rattle.cxx_grammar.specs.Productions.{Productions}
use Rattle.cxx_grammar.specs.Names.{parse_name}
use Rattle.cxx_grammar.specs.Types.{parse_type, parse_qualified_type}
use Rattle.cxx_grammar.specs.Args.{parse_arg}
use Rattle.cxx_grammar.specs.Expressions.{parse_expression, parse_braced}
use Rattle.cxx_grammar.specs.Declarations.{parse_declaration}
use Rattle.cxx_grammar.specs.Encodings.{parse_encoding}
use Rattle.cxx_grammar.specs.Symbol.{productions, productions_over}

one_level : (d : ℕ) → 0 < d → productions d ≡ productions_over (productions (d - 1))
unfolding productions
one_level zero h = absurd (omega arith)
one_level (suc d) h = let less : suc d - 1 ≡ d = omega arith in rw less refl

pub name_opens : (d : ℕ) (s : State) → 0 < d → (productions d).name s ≡ parse_name (productions (d - 1)) s
name_opens d s h = ap (λ (p : Productions). p.name s) (one_level d h)

pub arg_opens : (d : ℕ) (s : State) → 0 < d → (productions d).arg s ≡ parse_arg (productions (d - 1)) s
arg_opens d s h = ap (λ (p : Productions). p.arg s) (one_level d h)

pub type_opens : (d : ℕ) (b : Bool) (s : State) → 0 < d → (productions d).type b s ≡ parse_type (productions (d - 1)) b s
type_opens d b s h = ap (λ (p : Productions). p.type b s) (one_level d h)

pub qualified_opens : (d : ℕ) (b : Bool) (s : State) → 0 < d → (productions d).qualified_type b s ≡ parse_qualified_type (productions (d - 1)) b s
qualified_opens d b s h = ap (λ (p : Productions). p.qualified_type b s) (one_level d h)

pub expression_opens : (d : ℕ) (s : State) → 0 < d → (productions d).expression s ≡ parse_expression (productions (d - 1)) s
expression_opens d s h = ap (λ (p : Productions). p.expression s) (one_level d h)

pub braced_opens : (d : ℕ) (s : State) → 0 < d → (productions d).braced s ≡ parse_braced (productions (d - 1)) s
braced_opens d s h = ap (λ (p : Productions). p.braced s) (one_level d h)

pub declaration_opens : (d n : ℕ) (s : State) → 0 < d → (productions d).declaration n s ≡ parse_declaration (productions (d - 1)) n s
declaration_opens d n s h = ap (λ (p : Productions). p.declaration n s) (one_level d h)

pub encoding_opens : (d : ℕ) (s : State) → 0 < d → (productions d).encoding s ≡ parse_encoding (productions (d - 1)) s
encoding_opens d s h = ap (λ (p : Productions). p.encoding s) (one_level d h)

pub no_name : (s : State) → (productions 0).name s ≡ None
unfolding productions
no_name s = refl

pub no_arg : (s : State) → (productions 0).arg s ≡ None
unfolding productions
no_arg s = refl

pub no_expression : (s : State) → (productions 0).expression s ≡ None
unfolding productions
no_expression s = refl

pub no_braced : (s : State) → (productions 0).braced s ≡ None
unfolding productions
no_braced s = refl

pub no_declaration : (n : ℕ) (s : State) → (productions 0).declaration n s ≡ None
unfolding productions
no_declaration n s = refl

pub no_type : (b : Bool) (s : State) → (productions 0).type b s ≡ None
unfolding productions
no_type b s = refl

pub no_qualified : (b : Bool) (s : State) → (productions 0).qualified_type b s ≡ None
unfolding productions
no_qualified b s = refl

pub no_encoding : (s : State) → (productions 0).encoding s ≡ None
unfolding productions
no_encoding s = refl

pub ruleset opens = (encoding_opens, no_encoding, name_opens, no_name, arg_opens, no_arg, expression_opens, no_expression, braced_opens, no_braced, declaration_opens, no_declaration, type_opens, no_type, qualified_opens, no_qualified)
