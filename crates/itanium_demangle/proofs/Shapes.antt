-- The shapes of trees, and the states at positions.
use Rattle.std.proofs.Common.{◌≡◌, ℕ, suc, ◌-◌, get_or, arith, Bool, true, false, List, [], ◌∷◌, ◌++◌, map, length, take, refl, sym, ap, Option, Some, None, ◌∙◌, if◌then◌else◌}
use Rattle.std.proofs.lemmas.List.{map-append, length-map, length-append, get_or-map}
use Rattle.std.proofs.Math.Seq.{set-append_seam, get_or-append_seam}
use Rattle.std.specs.Prelude.{option_map, is_some, not}
use Rattle.std.specs.List.{take-map}
use Rattle.demangle_text.specs.Shape.{Shape, plain_shape}
use Rattle.demangle_text.specs.State.{with_arg, last_args}
use Rattle.demangle_quals.specs.declared.quals.Quals.{Quals}
use Rattle.demangle_quals.specs.declared.quals.Pointer.{Pointer}
use Rattle.demangle_edit.specs.Types.{pointer_shape, cv_shape, array_shape, member_pointer_shape, function_shape, expansion_shape}
use Rattle.demangle_edit.specs.Expressions.{literal_shape, address_shape, operand_shape}
use Rattle.demangle_edit.specs.Lists.{arguments_shape, pack_shape, lambda_shape}
use Rattle.demangle_edit.specs.Names.{qualified, qualified_ctor, attached, tagged, with_name_qualifiers, encoding_shape}
use Rattle.itanium_syntax.specs.declared.offsets.ThunkOffsets.{ThunkOffsets}
use Rattle.itanium_syntax.specs.declared.abbreviations.Abbreviation.{Abbreviation}
use Rattle.itanium_grammar.specs.Tree.{Tree, worded, temporary_of, construction_of, thunk_of, worded_shape}
use Rattle.itanium_grammar.specs.Tree.{temporary_shape, construction_shape, thunk_shape, Operand, operand}
use Rattle.itanium_grammar.specs.Tree.{shape_of_operand, literal_of, address_of, pre_of, unary_of, post_of, binary_of}
use Rattle.itanium_grammar.specs.Tree.{greater_of, conditional_of, pre_shape, post_shape, binary_shape, greater_shape}
use Rattle.itanium_grammar.specs.Tree.{conditional_shape, shape_of, bare_shape, own_quals}
use Rattle.itanium_grammar.specs.Tree.{encoding_of, function_encoding, plain_text, abbreviation, name_in, ctor_dtor_of}
use Rattle.itanium_grammar.specs.Tree.{with_args, pointer_to, cv_of, array_of, member_of, function_to}
use Rattle.itanium_grammar.specs.Tree.{elaborated, elaborated_shape, abbreviation_shape, trees, shape_of, shape_each}
use Rattle.itanium_grammar.specs.Tree.{in_parent, tagged_with, lambda_of, conversion_to, conversion_shape, pack_of}
use Rattle.itanium_grammar.specs.Tree.{expansion_of, expanded}
use Rattle.itanium_grammar.specs.Grammar.{last_of, scopes_inside}
use Rattle.itanium_grammar.proofs.Scopes.{Keeps, taken_scopes}
use Rattle.itanium_reader.specs.Parser as parser
use Rattle.itanium_reader.specs.Parser.{ParserState}

pub shape-plain_text : (bytes : List ℕ) → shape_of (plain_text bytes) ≡ plain_shape bytes
unfolding shape_of
shape-plain_text bytes = refl

pub shape-name_in : (parent leaf : Tree) → shape_of (name_in parent leaf) ≡ qualified (shape_of parent) (shape_of leaf)
unfolding shape_of
shape-name_in parent leaf = refl

pub shape-abbreviation : (abbreviated : Abbreviation) → shape_of (abbreviation abbreviated) ≡ abbreviation_shape abbreviated
unfolding shape_of
shape-abbreviation abbreviated = refl

pub shape-ctor_dtor_of : (parent : Tree) (destructor : Bool) → shape_of (ctor_dtor_of parent destructor) ≡ qualified_ctor (shape_of parent) destructor
unfolding shape_of
shape-ctor_dtor_of parent destructor = refl

shape_each-trees : (ts : List Tree) → shape_each (trees ts) ≡ map shape_of ts
unfolding shape_of
shape_each-trees [] = refl
shape_each-trees (t ∷ ts) = ap (λ us. shape_of t ∷ us) (shape_each-trees ts)

pub shape-with_args : (name : Tree) (list : List Tree) → shape_of (with_args name (trees list)) ≡ attached (shape_of name) (arguments_shape (map shape_of list))
unfolding shape_of
shape-with_args name list = ap (λ us. attached (shape_of name) (arguments_shape us)) (shape_each-trees list)

pub shape-pointer_to : (kind : Pointer) (t : Tree) → shape_of (pointer_to kind t) ≡ pointer_shape kind (shape_of t)
unfolding shape_of
shape-pointer_to kind t = refl

pub shape-cv_of : (quals : Quals) (t : Tree) → shape_of (cv_of quals t) ≡ cv_shape quals (shape_of t)
unfolding shape_of
shape-cv_of quals t = refl

pub shape-array_of : (dimension : Option ℕ) (t : Tree) → shape_of (array_of dimension t) ≡ array_shape dimension (shape_of t)
unfolding shape_of
shape-array_of dimension t = refl

pub shape-member_of : (class t : Tree) → shape_of (member_of class t) ≡ member_pointer_shape (shape_of class) (shape_of t)
unfolding shape_of
shape-member_of class t = refl

pub shape-function_to : (ret : Tree) (params : List Tree) (quals : Quals) → shape_of (function_to ret (trees params) quals) ≡ function_shape (shape_of ret) (map shape_of params) quals
unfolding shape_of
shape-function_to ret params quals = ap (λ us. function_shape (shape_of ret) us quals) (shape_each-trees params)

pub shape-elaborated : (word : List ℕ) (t : Tree) → shape_of (elaborated word t) ≡ elaborated_shape word (shape_of t)
unfolding shape_of
shape-elaborated word t = refl

pub shape-tagged_with : (name : Tree) (tag : List ℕ) → shape_of (tagged_with name tag) ≡ tagged (shape_of name) tag
unfolding shape_of
shape-tagged_with name tag = refl

pub shape-lambda_of : (params : List Tree) (number : ℕ) → shape_of (lambda_of (trees params) number) ≡ lambda_shape (map shape_of params) number
unfolding shape_of
shape-lambda_of params number = ap (λ us. lambda_shape us number) (shape_each-trees params)

pub shape-conversion_to : (t : Tree) → shape_of (conversion_to t) ≡ conversion_shape (shape_of t)
unfolding shape_of
shape-conversion_to t = refl

pub shape-pack_of : (list : List Tree) → shape_of (pack_of (trees list)) ≡ pack_shape (map shape_of list)
unfolding shape_of
shape-pack_of list = ap pack_shape (shape_each-trees list)

shape-expansion_of : (t : Tree) → shape_of (expansion_of t) ≡ expansion_shape (shape_of t)
unfolding shape_of
shape-expansion_of t = refl

pub shape-expanded : (in_pack : Bool) (t : Tree) → shape_of (expanded in_pack t) ≡ (if in_pack then shape_of t else expansion_shape (shape_of t))
shape-expanded true t = refl
shape-expanded false t = shape-expansion_of t

pub shape-encoding_of : (name : Tree) → shape_of (encoding_of name) ≡ with_name_qualifiers (bare_shape name) (own_quals name) true
unfolding shape_of
shape-encoding_of name = refl

pub shape-function_encoding : (name : Tree) (params : List Tree) → shape_of (function_encoding name (trees params)) ≡ encoding_shape (bare_shape name) (map shape_of params) (own_quals name)
unfolding shape_of
shape-function_encoding name params = ap (λ us. encoding_shape (bare_shape name) us (own_quals name)) (shape_each-trees params)

pub shape-worded : (word : List ℕ) (t : Tree) (close : List ℕ) → shape_of (worded word t close) ≡ worded_shape word (shape_of t) close
unfolding shape_of
shape-worded word t close = refl

pub shape-temporary_of : (number : ℕ) (t : Tree) → shape_of (temporary_of number t) ≡ temporary_shape number (shape_of t)
unfolding shape_of
shape-temporary_of number t = refl

pub shape-construction_of : (t u : Tree) → shape_of (construction_of t u) ≡ construction_shape (shape_of t) (shape_of u)
unfolding shape_of
shape-construction_of t u = refl

pub shape-thunk_of : (offsets : ThunkOffsets) (t : Tree) → shape_of (thunk_of offsets t) ≡ thunk_shape offsets (shape_of t)
unfolding shape_of
shape-thunk_of offsets t = refl

pub shape-literal_of : (t : Tree) (value : List ℕ) → shape_of (literal_of t value) ≡ literal_shape (shape_of t) value
unfolding shape_of
shape-literal_of t value = refl

pub shape-address_of : (t : Tree) → shape_of (address_of t) ≡ address_shape (shape_of t)
unfolding shape_of
shape-address_of t = refl

pub shape-operand : (external : Bool) (t : Tree) → shape_of_operand (operand external t) ≡ operand_shape (not external) (shape_of t)
unfolding shape_of
shape-operand external t = refl

pub shape-pre_of : (op : List ℕ) (t : Tree) → shape_of (pre_of op t) ≡ pre_shape op (shape_of t)
unfolding shape_of
shape-pre_of op t = refl

pub shape-unary_of : (op : List ℕ) (o : Operand) → shape_of (unary_of op o) ≡ pre_shape op (shape_of_operand o)
unfolding shape_of
shape-unary_of op o = refl

pub shape-post_of : (o : Operand) (op : List ℕ) → shape_of (post_of o op) ≡ post_shape (shape_of_operand o) op
unfolding shape_of
shape-post_of o op = refl

pub shape-binary_of : (o : Operand) (op : List ℕ) (m : Operand) → shape_of (binary_of o op m) ≡ binary_shape (shape_of_operand o) op (shape_of_operand m)
unfolding shape_of
shape-binary_of o op m = refl

pub shape-greater_of : (t u : Tree) → shape_of (greater_of t u) ≡ greater_shape (shape_of t) (shape_of u)
unfolding shape_of
shape-greater_of t u = refl

pub shape-conditional_of : (o m n : Operand) → shape_of (conditional_of o m n) ≡ conditional_shape (shape_of_operand o) (shape_of_operand m) (shape_of_operand n)
unfolding shape_of
shape-conditional_of o m n = refl

pub shape-in_parent : (parent : Option Tree) (leaf : Tree) → shape_of (in_parent parent leaf) ≡ parser.in_parent (option_map shape_of parent) (shape_of leaf)
shape-in_parent None leaf = refl
shape-in_parent (Some parent) leaf = shape-name_in parent leaf

-- two answers that are the same, part by part
pub same_read : {A : Type 0} {a b : A} {r : List ℕ} {xs ys : List Shape} {vs ws : List (List Shape)} {e f m n : ℕ} → a ≡ b → xs ≡ ys → vs ≡ ws → e ≡ f → m ≡ n
    → ◌≡◌ {A = Option (A × ParserState)}
    (Some (a, record { rest = r; saved = xs; scopes = vs; entered = e; most_saved = m }))
    (Some (b, record { rest = r; saved = ys; scopes = ws; entered = f; most_saved = n }))
same_read p q w r s = cc

-- two states that are the same, part by part
pub same_state : {r : List ℕ} {xs ys : List Shape} {vs ws : List (List Shape)} {e f m n : ℕ} → xs ≡ ys → vs ≡ ws → e ≡ f → m ≡ n
    → ◌≡◌ {A = Option ParserState} (Some (record { rest = r; saved = xs; scopes = vs; entered = e; most_saved = m })) (Some (record { rest = r; saved = ys; scopes = ws; entered = f; most_saved = n }))
same_state q w r s = cc

pub one_more : (ts : List Tree) (t : Tree) → map shape_of ts ++ shape_of t ∷ [] ≡ map shape_of (ts ++ t ∷ [])
one_more ts t = sym (map-append shape_of ts (t ∷ []))

pub taken-map : (candidate : Bool) (ts : List Tree)
    → (if candidate then take (length (map shape_of ts) - 1) (map shape_of ts) else map shape_of ts) ≡ map shape_of (if candidate then take (length ts - 1) ts else ts)
taken-map true ts = rw (length-map ts shape_of) (take-map shape_of (length ts - 1) ts)
taken-map false ts = refl

pub some-map : (parent : Option Tree) → is_some (option_map shape_of parent) ≡ is_some parent
some-map None = refl
some-map (Some t) = refl

pub last-map : (ss : List (List Tree)) → last_args (map (map shape_of) ss) ≡ map shape_of (last_of ss)
last-map [] = refl
last-map (s ∷ ss) =
    ap (λ (n : ℕ). get_or (map (map shape_of) (s ∷ ss)) (n - 1) []) (length-map (s ∷ ss) (map shape_of))
    ∙ get_or-map (map shape_of) (s ∷ ss) (suc (length ss) - 1) [] [] (omega arith)

-- the last scope gains an argument
with_arg-own : (s : Shape) (outer : List (List Shape)) (own : List Shape) → with_arg s (outer ++ own ∷ []) ≡ outer ++ (own ++ s ∷ []) ∷ []
with_arg-own s outer own =
    let at : length (outer ++ own ∷ []) - 1 ≡ length outer = omega (arith, length-append outer (own ∷ [])) in
    rw (at, get_or-append_seam outer own [] []) (set-append_seam outer own [] (own ++ s ∷ []))

-- a list inside these scopes has opened a scope where the truth value says so, and so many scopes are then there
pub record IsInside (opens : Bool) (count : ℕ) (outer : List (List Tree)) (own : Option (List Tree)) : Type 0 where
  pub opened : opens ≡ is_some own
  pub count_is : count ≡ length (scopes_inside outer own)

-- so it is after an argument
pub inside_more : {o : Bool} {k : ℕ} {outer : List (List Tree)} {own : Option (List Tree)} (t : Tree) → IsInside o k outer own
    → IsInside o k outer (option_map (λ args. args ++ t ∷ []) own)
inside_more {own = None} t inside = inside
inside_more {outer = outer} {own = Some args} t inside = record {
  opened = inside.opened;
  count_is = inside.count_is ∙ length-append outer (args ∷ []) ∙ sym (length-append outer ((args ++ t ∷ []) ∷ []));
}

-- an argument goes into the list's own scope, and those that it opened are dropped
pub end_argument-scopes : {o : Bool} {k : ℕ} {outer : List (List Tree)} (own : Option (List Tree)) (t : Tree) {later : List (List Tree)}
    → IsInside o k outer own → Keeps (scopes_inside outer own) later
    → (if o then with_arg (shape_of t) (take k (map (map shape_of) later)) else take k (map (map shape_of) later))
    ≡ map (map shape_of) (scopes_inside outer (option_map (λ args. args ++ t ∷ []) own))
end_argument-scopes {k = k} {outer = outer} None t {later = later} inside keeps =
    rw (inside.opened, take-map (map shape_of) k later, inside.count_is) (ap (map (map shape_of)) (taken_scopes keeps))
end_argument-scopes {k = k} {outer = outer} (Some own) t {later = later} inside keeps =
    rw (inside.opened, take-map (map shape_of) k later, inside.count_is, taken_scopes keeps, map-append (map shape_of) outer (own ∷ []))
    (with_arg-own (shape_of t) (map (map shape_of) outer) (map shape_of own)
    ∙ ap (λ args. map (map shape_of) outer ++ args ∷ []) (one_more own t)
    ∙ sym (map-append (map shape_of) outer ((own ++ t ∷ []) ∷ [])))

-- a list begins
pub open_scope_if-scopes : (o : Bool) (outer : List (List Tree))
    → (if o then map (map shape_of) outer ++ [] ∷ [] else map (map shape_of) outer) ≡ map (map shape_of) (scopes_inside outer (if o then Some [] else None))
open_scope_if-scopes true outer = sym (map-append (map shape_of) outer ([] ∷ []))
open_scope_if-scopes false outer = refl

pub open_scope_if-inside : (o : Bool) (outer : List (List Tree))
    → IsInside o (length (map (map shape_of) (scopes_inside outer (if o then Some [] else None)))) outer (if o then Some [] else None)
open_scope_if-inside true outer = record { opened = refl; count_is = length-map (outer ++ [] ∷ []) (map shape_of) }
open_scope_if-inside false outer = record { opened = refl; count_is = length-map outer (map shape_of) }
