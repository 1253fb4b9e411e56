-- Symbols of names and builtin types that have substitutions, and the same symbols with what these stand for in their
-- places. Both are read as the same tree, so they have the same text: the clauses of `src/laws.rt` say so.
use Rattle.std.specs.Prelude.{◌≡◌, ℕ, List, [], ◌∷◌, ◌++◌, ◌&&◌, codes, is_some, slice_get, Bool, true, false, Option, Some, None, option_map}
use Rattle.abi_scalars.specs.Scalars.{index_of}
use Rattle.abi_scalars.specs.Texts.{identifier}
use Rattle.abi_scalars.specs.declared.numerals.Radix.TheVariants.{Base36}
use Rattle.cxx_grammar.specs.Words.{builtin_of}
use Rattle.cxx_grammar.specs.Symbol.{Reading, parse_symbol}

-- What is written.

-- <source-name>
pub record SourceName : Type 0 where
  pub written : List ℕ
  pub name : List ℕ
  pub is_read : identifier written ≡ Some (name, [])

-- [<seq-id>] _
pub record SeqId : Type 0 where
  pub written : List ℕ
  pub index : ℕ
  pub is_read : index_of Base36 written ≡ Some (index, [])

-- <builtin-type> of one letter
pub record Letter : Type 0 where
  pub byte : ℕ
  pub is_known : is_some (builtin_of (byte ∷ [])) ≡ true

-- a name, and the scopes that it is in
pub data Path : Type 0 where
  outermost : SourceName → Path
  in_saved : SeqId → SourceName → Path  -- the scope is a substitution
  inside : Path → SourceName → Path

pub data Spelling : Type 0 where
  builtin : Letter → Spelling
  class : Path → Spelling  -- <class-enum-type>
  constant : Spelling → Spelling  -- K <type>
  pointer_to : Spelling → Spelling  -- P <type>
  lvalue : Spelling → Spelling  -- R <type>
  rvalue : Spelling → Spelling  -- O <type>
  substitution : SeqId → Spelling  -- <substitution>

-- a function with its parameters, or data, which has none
pub record Function : Type 0 where
  pub name : Path
  pub params : List Spelling

-- How it is written: each function puts its bytes in front of others.

unfoldable pub spelled_path : Path → List ℕ → List ℕ
spelled_path (outermost n) rest = n.written ++ rest
spelled_path (in_saved id n) rest = codes "S" ++ (id.written ++ (n.written ++ rest))
spelled_path (inside scope n) rest = spelled_path scope (n.written ++ rest)

-- <source-name>, or N .. E
unfoldable pub spelled_name : Path → List ℕ → List ℕ
spelled_name (outermost n) rest = n.written ++ rest
spelled_name (in_saved id n) rest = codes "N" ++ spelled_path (in_saved id n) (codes "E" ++ rest)
spelled_name (inside scope n) rest = codes "N" ++ spelled_path (inside scope n) (codes "E" ++ rest)

unfoldable pub spelled : Spelling → List ℕ → List ℕ
spelled (builtin b) rest = b.byte ∷ rest
spelled (class path) rest = spelled_name path rest
spelled (constant t) rest = codes "K" ++ spelled t rest
spelled (pointer_to t) rest = codes "P" ++ spelled t rest
spelled (lvalue t) rest = codes "R" ++ spelled t rest
spelled (rvalue t) rest = codes "O" ++ spelled t rest
spelled (substitution id) rest = codes "S" ++ (id.written ++ rest)

unfoldable pub spelled_each : List Spelling → List ℕ
spelled_each [] = []
spelled_each (t ∷ ts) = spelled t (spelled_each ts)

-- _Z <name> <type>*
abbrev pub symbol_of : Function → List ℕ
symbol_of f = codes "_Z" ++ spelled_name f.name (spelled_each f.params)

-- Writing out. Each function has the substitution candidates so far, written out too, and gives those after it. Nothing
-- is given where a substitution has no candidate, or a scope isn't a name.

abbrev pub in_candidate : Option Spelling → SourceName → List Spelling → Option (Path × List Spelling)
in_candidate (Some (class scope)) n saved = Some (inside scope n, saved)
in_candidate other n saved = None

-- a scope is a candidate
abbrev pub in_scope : Option (Path × List Spelling) → SourceName → Option (Path × List Spelling)
in_scope None n = None
in_scope (Some (scope, saved)) n = Some (inside scope n, saved ++ class scope ∷ [])

unfoldable pub write_path : Path → List Spelling → Option (Path × List Spelling)
write_path (outermost n) saved = Some (outermost n, saved)
write_path (in_saved id n) saved = in_candidate (slice_get saved id.index) n saved
write_path (inside scope n) saved = in_scope (write_path scope saved) n

-- what is made of a part is a candidate
abbrev pub and_save : {A : Type 0} → (A → Spelling) → Option (A × List Spelling)
    → Option (Spelling × List Spelling)
and_save around None = None
and_save around (Some (part, saved)) = Some (around part, saved ++ around part ∷ [])

unfoldable pub write_type : Spelling → List Spelling → Option (Spelling × List Spelling)
write_type (builtin b) saved = Some (builtin b, saved)
write_type (class path) saved = and_save class (write_path path saved)
write_type (constant t) saved = and_save constant (write_type t saved)
write_type (pointer_to t) saved = and_save pointer_to (write_type t saved)
write_type (lvalue t) saved = and_save lvalue (write_type t saved)
write_type (rvalue t) saved = and_save rvalue (write_type t saved)
write_type (substitution id) saved = option_map (λ t. (t, saved)) (slice_get saved id.index)

abbrev pub in_front : Spelling → Option (List Spelling) → Option (List Spelling)
in_front t None = None
in_front t (Some ts) = Some (t ∷ ts)

-- a type, and those after it
abbrev pub write_next : Option (Spelling × List Spelling) → (List Spelling → Option (List Spelling))
    → Option (List Spelling)
write_next None others = None
write_next (Some (t, saved)) others = in_front t (others saved)

unfoldable pub write_each : List Spelling → List Spelling → Option (List Spelling)
write_each [] saved = Some []
write_each (t ∷ ts) saved = write_next (write_type t saved) (write_each ts)

abbrev pub write_params : Option (Path × List Spelling) → List Spelling → Option Function
write_params None ts = None
write_params (Some (name, saved)) ts =
    option_map (λ params. record { name = name; params = params }) (write_each ts saved)

abbrev pub write_out : Function → Option Function
write_out f = write_params (write_path f.name []) f.params

-- The law.

unfoldable pub is_plain_path : Path → Bool
is_plain_path (outermost n) = true
is_plain_path (in_saved id n) = false
is_plain_path (inside scope n) = is_plain_path scope

-- no substitution is in it
unfoldable pub is_plain : Spelling → Bool
is_plain (builtin b) = true
is_plain (class path) = is_plain_path path
is_plain (constant t) = is_plain t
is_plain (pointer_to t) = is_plain t
is_plain (lvalue t) = is_plain t
is_plain (rvalue t) = is_plain t
is_plain (substitution id) = false

unfoldable pub are_plain : List Spelling → Bool
are_plain [] = true
are_plain (t ∷ ts) = is_plain t && are_plain ts

pub record SubstitutionsCanBeWrittenOut : Type 0 where
  -- no substitution is left
  pub none_left : (f g : Function) → write_out f ≡ Some g → (is_plain_path g.name && are_plain g.params) ≡ true
  -- where both symbols are within the limits they are read as the same
  pub same : (f g : Function) → write_out f ≡ Some g → (r s : Reading) → parse_symbol (symbol_of f) ≡ Some r
      → parse_symbol (symbol_of g) ≡ Some s → r ≡ s
