-- What becomes of template parameters when their binder is complete.
use Rattle.std.specs.Prelude.{◌||◌, ℕ, ◌+◌, List, [], ◌∷◌, ◌++◌, nat_eq, nat_le, Bool, true, false, is_some, Option, Some, None, if◌then◌else◌}
use Rattle.cxx_tree.specs.declared.bind.Others.TheVariants.{Keep, Written}
use Rattle.cxx_tree.specs.declared.bind.Others.{Others}
use Rattle.cxx_tree.specs.Tree.{Tree, Trees, no_trees, more_trees}
use Rattle.cxx_tree.specs.Measure.{measure}
use Rattle.cxx_tree.specs.Bind.{Binding, bind}
use Rattle.cxx_grammar.specs.State.{Info, LearnedName}
use Rattle.cxx_grammar.specs.Parses.{Parses, ◌>>=◌, ◌>>◌, pure, check, make}
use Rattle.cxx_grammar.specs.Bases.{args_of, declared_name}

-- at most 65,536 nodes of a symbol are counted
abbrev pub count_nodes : ℕ → Parses (Unit {0})
count_nodes n s = if nat_le (s.replaced + n) 65536 then Some (tt, record s { replaced = s.replaced + n }) else None

-- the nodes of a tree that are or contain a template parameter, whether it is replaced or not
abbrev pub count_replaced : Tree → Parses (Unit {0})
count_replaced t = count_nodes (measure t).params

-- what is bound is within the limits
abbrev pub bind_by : Binding → Tree → Parses Tree
bind_by binding t = make (bind binding t)

-- the names of declarations
unfoldable pub names_of : Trees → List Tree
names_of no_trees = []
names_of (more_trees declaration declarations) = declared_name declaration ∷ names_of declarations

-- a binder with these declarations: each parameter of its level that has one becomes its name
unfoldable pub bind_declared : ℕ → Others → Trees → Tree → Parses Tree
bind_declared level others declarations t = do
  count_replaced t
  bind_by (record { level = level; names = names_of declarations; others = others }) t

-- a constraint: its template parameters are printed as they are mangled. Compilers write parameters of outer classes
-- there, for which no argument stands
unfoldable pub bind_constraint : Tree → Parses Tree
bind_constraint e = do
  count_replaced e
  bind_by (record { level = 0; names = []; others = Written }) e

-- the parameters of an encoding stand for these trees
abbrev pub binding_of : List Tree → Binding
binding_of args = record { level = 0; names = args; others = Keep }

abbrev pub bind_tree : List Tree → Tree → Parses Tree
bind_tree args t = bind_by (binding_of args) t

-- an argument that isn't part of the encoding's tree is counted by itself
abbrev pub count_arg : Bool → Tree → Parses (Unit {0})
count_arg is_inherited arg = if is_inherited then count_replaced arg else pure tt

-- an argument, with those before it in the place of its parameters
abbrev pub bind_arg : Bool → List Tree → Tree → Parses Tree
bind_arg is_inherited bound arg = do
  count_arg is_inherited arg
  bind_tree bound arg

-- the arguments, after others that are bound
unfoldable pub bind_args : Bool → List Tree → Trees → Parses (List Tree)
bind_args is_inherited bound no_trees = pure bound
bind_args is_inherited bound (more_trees arg args) = do
  a ← bind_arg is_inherited bound arg
  bind_args is_inherited (bound ++ a ∷ []) args

-- the arguments of the name after `CI`, unless the name ends with its own
abbrev pub inherited_args : Info → Option Trees
inherited_args info = if info.ends_with_args then None else info.inherited

-- the name has arguments, for which the parameters of its encoding stand
abbrev pub has_args : LearnedName → Bool
has_args n = is_some (inherited_args n.info) || is_some (args_of n.tree)

-- the arguments of an encoding: inherited ones, or else those of its name
abbrev pub bind_first : Option Trees → Option Trees → Parses (List Tree)
bind_first (Some inherited) own = bind_args true [] inherited
bind_first None (Some own) = bind_args false [] own
bind_first None None = pure []

-- without a template parameter
unfoldable pub parse_closed : Tree → Parses Tree
parse_closed t = do
  check (nat_eq (measure t).params 0)
  pure t

-- a tree with these in the place of its template parameters, of which none is left
abbrev pub bind_all : List Tree → Tree → Parses Tree
bind_all args t = do
  u ← bind_tree args t
  parse_closed u

-- the same with the arguments of a name
abbrev pub bind_counted : LearnedName → Tree → Parses Tree
bind_counted n t = do
  args ← bind_first (inherited_args n.info) (args_of n.tree)
  bind_all args t

-- the tree of an encoding, with the arguments of its name in the place of its template parameters
unfoldable pub bind_encoding : LearnedName → Tree → Parses Tree
bind_encoding n t = do
  count_replaced t
  bind_counted n t
