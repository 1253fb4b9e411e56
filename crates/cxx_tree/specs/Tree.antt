-- The trees of demangled symbols.
use Rattle.std.specs.Prelude.{ℕ, Bool, List}
use Rattle.cxx_tree.specs.declared.kinds.Std.{Std}
use Rattle.cxx_tree.specs.declared.kinds.Cv.{Cv}
use Rattle.cxx_tree.specs.declared.kinds.RefQual.{RefQual}
use Rattle.cxx_tree.specs.declared.kinds.Phrase.{Phrase}
use Rattle.cxx_tree.specs.declared.kinds.Manner.{Manner}
use Rattle.cxx_tree.specs.declared.kinds.Listing.{Listing}

mutual
  -- what a part of a symbol is read as
  pub data Tree : Type 0 where
    named : List ℕ → Tree  -- a name: it has the same text in both styles
    -- another text without a tree below it: in LLVM's style, and in GNU's. The flag says that it is an operand without
    -- parentheses in the latter
    leaf : Bool → List ℕ → List ℕ → Tree
    std_name : Std → Bool → Tree  -- an abbreviation of std, and whether it is written out
    phrase : Phrase → Parts → Tree  -- words and trees in a row
    scoped : Bool → Tree → Tree → Tree  -- a scope and a name; whether it is a friend's
    with_args : Tree → Trees → Tree  -- a name and its template arguments
    abi_tag : Tree → List ℕ → Tree  -- a name and an ABI tag of it
    in_module : Tree → Tree → Tree  -- a name and its module
    data_name : Tree → Tree  -- the name of what isn't a function
    objc_protocol : Tree → List ℕ → Tree  -- a type and an Objective-C protocol of it
    listed : Trees → Tree  -- what an argument list prints
    expansion : Tree → Tree  -- a pattern that is repeated for each element of the packs in it
    param : ℕ → ℕ → Tree  -- a template parameter, by level and index, before its binder is complete
    type_param : Tree → Tree → Tree  -- a template type parameter: the constraint or `typename`, and the name
    non_type_param : Tree → Tree → Tree  -- a template parameter that is a value: the name and the type
    template_param : Tree → Trees → Parts → Tree  -- a template template parameter: name, parameters and constraint
    pack_param : Tree → Tree  -- the declaration of a pack
    qualified : Tree → Cv → Tree  -- a type and its qualifiers
    pointer : Tree → Tree  -- a pointer to a type
    reference : Tree → Bool → Tree  -- a reference to a type, and whether it is an lvalue reference
    member_pointer : Tree → Tree → Tree  -- a pointer to a member: the class and the member's type
    array : Tree → Parts → Tree  -- an array: the type of its elements, and the dimension
    -- a function type: return type, parameters, qualifiers and exception specification
    function : Tree → Trees → Cv → RefQual → Parts → Tree
    -- a function: no return type or one, the name, the parameters, the qualifiers and what follows them
    encoding : Trees → Tree → Trees → Cv → RefQual → Parts → Tree
    pack : Trees → Tree  -- the arguments of a pack, of which one is printed at a time

  -- trees in a row
  pub data Trees : Type 0 where
    no_trees : Trees
    more_trees : Tree → Trees → Trees

  -- the parts of a phrase, in the order in which they are printed
  pub data Parts : Type 0 where
    no_parts : Parts
    text : List ℕ → List ℕ → Parts → Parts  -- a text, in LLVM's style and in GNU's
    tree : Manner → Tree → Parts → Parts  -- a tree, and how it is printed
    trees : Listing → Trees → Parts → Parts  -- a list of trees, and how it is printed
