-- The state of reading, and what is learned of a name.
use Rattle.std.specs.Prelude.{ℕ, Bool, false, List, [], Option, None}
use Rattle.cxx_tree.specs.declared.kinds.Cv.{Cv}
use Rattle.cxx_tree.specs.declared.kinds.RefQual.{RefQual}
use Rattle.cxx_tree.specs.declared.kinds.RefQual.TheVariants as refqual
use Rattle.cxx_tree.specs.Tree.{Tree, Trees}

-- how many names were invented for declared template parameters: of types, of values and of templates
pub record Invented : Type 0 where
  pub types : ℕ
  pub values : ℕ
  pub templates : ℕ

pub record State : Type 0 where
  -- the bytes that aren't read yet
  pub rest : List ℕ
  -- the substitution candidates
  pub saved : List Tree
  -- how many nodes were counted before bindings: those that are or contain a template parameter, replaced or not
  pub replaced : ℕ
  pub invented : Invented
  -- how many binders of template parameters are around this place. What sets it puts it back
  pub level : ℕ

-- all bytes are left, and nothing is saved
abbrev pub start : List ℕ → State
start bytes = record {
  rest = bytes;
  saved = [];
  replaced = 0;
  invented = record { types = 0; values = 0; templates = 0 };
  level = 0;
}

-- what an encoding learns of its name
pub record Info : Type 0 where
  -- the name ends with template arguments
  pub ends_with_args : Bool
  -- a component was a constructor, a destructor or a conversion operator
  pub no_return : Bool
  -- the qualifiers after `N`
  pub cv : Cv
  pub ref : RefQual
  -- `H` stood after `N`: the first parameter is the object
  pub explicit_object : Bool
  -- the arguments of the name after `CI`
  pub inherited : Option Trees

-- a name, and what is learned of it
pub record LearnedName : Type 0 where
  pub tree : Tree
  pub info : Info

abbrev pub no_cv : Cv
no_cv = record { is_const = false; is_volatile = false; is_restrict = false }

abbrev pub info_of : Cv → RefQual → Info
info_of cv ref = record {
  ends_with_args = false;
  no_return = false;
  cv = cv;
  ref = ref;
  explicit_object = false;
  inherited = None;
}

abbrev pub no_info : Info
no_info = info_of no_cv refqual.None

-- a name of which nothing is learned
abbrev pub plain : Tree → LearnedName
plain t = record { tree = t; info = no_info }
