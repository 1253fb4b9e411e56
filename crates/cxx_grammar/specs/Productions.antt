-- The counted productions: each cycle of the grammar goes through one of them, and at most so many may nest.
use Rattle.std.specs.Prelude.{ℕ, Bool}
use Rattle.cxx_tree.specs.Tree.{Tree}
use Rattle.cxx_grammar.specs.State.{LearnedName}
use Rattle.cxx_grammar.specs.Parses.{Parses, ◌<$>◌, refused}

-- The parsers of the counted productions. Each production is made of those inside of it, which are one deeper: it is a
-- function of `p`, the record of these.
pub record Productions : Type 0 where
  -- <encoding>
  pub encoding : Parses Tree
  -- <name>
  pub name : Parses LearnedName
  -- <type>. The flag says that it is bare: it ends the operator of a conversion, and a template parameter or a
  -- substitution at its end takes no arguments, since those that follow are the operator's
  pub type : Bool → Parses Tree
  -- <qualified-type>
  pub qualified_type : Bool → Parses Tree
  -- <template-arg>
  pub arg : Parses Tree
  -- <expression>
  pub expression : Parses Tree
  -- <braced-expression>
  pub braced : Parses Tree
  -- <template-param-decl>, with its number
  pub declaration : ℕ → Parses Tree

-- a name of which nothing else matters
abbrev pub name_tree : Productions → Parses Tree
name_tree p = (λ n. n.tree) <$> p.name

-- where no further one may nest
abbrev pub no_productions : Productions
no_productions = record {
  encoding = refused;
  name = refused;
  type = λ is_bare. refused;
  qualified_type = λ is_bare. refused;
  arg = refused;
  expression = refused;
  braced = refused;
  declaration = λ number. refused;
}
