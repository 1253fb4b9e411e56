-- What a production hands down to those inside it: four flags, all off at the start of a symbol.
--   words_shown: words such as ` const` are printed after a name. On in a local or external name.
--   dots_hidden: a pack expansion prints no `...`. On in an argument pack.
--   lambda: a template parameter prints `auto`. On in the parameters of a lambda.
--   in_type: the template arguments of a name open no scope. On in a type, but not in an encoding inside it.
use Rattle.std.specs.Prelude.{Bool, true, false, not, ◌&&◌}
use Rattle.itanium_syntax.specs.declared.context.Context.{Context}

-- a list opens a scope if it belongs to a name and no type is around it
abbrev pub opens_scope : Bool → Context → Bool
opens_scope of_name x = of_name && not x.in_type

-- the context inside a type
abbrev pub inside_type : Context → Context
inside_type x = record x { in_type = true }

-- the context in which a pack expansion prints no dots, as inside an argument pack
abbrev pub hiding_dots : Context → Context
hiding_dots x = record x { dots_hidden = true }

-- the context inside a lambda's signature
abbrev pub inside_lambda : Context → Context
inside_lambda x = record x { lambda = true }

-- the context in which the words of qualifiers are shown, as inside a local name
abbrev pub showing_words : Context → Context
showing_words x = record x { words_shown = true }

-- the context inside the encoding of a local or an external name: no type is around it
abbrev pub inside_encoding : Context → Context
inside_encoding x = record x { words_shown = true; in_type = false }
