-- What a reader's call gives.
use Rattle.std.specs.Prelude.{◌≡◌, ℕ, ◌<◌, ◌≤◌, List, drop, take, Option, Some, None, Result, Ok, Err, map, length, option_map, IfSome, false}
use Rattle.std.specs.List.{AllByRecursion}
use Rattle.std.specs.Borrow.{Bor}
use Rattle.cxx_tree.specs.Texts.{number_printed}
use Rattle.cxx_tree.specs.declared.node.List as handle
use Rattle.cxx_tree.specs.declared.node.NodeText.{NodeText}
use Rattle.cxx_tree.specs.declared.kinds.Cv.{Cv}
use Rattle.cxx_tree.specs.declared.kinds.RefQual.{RefQual}
use Rattle.cxx_tree.specs.declared.kinds.RefQual.TheVariants as refqual
use Rattle.cxx_tree.specs.declared.arena.Stop.{Stop}
use Rattle.cxx_tree.specs.declared.arena.Stop.TheVariants.{Unreadable, Memory}
use Rattle.cxx_tree.specs.Tree.{Tree, Trees}
use Rattle.cxx_tree.specs.Stored.{Store, IsListBelow, IsText, size, list_at, stands, saved_trees, text_at, trees_from_list}
use Rattle.cxx_tree.specs.Kept.{IsNode, KeepsNodes}
use Rattle.cxx_grammar.specs.State as grammar
use Rattle.cxx_grammar.specs.Names as names
use Rattle.cxx_grammar.specs.Bases.{args_of}
use Rattle.cxx_grammar.specs.Declarations as declarations
use Rattle.cxx_grammar.specs.Unnamed as unnamed
use Rattle.cxx_grammar.specs.Symbol as symbols
use Rattle.cxx_tree.specs.declared.lambdas.Signature.{Signature}
use Rattle.cxx_reader.specs.declared.counts.Count.{Count}
use Rattle.cxx_reader.specs.declared.declarations.Declared.{Declared}
use Rattle.cxx_reader.specs.declared.names.Part.{Part}
use Rattle.cxx_reader.specs.declared.names.Place.{Place}
use Rattle.cxx_reader.specs.declared.reader.Info.{Info}
use Rattle.cxx_reader.specs.declared.reader.Invented.{Invented}
use Rattle.cxx_reader.specs.declared.reader.LearnedName.{LearnedName}
use Rattle.cxx_reader.specs.declared.reader.Reader.{Reader}
use Rattle.cxx_reader.specs.declared.symbols.Reading.{Reading}

-- how many names were invented
abbrev pub invented_at : Invented → grammar.Invented
invented_at i = record { types = i.types; values = i.values; templates = i.templates }

-- the parser's state that a reader stands for
abbrev pub state : Reader → grammar.State
state r = record {
  rest = r.rest.now;
  saved = saved_trees r.arena;
  replaced = r.replaced;
  invented = invented_at r.invented;
  level = r.level;
}

-- a call kept what was there: the nodes, and those that are collected. It read no byte again
pub record Keeps (old new : Reader) : Type 0 where
  pub grows : KeepsNodes old.arena new.arena
  pub pending : new.arena.pending ≡ old.arena.pending
  pub within : length new.rest.now ≤ length old.rest.now

-- the same of a call that reads at least one byte
pub record Moves (old new : Reader) : Type 0 where
  pub keeps : Keeps old new
  pub takes : length new.rest.now < length old.rest.now

-- a call kept the nodes, and those that were collected before an index. It read no byte again
pub record KeepsFront (from : ℕ) (old new : Reader) : Type 0 where
  pub grows : KeepsNodes old.arena new.arena
  pub front : take from new.arena.pending ≡ take from old.arena.pending
  pub long : from ≤ length new.arena.pending
  pub within : length new.rest.now ≤ length old.rest.now

-- The call gives what the parser gives: a value that refers to nodes, and what it stands for. Nothing is said where
-- memory was refused.
abbrev pub GivesAs : {A B : Type 0} → (Store → A → Type 0) → (Store → A → B)
    → Result A Stop → Reader → Option (B × grammar.State) → Type 0
GivesAs refers at (Ok a) after parsed = refers after.arena a × (parsed ≡ Some (at after.arena a, state after))
GivesAs refers at (Err Unreadable) after parsed = parsed ≡ None
GivesAs refers at (Err Memory) after parsed = Unit {0}

-- a node
abbrev pub Gives : Result ℕ Stop → Reader → Option (Tree × grammar.State) → Type 0
Gives r after parsed = GivesAs IsNode stands r after parsed

-- a node or none
abbrev pub GivesOption : Result (Option ℕ) Stop → Reader → Option (Option Tree × grammar.State) → Type 0
GivesOption r after parsed = GivesAs (λ a o. IfSome o (IsNode a)) (λ a o. option_map (stands a) o) r after parsed

-- the trees of a list of an arena
unfoldable pub list_trees : Store → handle.List → Trees
list_trees a l = trees_from_list (map (stands a) (list_at a.held l))

-- a list
abbrev pub GivesList : Result handle.List Stop → Reader → Option (Trees × grammar.State) → Type 0
GivesList r after parsed = GivesAs (λ a l. IsListBelow a.held (size a) l) list_trees r after parsed

-- the trees of the nodes that are collected, from an index on
abbrev pub trees_behind : ℕ → Store → List Tree
trees_behind from a = map (stands a) (drop from a.pending)

-- nodes that are collected, from an index on
abbrev pub GivesFrom : Result (Unit {0}) Stop → ℕ → Reader → Option (List Tree × grammar.State) → Type 0
GivesFrom r from after parsed =
    GivesAs (λ a u. AllByRecursion (IsNode a) (drop from a.pending)) (λ a u. trees_behind from a) r after parsed

-- a list or none
abbrev pub GivesOptionList : Result (Option handle.List) Stop → Reader → Option (Option Trees × grammar.State) → Type 0
GivesOptionList r after parsed =
    GivesAs (λ a o. IfSome o (IsListBelow a.held (size a))) (λ a o. option_map (list_trees a) o) r after parsed

-- a number that was read
abbrev pub GivesCount : Result ℕ Stop → Reader → Option (ℕ × grammar.State) → Type 0
GivesCount (Ok n) after parsed = parsed ≡ Some (n, state after)
GivesCount (Err Unreadable) after parsed = parsed ≡ None
GivesCount (Err Memory) after parsed = ⊥

-- bytes that were read
abbrev pub GivesText : Result (Bor (List ℕ)) Stop → Reader → Option (List ℕ × grammar.State) → Type 0
GivesText (Ok bytes) after parsed = parsed ≡ Some (bytes.now, state after)
GivesText (Err Unreadable) after parsed = parsed ≡ None
GivesText (Err Memory) after parsed = ⊥

-- bytes that are copied
abbrev pub Copies : Result NodeText Stop → Store → List ℕ → Type 0
Copies (Ok t) a bytes = IsText a.held t × (text_at a.held t ≡ bytes)
Copies (Err Unreadable) a bytes = ⊥
Copies (Err Memory) a bytes = Unit {0}

-- a count that is copied, and its ordinal
abbrev pub CopiesCount : Result Count Stop → Store → List ℕ → List ℕ → Type 0
CopiesCount (Ok c) a count ordinal =
    (IsText a.held c.text × IsText a.held c.ordinal)
    × ((text_at a.held c.text ≡ count) × (text_at a.held c.ordinal ≡ ordinal))
CopiesCount (Err Unreadable) a count ordinal = ⊥
CopiesCount (Err Memory) a count ordinal = Unit {0}

-- a number as it is written, of which the parser gives what is printed
abbrev pub GivesNumber : Result (Bor (List ℕ)) Stop → Reader → Option (List ℕ × grammar.State) → Type 0
GivesNumber (Ok number) after parsed = parsed ≡ Some (number_printed number.now, state after)
GivesNumber (Err Unreadable) after parsed = parsed ≡ None
GivesNumber (Err Memory) after parsed = Unit {0}

-- nothing
abbrev pub GivesUnit : Result (Unit {0}) Stop → Reader → Option (Unit {0} × grammar.State) → Type 0
GivesUnit (Ok u) after parsed = parsed ≡ Some (tt, state after)
GivesUnit (Err Unreadable) after parsed = parsed ≡ None
GivesUnit (Err Memory) after parsed = ⊥

-- Names.

abbrev pub inherited_at : Store → Option ℕ → Option Trees
inherited_at a None = None
inherited_at a (Some i) = args_of (stands a i)

abbrev pub info_at : Store → Info → grammar.Info
info_at a i = record {
  ends_with_args = i.ends_with_args;
  no_return = i.no_return;
  cv = i.cv;
  ref = i.ref_qual;
  explicit_object = i.explicit_object;
  inherited = inherited_at a i.inherited;
}

-- the name after `CI` is a node, if there is one
abbrev pub IsInfo : Store → Info → Type 0
IsInfo a i = IfSome i.inherited (IsNode a)

-- what is learned of a name before its components are read
abbrev pub info_of : Cv → RefQual → Info
info_of cv ref = record {
  ends_with_args = false;
  no_return = false;
  cv = cv;
  ref_qual = ref;
  explicit_object = false;
  inherited = None;
}

abbrev pub no_info : Info
no_info = info_of grammar.no_cv refqual.None

-- the name that a node stands for
unfoldable pub named_at : Store → LearnedName → grammar.LearnedName
named_at a n = record { tree = stands a n.node; info = info_at a n.info }

abbrev pub IsNamed : Store → LearnedName → Type 0
IsNamed a n = IsNode a n.node × IsInfo a n.info

abbrev pub GivesNamed : Result LearnedName Stop → Reader → Option (grammar.LearnedName × grammar.State) → Type 0
GivesNamed r after parsed = GivesAs IsNamed named_at r after parsed

unfoldable pub place_at : Store → Place → names.Place
place_at a p = record {
  scope = option_map (stands a) p.scope;
  owner = option_map (stands a) p.owner;
  is_friend = p.is_friend;
  is_nested = p.is_nested;
  info = info_at a p.info;
}

abbrev pub IsPlace : Store → Place → Type 0
IsPlace a p = IfSome p.scope (IsNode a) × IfSome p.owner (IsNode a) × IsInfo a p.info

abbrev pub GivesPlace : Result Place Stop → Reader → Option (names.Place × grammar.State) → Type 0
GivesPlace r after parsed = GivesAs IsPlace place_at r after parsed

unfoldable pub part_at : Store → Part → names.Part
part_at a p = record { tree = stands a p.node; place = place_at a p.place }

abbrev pub IsPart : Store → Part → Type 0
IsPart a p = IsNode a p.node × IsPlace a p.place

abbrev pub GivesPart : Result Part Stop → Reader → Option (names.Part × grammar.State) → Type 0
GivesPart r after parsed = GivesAs IsPart part_at r after parsed

-- Binders.

-- the signature of a lambda
abbrev pub signature_at : Store → Signature → unnamed.Lambda
signature_at a s = record {
  declarations = list_trees a s.declarations;
  before = option_map (stands a) s.before;
  params = list_trees a s.params;
  behind = option_map (stands a) s.behind;
}

abbrev pub IsSignature : Store → Signature → Type 0
IsSignature a s =
    (IsListBelow a.held (size a) s.declarations × IfSome s.before (IsNode a))
    × (IsListBelow a.held (size a) s.params × IfSome s.behind (IsNode a))

abbrev pub GivesSignature : Result Signature Stop → Reader → Option (unnamed.Lambda × grammar.State) → Type 0
GivesSignature r after parsed = GivesAs IsSignature signature_at r after parsed

-- the declarations of a template, and their constraint
abbrev pub declared_at : Store → Declared → declarations.Declared
declared_at a d = record {
  declarations = list_trees a d.declarations;
  constraint = option_map (stands a) d.constraint;
}

abbrev pub IsDeclared : Store → Declared → Type 0
IsDeclared a d = IsListBelow a.held (size a) d.declarations × IfSome d.constraint (IsNode a)

abbrev pub GivesDeclared : Result Declared Stop → Reader → Option (declarations.Declared × grammar.State) → Type 0
GivesDeclared r after parsed = GivesAs IsDeclared declared_at r after parsed

-- Symbols.

unfoldable pub reading_at : Store → Reading → symbols.Reading
reading_at a r = record {
  tree = stands a r.tree;
  is_block = r.is_block;
  suffix = option_map (text_at a.held) r.suffix;
}

abbrev pub IsReading : Store → Reading → Type 0
IsReading a r = IsNode a r.tree × IfSome r.suffix (IsText a.held)

abbrev pub GivesReading : Result Reading Stop → Reader → Option (symbols.Reading × grammar.State) → Type 0
GivesReading r after parsed = GivesAs IsReading reading_at r after parsed

-- the suffix of a symbol that is copied, if there is one
abbrev pub CopiesSuffix : Result (Option NodeText) Stop → Store → Option (List ℕ) → Type 0
CopiesSuffix (Ok t) a suffix = IfSome t (IsText a.held) × (option_map (text_at a.held) t ≡ suffix)
CopiesSuffix (Err Unreadable) a suffix = ⊥
CopiesSuffix (Err Memory) a suffix = Unit {0}
