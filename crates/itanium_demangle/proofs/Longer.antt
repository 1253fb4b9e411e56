-- What is read after a text gives no shorter one.
use Rattle.std.proofs.Common.{◌≤◌, ℕ, Bool, true, false, List, [], ◌++◌, arith, Option, Some, None}
use Rattle.std.proofs.lemmas.List.{length-append}
use Rattle.demangle_text.specs.Shape.{text, text_len}
use Rattle.itanium_syntax.specs.declared.offsets.ThunkOffsets.{ThunkOffsets}
use Rattle.itanium_syntax.specs.declared.offsets.ThunkOffsets.TheVariants.{Single, Covariant}
use Rattle.itanium_syntax.specs.declared.context.Context.{Context}
use Rattle.std.specs.Prelude.{codes}
use Rattle.abi_scalars.specs.Scalars.{source_text}
use Rattle.itanium_grammar.specs.Tree.{Tree, shape_of, shape_each, bare_shape, name_in, ctor_dtor_of}
use Rattle.itanium_grammar.specs.Tree.{tagged_with, with_args, local_in, string_literal_of, default_argument_of, trees}
use Rattle.itanium_grammar.specs.Tree.{in_parent, thunk_of, offset_text}
use Rattle.itanium_grammar.specs.Grammar.{Position, Cost, TaggedAs, UnqualifiedAs, Unqualified, AttachedAs}
use Rattle.itanium_grammar.specs.Grammar.{SegmentsAs, EntityAs, no_tag, next_tag, constructor_unqualified}
use Rattle.itanium_grammar.specs.Grammar.{destructor_unqualified, ordinary_unqualified, unqualified, none_attached}
use Rattle.itanium_grammar.specs.Grammar.{args_attached, end_of_segments, args_segment, name_segment}
use Rattle.itanium_grammar.specs.Grammar.{string_literal_entity, default_argument_entity, name_entity}
use Rattle.itanium_grammar.specs.Cases.{TagCase, UnqualifiedCase, AttachedCase, SegmentCase, EntityCase}
use Rattle.demangle_edit.specs.Lists.{arguments_shape}
use Rattle.itanium_demangle.proofs.Grows.{appended_longer, tagged_longer, attached_longer, ctor_longer, parent_longer, leaf_longer, default_parent_longer, default_entity_longer}

-- of trees
tag_longer : (t : Tree) (tag : List ℕ) → text_len (shape_of t) ≤ text_len (shape_of (tagged_with t tag))
unfolding shape_of
tag_longer t tag = tagged_longer (shape_of t) tag

ctor_of_longer : (parent : Tree) (destructor : Bool) → text_len (shape_of parent) ≤ text_len (shape_of (ctor_dtor_of parent destructor))
unfolding shape_of
ctor_of_longer parent destructor = ctor_longer (shape_of parent) destructor

name_in_longer : (parent leaf : Tree) → text_len (shape_of parent) ≤ text_len (shape_of (name_in parent leaf))
unfolding shape_of
name_in_longer parent leaf = parent_longer (shape_of parent) (shape_of leaf)

pub in_parent_longer : (parent : Option Tree) (leaf : Tree) → text_len (shape_of leaf) ≤ text_len (shape_of (in_parent parent leaf))
unfolding shape_of
in_parent_longer None leaf = omega arith
in_parent_longer (Some parent) leaf = leaf_longer (shape_of parent) (shape_of leaf)

pub with_args_longer : (t : Tree) (list : List Tree) → text_len (shape_of t) ≤ text_len (shape_of (with_args t (trees list)))
unfolding shape_of
with_args_longer t list = attached_longer (shape_of t) (arguments_shape (shape_each (trees list)))

string_longer : (t : Tree) → text_len (shape_of t) ≤ text_len (bare_shape (string_literal_of t))
unfolding shape_of
string_longer t = appended_longer (codes "::string literal") (shape_of t)

default_of_longer : (t u : Tree) (number : ℕ) → text_len (shape_of t) ≤ text_len (bare_shape (default_argument_of t number u))
unfolding shape_of
default_of_longer t u number = default_parent_longer (shape_of t) (bare_shape u) number

local_longer : (t u : Tree) → text_len (shape_of t) ≤ text_len (bare_shape (local_in t u))
unfolding shape_of
local_longer t u = parent_longer (shape_of t) (bare_shape u)

-- an encoding is no longer than its thunk
pub thunk_longer : (offsets : ThunkOffsets) (t : Tree) → text_len (shape_of t) ≤ text_len (shape_of (thunk_of offsets t))
unfolding shape_of
thunk_longer (Single o) t =
    let front = codes "{virtual override thunk(" in
    let after = text (shape_of t) ++ (codes ")}" ++ []) in
    omega (
      arith,
      length-append front (offset_text o ++ (codes ", " ++ after)),
      length-append (offset_text o) (codes ", " ++ after),
      length-append (codes ", ") after,
      length-append (text (shape_of t)) (codes ")}" ++ []),
    )
thunk_longer (Covariant o p) t =
    let front = codes "{virtual override thunk(" in
    let after = text (shape_of t) ++ (codes ")}" ++ []) in
    let second = offset_text p ++ (codes ", " ++ after) in
    omega (
      arith,
      length-append front (offset_text o ++ (codes ", " ++ second)),
      length-append (offset_text o) (codes ", " ++ second),
      length-append (codes ", ") second,
      length-append (offset_text p) (codes ", " ++ after),
      length-append (codes ", ") after,
      length-append (text (shape_of t)) (codes ")}" ++ []),
    )

-- an entity is no longer than it is in its encoding
pub default_holds : (t u : Tree) (number : ℕ) → text_len (shape_of u) ≤ text_len (shape_of (default_argument_of t number u))
unfolding shape_of
default_holds t u number = default_entity_longer (shape_of t) (shape_of u) number

pub local_holds : (t u : Tree) → text_len (shape_of u) ≤ text_len (shape_of (local_in t u))
unfolding shape_of
local_holds t u = leaf_longer (shape_of t) (shape_of u)

-- of readings
pub tags_longer : {case : TagCase} {t u : Tree} {p q : Position} → TaggedAs case t p u q → text_len (shape_of t) ≤ text_len (shape_of u)
tags_longer no_tag = omega arith
tags_longer (next_tag {t = t} {bytes = b} found tags) =
    let here = tag_longer t (source_text b) in
    let more = tags_longer tags in
    omega arith

unqualified_as_longer : {case : UnqualifiedCase} {x : Context} {parent u : Tree} {p q : Position} {c : Cost}
    → UnqualifiedAs case x (Some parent) p u q c → text_len (shape_of parent) ≤ text_len (shape_of u)
unqualified_as_longer (constructor_unqualified {parent = parent} tags) = let here = ctor_of_longer parent false in let more = tags_longer tags in omega arith
unqualified_as_longer (destructor_unqualified {parent = parent} tags) = let here = ctor_of_longer parent true in let more = tags_longer tags in omega arith
unqualified_as_longer (ordinary_unqualified {u = u} {parent = Some parent} a tags) = name_in_longer parent u

pub unqualified_longer : {x : Context} {parent u : Tree} {p q : Position} {c : Cost} → Unqualified x (Some parent) p u q c → text_len (shape_of parent) ≤ text_len (shape_of u)
unqualified_longer (unqualified a) = unqualified_as_longer a

pub attached_as_longer : {case : AttachedCase} {x : Context} {t u : Tree} {p q : Position} {c : Cost} → AttachedAs case x t p u q c → text_len (shape_of t) ≤ text_len (shape_of u)
attached_as_longer none_attached = omega arith
attached_as_longer (args_attached {t = t} {ts = ts} a) = with_args_longer t ts

pub segment_longer : {case : SegmentCase} {x : Context} {candidate : Bool} {t u : Tree} {p q : Position} {c : Cost} → SegmentsAs case candidate x t p u q c → text_len (shape_of t) ≤ text_len (shape_of u)
segment_longer end_of_segments = omega arith
segment_longer (args_segment {t = t} {ts = ts} a b) = let here = with_args_longer t ts in let more = segment_longer b in omega arith
segment_longer (name_segment a b) = let here = unqualified_longer a in let more = segment_longer b in omega arith

pub entity_longer : {case : EntityCase} {x : Context} {t u : Tree} {p q : Position} {c : Cost} → EntityAs case true x t p u q c → text_len (shape_of t) ≤ text_len (bare_shape u)
entity_longer (string_literal_entity {t = t}) = string_longer t
entity_longer (default_argument_entity {t = t} {u = u} {number = k} found a) = default_of_longer t u k
entity_longer (name_entity {t = t} {u = u} a) = local_longer t u
