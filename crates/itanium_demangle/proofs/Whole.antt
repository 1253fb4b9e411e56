-- A name whose own qualifiers wait, and the same name with them: one is read where the other is, and both enter and save
-- the same.
use Rattle.std.proofs.Common.{◌≡◌, ◌≤◌, ℕ, max, Bool, true, false, length, refl, ap, arith}
use Rattle.demangle_text.specs.Shape.{text_len}
use Rattle.itanium_syntax.specs.declared.context.Context.{Context}
use Rattle.itanium_syntax.specs.Names.{name_case}
use Rattle.itanium_reader.specs.Parser.{shows_words}
use Rattle.itanium_grammar.specs.Tree.{Tree, shape_of, bare_shape, own_quals, printing, name_printing}
use Rattle.itanium_grammar.specs.Grammar.{Position, Cost, both, counted, nothing, Name, NameAs, Local, EntityAs, name}
use Rattle.itanium_grammar.specs.Grammar.{nested_name, local_name, unscoped_name, local, string_literal_entity}
use Rattle.itanium_grammar.specs.Grammar.{default_argument_entity, name_entity}
use Rattle.itanium_grammar.specs.Cases.{NameCase, EntityCase}
use Rattle.itanium_demangle.proofs.Grows.{quals_longer}
use Rattle.itanium_demangle.proofs.Longer.{default_holds, local_holds}
use Rattle.itanium_demangle.proofs.Waiting.{whole_name}

-- a name is no longer without its own qualifiers
pub bare_shorter : {bare : Bool} {x : Context} {p q : Position} {t : Tree} {c : Cost} → Name bare x p t q c → text_len (bare_shape t) ≤ text_len (shape_of t)
bare_shorter {x = x} {p = p} {t = t} a =
    let longer = quals_longer (bare_shape t) (own_quals t) (shows_words (name_case p.rest) x.words_shown) in
    let same = ap text_len (whole_name a) in
    omega arith

-- the same reading at another width
pub record Likewise (R : Cost → Type 0) (c : Cost) (most : ℕ) : Type 0 where
  pub cost : Cost
  pub reading : R cost
  pub count_is : cost.count ≡ c.count
  pub depth_is : cost.depth ≡ c.depth
  pub peak_is : cost.peak ≡ c.peak
  pub width_in : cost.width ≤ most

mutual
  -- a name with its own qualifiers is no wider than without them, or than it is long
  pub with_own_quals : {x : Context} {p q : Position} {t : Tree} {c : Cost} → Name true x p t q c
      → Likewise (λ k. Name false x p t q k) c (max c.width (length (printing t)))
  with_own_quals {t = t} (name a) =
      let w = with_own_as a in record {
        cost = counted (length (printing t)) w.cost;
        reading = name w.reading;
        count_is = omega (arith, w.count_is);
        depth_is = omega (arith, w.depth_is);
        peak_is = w.peak_is;
        width_in = omega (arith, w.width_in);
      }

  with_own_as : {case : NameCase} {x : Context} {p q : Position} {t : Tree} {c : Cost} → NameAs case true x p t q c
      → Likewise (λ k. NameAs case false x p t q k) c (max c.width (length (printing t)))
  with_own_as (nested_name a) = record { cost = _; reading = nested_name a; count_is = refl; depth_is = refl; peak_is = refl; width_in = omega arith }
  with_own_as (local_name a) =
      let w = with_own_local a in
      record { cost = w.cost; reading = local_name w.reading; count_is = w.count_is; depth_is = w.depth_is; peak_is = w.peak_is; width_in = w.width_in }
  with_own_as (unscoped_name a) = record { cost = _; reading = unscoped_name a; count_is = refl; depth_is = refl; peak_is = refl; width_in = omega arith }

  with_own_local : {x : Context} {p q : Position} {t : Tree} {c : Cost} → Local true x p t q c
      → Likewise (λ k. Local false x p t q k) c (max c.width (length (printing t)))
  with_own_local (local {c = c} a b) =
      let w = with_own_entity b in record {
        cost = both c w.cost;
        reading = local a w.reading;
        count_is = omega (arith, w.count_is);
        depth_is = omega (arith, w.depth_is);
        peak_is = omega (arith, w.peak_is);
        width_in = omega (arith, w.width_in);
      }

  with_own_entity : {case : EntityCase} {x : Context} {t u : Tree} {p q : Position} {c : Cost} → EntityAs case true x t p u q c
      → Likewise (λ k. EntityAs case false x t p u q k) c (max c.width (length (printing u)))
  with_own_entity string_literal_entity = record { cost = nothing; reading = string_literal_entity; count_is = refl; depth_is = refl; peak_is = refl; width_in = omega arith }
  with_own_entity (default_argument_entity {t = t} {u = u} {number = k} found a) =
      let w = with_own_quals a in
      let held = default_holds t u k in record {
        cost = w.cost;
        reading = default_argument_entity found w.reading;
        count_is = w.count_is;
        depth_is = w.depth_is;
        peak_is = w.peak_is;
        width_in = omega (arith, w.width_in);
      }
  with_own_entity (name_entity {t = t} {u = u} a) =
      let w = with_own_quals a in
      let held = local_holds t u in record {
        cost = w.cost;
        reading = name_entity w.reading;
        count_is = w.count_is;
        depth_is = w.depth_is;
        peak_is = w.peak_is;
        width_in = omega (arith, w.width_in);
      }

mutual
  -- and it is no wider without them
  pub without_quals : {x : Context} {p q : Position} {t : Tree} {c : Cost} → Name false x p t q c → Likewise (λ k. Name true x p t q k) c c.width
  without_quals {t = t} (name a) =
      let w = without_as a in
      let shorter = bare_shorter (name a) in record {
        cost = counted (length (name_printing true t)) w.cost;
        reading = name w.reading;
        count_is = omega (arith, w.count_is);
        depth_is = omega (arith, w.depth_is);
        peak_is = w.peak_is;
        width_in = omega (arith, w.width_in);
      }

  without_as : {case : NameCase} {x : Context} {p q : Position} {t : Tree} {c : Cost} → NameAs case false x p t q c → Likewise (λ k. NameAs case true x p t q k) c c.width
  without_as (nested_name a) = record { cost = _; reading = nested_name a; count_is = refl; depth_is = refl; peak_is = refl; width_in = omega arith }
  without_as (local_name a) =
      let w = without_local a in
      record { cost = w.cost; reading = local_name w.reading; count_is = w.count_is; depth_is = w.depth_is; peak_is = w.peak_is; width_in = w.width_in }
  without_as (unscoped_name a) = record { cost = _; reading = unscoped_name a; count_is = refl; depth_is = refl; peak_is = refl; width_in = omega arith }

  without_local : {x : Context} {p q : Position} {t : Tree} {c : Cost} → Local false x p t q c → Likewise (λ k. Local true x p t q k) c c.width
  without_local (local {c = c} a b) =
      let w = without_entity b in record {
        cost = both c w.cost;
        reading = local a w.reading;
        count_is = omega (arith, w.count_is);
        depth_is = omega (arith, w.depth_is);
        peak_is = omega (arith, w.peak_is);
        width_in = omega (arith, w.width_in);
      }

  without_entity : {case : EntityCase} {x : Context} {t u : Tree} {p q : Position} {c : Cost} → EntityAs case false x t p u q c → Likewise (λ k. EntityAs case true x t p u q k) c c.width
  without_entity string_literal_entity = record { cost = nothing; reading = string_literal_entity; count_is = refl; depth_is = refl; peak_is = refl; width_in = omega arith }
  without_entity (default_argument_entity found a) =
      let w = without_quals a in
      record { cost = w.cost; reading = default_argument_entity found w.reading; count_is = w.count_is; depth_is = w.depth_is; peak_is = w.peak_is; width_in = w.width_in }
  without_entity (name_entity a) =
      let w = without_quals a in
      record { cost = w.cost; reading = name_entity w.reading; count_is = w.count_is; depth_is = w.depth_is; peak_is = w.peak_is; width_in = w.width_in }
