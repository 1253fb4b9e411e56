-- Of symbols: what the grammar reads, the parser reads.
use Rattle.std.proofs.Common.{◌≡◌, ℕ, zero, suc, arith}
use Rattle.itanium_syntax.specs.declared.context.Context.{Context}
use Rattle.itanium_grammar.specs.Tree.{Tree, shape_of}
use Rattle.itanium_grammar.specs.Cases.{AfterName}
use Rattle.itanium_grammar.specs.Grammar.{Position, Cost, SymbolName, name, args, pack, type, expression, thunk}
use Rattle.itanium_reader.specs.Parser.{parse_encoding}
use Rattle.itanium_demangle.specs.Meaning.{state_at}
use Rattle.itanium_demangle.proofs.Readings.{Small, given, BareNamesComplete, ArgsComplete, PacksComplete, TypesComplete, ExpressionsComplete, ThunksComplete}
use Rattle.itanium_demangle.proofs.CompleteNames.{bare_names_complete, names_complete, thunks_complete, alone_complete}
use Rattle.itanium_demangle.proofs.CompleteExpressions.{each_argument_met, expressions_complete}
use Rattle.itanium_demangle.proofs.CompleteArgs.{args_complete, packs_complete}
use Rattle.itanium_demangle.proofs.CompleteTypes.{types_complete_at}

-- each counted production nests
no_names : BareNamesComplete 0
no_names x p q t c (name a) deep e m = absurd (omega arith)

no_lists : ArgsComplete 0
no_lists x of_name p q t c (args a) deep e m = absurd (omega arith)

no_packs : PacksComplete 0
no_packs x p q t c (pack a) deep e m = absurd (omega arith)

no_thunks : ThunksComplete 0
no_thunks x p q t c (thunk found a) deep e m = absurd (omega arith)

no_values : ExpressionsComplete 0
no_values x p q t c (expression a) deep e m = absurd (omega arith)

no_kinds : TypesComplete 0
no_kinds x p q t c (type a) deep e m = absurd (omega arith)

pub all_complete : (d : ℕ) → BareNamesComplete d × ArgsComplete d × PacksComplete d × TypesComplete d × ExpressionsComplete d × ThunksComplete d
all_complete zero = (no_names, no_lists, no_packs, no_kinds, no_values, no_thunks)
all_complete (suc d) =
    let (bares, lists, packs, kinds, values, thunks) = all_complete d in
    let each = each_argument_met d packs kinds bares thunks values in (
      bare_names_complete d lists kinds bares thunks,
      args_complete d each,
      packs_complete d each,
      types_complete_at d kinds (names_complete d bares) lists,
      expressions_complete d kinds bares thunks values,
      thunks_complete d kinds bares thunks,
    )

pub symbol_complete : {x : Context} {p q : Position} {t : Tree} {c : Cost} → SymbolName x p t q c → (d : ℕ) → Small d c → (e m : ℕ)
    → parse_encoding d AfterName x (state_at p e m) ≡ given shape_of t q c e m
symbol_complete a d deep e m =
    let (bares, lists, packs, kinds, values, thunks) = all_complete d in alone_complete d kinds bares thunks a deep e m
