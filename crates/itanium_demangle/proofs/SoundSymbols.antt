-- Of symbols: what the parser reads, the grammar reads.
use Rattle.std.proofs.Common.{◌≡◌, ℕ, zero, suc, Some}
use Rattle.demangle_text.specs.Shape.{Shape}
use Rattle.itanium_syntax.specs.declared.context.Context.{Context}
use Rattle.itanium_grammar.specs.Tree.{shape_of}
use Rattle.itanium_grammar.specs.Cases.{AfterName}
use Rattle.itanium_grammar.specs.Grammar.{Position, SymbolName}
use Rattle.itanium_reader.specs.Parser.{ParserState, parse_bare_name, parse_encoding}
use Rattle.itanium_demangle.specs.Meaning.{state_at}
use Rattle.itanium_demangle.proofs.Readings.{Found, BareNamesSound, ArgsSound, PacksSound, TypesSound, ExpressionsSound, ThunksSound}
use Rattle.itanium_demangle.proofs.CompleteSymbols.{all_complete}
use Rattle.itanium_demangle.proofs.CompleteNames.{names_complete}
use Rattle.itanium_demangle.proofs.SoundNames.{bare_names_sound, names_sound, thunks_sound, encoding_sound}
use Rattle.itanium_demangle.proofs.CompleteExpressions.{each_argument_met}
use Rattle.itanium_demangle.proofs.SoundExpressions.{each_argument_sound, expressions_sound}
use Rattle.itanium_demangle.proofs.SoundArgs.{args_sound, packs_sound}
use Rattle.itanium_demangle.proofs.SoundTypes.{types_sound_at}

-- each counted production
pub all_sound : (d : ℕ) → BareNamesSound d × ArgsSound d × PacksSound d × TypesSound d × ExpressionsSound d × ThunksSound d
unfolding parse_bare_name
all_sound zero = (λ x p e m y is. cc, λ x of_name p e m y is. cc, λ x p e m y is. cc, λ x p e m y is. cc, λ x p e m y is. cc, λ x p e m y is. cc)
all_sound (suc d) =
    let (bares_are, lists_are, packs_are, kinds_are, values_are, thunks_are) = all_complete d in
    let (bares, lists, packs, kinds, values, thunks) = all_sound d in
    let each_is = each_argument_met d packs_are kinds_are bares_are thunks_are values_are in
    let each = each_argument_sound d packs_are kinds_are bares_are thunks_are values_are packs kinds bares thunks values in (
      bare_names_sound d lists_are kinds_are bares_are thunks_are lists kinds bares thunks,
      args_sound d each_is each,
      packs_sound d each_is each,
      types_sound_at d kinds_are (names_complete d bares_are) lists_are kinds (names_sound d bares_are bares) lists,
      expressions_sound d kinds_are bares_are thunks_are values_are kinds bares thunks values,
      thunks_sound d kinds_are bares_are thunks_are kinds bares thunks,
    )

pub symbol_sound : (d : ℕ) (x : Context) (p : Position) (e m : ℕ) (y : Shape × ParserState) → parse_encoding d AfterName x (state_at p e m) ≡ Some y → Found (SymbolName x p) shape_of d e m y
symbol_sound d x p e m y is =
    let (bares_are, lists_are, packs_are, kinds_are, values_are, thunks_are) = all_complete d in
    let (bares, lists, packs, kinds, values, thunks) = all_sound d in
    encoding_sound d kinds_are bares_are thunks_are kinds bares thunks AfterName x p e m y is
