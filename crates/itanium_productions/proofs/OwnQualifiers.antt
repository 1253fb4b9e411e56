-- A name whose own qualifiers are left out, or are printed after it.
use Rattle.std.proofs.Common.{◌≡◌, ℕ, Bool, true, false, refl, Result}
use Rattle.itanium_syntax.specs.declared.context.Context.{Context}
use Rattle.itanium_reader.specs.declared.reader.Reader.{Reader}
use Rattle.itanium_reader.specs.declared.stop.Stop.{Stop}
use Rattle.itanium_reader.specs.Outcome.{Gives, GivesBareName, GivesName}
use Rattle.itanium_reader.specs.Parser.{ParserState, parse_bare_name, parse_name}
use Rattle.itanium_reader.proofs.Rules.{bare_names}
use Rattle.itanium_reader.proofs.Unfold.{name_opens}

pub gives_name : (bare : Bool) (result : Result (Unit {0}) Stop) (after : Reader) (d : ℕ) (x : Context) (s : ParserState)
    → (bare ≡ true → GivesBareName result after (parse_bare_name d x s)) → (bare ≡ false → Gives result after (parse_name d x s)) → GivesName bare result after d x s
gives_name true result after d x s named printed = named refl
gives_name false result after d x s named printed = printed refl

pub ruleset names = (bare_names, name_opens, gives_name)
