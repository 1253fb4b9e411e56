use Rattle.std.proofs.Common.{◌≡◌, Some, Ok, Err, rules, sym, subst}
use Rattle.cxx_tree.specs.Stored.{Store, saved_trees}
use Rattle.cxx_reader.specs.Outcome.{reading_at}
use Rattle.cxx_demangle.specs.Answer.{parse_entry}
use Rattle.cxx_demangle.specs.declared.demangler.DemangleError.{DemangleError}
use Rattle.cxx_demangle.specs.Demangler.{GivesWhole}
use Rattle.cxx_demangle.proofs.Whole.{started, none_saved, refused}
use Rattle.cxx_tree.specs.declared.arena.Stop.TheVariants.{Unreadable}
use Rattle.cxx_demangle.proofs.demangler.read.Goals as goal

pub returns-in-Ok-clause-gives : goal.returns-in-Ok-clause-gives
returns-in-Ok-clause-gives c =
    let read = (c.in-Ok.ensures {u = tt}).reads in
    let parsed = started c.args.entry c.args.text.now (saved_trees c.clear.new.self) (none_saved c.clear.new.self c.clear.ensures.lists.0) read.1 in
    subst (λ (a : Store). GivesWhole {E = DemangleError} (Ok (Some c.in-Ok.reading)) a (parse_entry c.args.entry c.args.text.now)) (sym c.swap.ensures.x_after) (read.0, parsed)

pub returns-in-Err-Unreadable-clause-gives : goal.returns-in-Err-Unreadable-clause-gives
returns-in-Err-Unreadable-clause-gives c =
    let is : c.read_entry-read.result ≡ Err Unreadable = search rules in
    let none = refused c.read_entry-read.result c.read_entry-read.new.reader _ c.read_entry-read.ensures.reads is in
    started c.args.entry c.args.text.now (saved_trees c.clear.new.self) (none_saved c.clear.new.self c.clear.ensures.lists.0) none
