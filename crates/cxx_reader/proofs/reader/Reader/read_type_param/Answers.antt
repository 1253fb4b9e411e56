use Rattle.std.proofs.Common.{◌<◌, length, ap, arith}
use Rattle.cxx_reader.specs.Outcome.{Keeps}
use Rattle.cxx_reader.proofs.Kept.{Keeps-arena, Keeps-trans, Moves-of, Moves-after}
use Rattle.cxx_reader.proofs.reader.Reader.read_type_param.Goals as goal

pub returns-clause-moves : goal.returns-clause-moves
returns-clause-moves c =
    let old = c.args.self.now in
    let s = c.skip.new.self in
    let a = c.invent_type.new.self in
    let made = c.in-Ok.ensures {u = tt} in
    let kept : Keeps old a = Keeps-trans old s a (Keeps-arena old s c.skip.ensures.arena (omega (arith, c.skip.ensures.takes))) made.keeps in
    let less : length a.rest.now < length old.rest.now = omega (arith, ap length made.rest, c.skip.ensures.takes, c.requires.some) in
    Moves-after c.make.result old a c.make.new.self (Moves-of old a kept less) c.make.ensures.keeps
