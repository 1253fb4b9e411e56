use Rattle.cxx_tree.proofs.measuring.after_typename.Goals as goal

pub returns : goal.returns
returns c = record { counts = λ m name. c.join.ensures.counts _ m c.typename.ensures.counts name }
