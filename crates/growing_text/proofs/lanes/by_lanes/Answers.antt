use Rattle.growing_text.proofs.Overlaps.{overlapping}
use Rattle.growing_text.proofs.lanes.by_lanes.Goals as goal

pub returns : goal.returns
returns g c = record { value = overlapping c.args.dest.now c.args.text.now g.row.N c.requires.same c.requires.least c.requires.most }
