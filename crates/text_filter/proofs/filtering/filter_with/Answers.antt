use Rattle.text_filter.proofs.Copied.{read_outcome, write_outcome}
use Rattle.text_filter.proofs.filtering.filter_with.Goals as goal

pub returns-clause-read : goal.returns-clause-read
returns-clause-read g c = read_outcome _ _ _ c.filter_chunks.ensures.outcome

pub returns-clause-write : goal.returns-clause-write
returns-clause-write g c = write_outcome _ _ _ c.filter_chunks.ensures.outcome
