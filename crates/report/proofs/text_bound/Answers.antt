-- `report::text_bound` meets its contract. Assumes nothing.
use Rattle.report.proofs.Whole.{bound_is}
use Rattle.report.proofs.text_bound.Goals as goal

pub returns : goal.returns
returns c = bound_is _ _ c.counted.ensures
