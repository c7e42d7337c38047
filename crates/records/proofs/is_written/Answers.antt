-- `records::is_written` meets its contract. Assumes nothing.
use Rattle.records.proofs.Pieces.{is_written_lem}
use Rattle.records.proofs.is_written.Goals as goal

pub returns : goal.returns
returns c = is_written_lem _ _
