-- `network_file::values_of` meets its contract. Assumes nothing.
use Rattle.network_file.specs.Fields.{values_of}
use Rattle.network_file.proofs.values_of.Goals as goal

pub returns : goal.returns
unfolding values_of
returns c = rw (c.from.ensures, c.from-2.ensures, c.from-3.ensures)
