-- `network_file::link_length` meets its contract. Assumes nothing.
use Rattle.network_file.proofs.Images.{link_bytes_lem}
use Rattle.network_file.proofs.link_length.Goals as goal

pub returns : goal.returns
returns c = rw (link_bytes_lem _ _ _ c.link_layout.ensures c.values_of.ensures) at c.record_length.ensures
