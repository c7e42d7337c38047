-- `network_file::write_link` meets its contract. Assumes nothing.
use native.Mathlib.Omega.{arith}
use Rattle.network_file.proofs.Images.{link_bytes_lem}
use Rattle.network_file.proofs.write_link.Goals as goal

pub write_record-requires : goal.write_record-requires
write_record-requires c = (omega arith, (omega arith, rw (link_bytes_lem c.args.link _ _ c.link_layout.ensures c.values_of.ensures) c.requires))

pub returns : goal.returns
returns c = rw (link_bytes_lem _ _ _ c.link_layout.ensures c.values_of.ensures) at c.write_record.ensures
