-- `network_file::read_links` meets its contract. Assumes nothing.
use Rattle.network_file.proofs.Files.{Gone}
use Rattle.network_file.proofs.read_links.Given as goal

abbrev pub invariant-loop-i : goal.invariant-loop-i
invariant-loop-i l = Gone l.ticks l.count l.records l.links l.at l.i
