-- `network_file::write_links` meets its contract. The invariant: the records of the links before this one stand in the buffer. Assumes nothing.
use lib.ListN.{length}
use Rattle.places.proofs.Pieces.{Placed}
use Rattle.network_file.proofs.Images.{links_from}
use Rattle.network_file.proofs.write_links.Given as goal

abbrev pub invariant-loop-link : goal.invariant-loop-link
invariant-loop-link l = Placed (length l.links) (links_from l.links) 3 l.initial.buffer l.buffer l.at l.link-index
