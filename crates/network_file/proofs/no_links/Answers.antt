-- `network_file::no_links` meets its contract. Assumes nothing.
use mathlib.Core.List.{[]}
use native.Mathlib.Omega.{arith}
use Rattle.places.proofs.Firsts.{firsts_filled}
use Rattle.network.specs.Network.{no_link}
use Rattle.network_file.proofs.no_links.Goals as goal

pub returns : goal.returns
returns c = rw c.no_link.ensures (firsts_filled 32 [] no_link (omega arith))
