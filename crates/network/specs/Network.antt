-- The network of document 01. Assumes nothing.
use Rattle.std.specs.Prelude.{List, ℕ}
use Rattle.places.specs.Places.{firsts}
use Rattle.network.specs.declared.Network.{Network}
use Rattle.network.specs.declared.Link.{Link}

-- a network ("Network"): "a cycle of T ticks" and its links "numbered from 0"
pub record Topology : Type 0 where
  pub ticks : ℕ
  pub links : List Link

-- what stands in a place of an array that no link stands in
abbrev pub no_link : Link
no_link = record { frames = 0; range = 0; least = 0; closed = 0 }

-- the network that stored values stand for: unused places are no part of it, and a number of links above the places shows in it
unfoldable pub topology_of : Network → Topology
topology_of n = record { ticks = n.ticks; links = firsts n.count n.links no_link }
