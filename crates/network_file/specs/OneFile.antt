-- Each network has exactly one file, and the calls that read and write it agree. Assumes nothing.
use Rattle.std.specs.Prelude.{◌≡◌, Result, Ok, List, ◌++◌, ℕ, ◌≤◌, length, drop, take}
use Rattle.refusals.specs.declared.Refusal.{Refusal}
use Rattle.refusals.specs.Refusals.{given, pass, answered}
use Rattle.numbers.specs.Numbers.{IsBytes}
use Rattle.network.specs.Checks.{network_check}
use Rattle.network.specs.Network.{Topology, topology_of}
use Rattle.network.specs.declared.Network.{Network}
use Rattle.network_file.specs.Reading.{read_network, Reads}
use Rattle.network_file.specs.Lent.{Writes}
use Rattle.network_file.specs.Writing.{image_of, write_network}

-- a network's image is a file that reads as that network, and every file that reads as it is that image
pub record OneFile (t : Topology) : Type 0 where
  pub bytes : IsBytes (image_of t)
  pub reads : read_network (image_of t) ≡ given t
  pub only : (s : List ℕ) → IsBytes s → read_network s ≡ given t → s ≡ image_of t

-- EACH NETWORK THAT PASSES ITS CHECKS HAS EXACTLY ONE FILE
abbrev pub EachNetworkHasOneFile : Type 0
EachNetworkHasOneFile = (t : Topology) → network_check t ≡ given pass → OneFile t

-- AND EVERY FILE THAT READS AS A NETWORK READS AS ONE THAT PASSES ITS CHECKS
abbrev pub ReadPasses : Type 0
ReadPasses = (s : List ℕ) (t : Topology) → IsBytes s → read_network s ≡ given t → network_check t ≡ given pass

-- ---- the same of the calls, for any answers and buffers that meet their contracts
-- WHAT `read_network` READ STANDS FOR THE NETWORK THAT THE FILE SAYS
abbrev pub ReadStands : Type 0
ReadStands = (s : List ℕ) (t : Topology) (r : Result Network Refusal) → IsBytes s → read_network s ≡ given t → Reads (read_network s) r → answered topology_of r ≡ given t

-- WRITTEN, THEN READ: whatever `write_network` wrote, `read_network` reads as that network
abbrev pub WrittenReads : Type 0
WrittenReads = (n : Network) (before after : List ℕ) (size : ℕ) (r : Result Network Refusal) → Writes (write_network (topology_of n) (length before)) before after (Ok size) → Reads (read_network (take size after)) r → answered topology_of r ≡ given (topology_of n)

-- READ, THEN WRITTEN: whatever `read_network` reads as a network, `write_network` writes as that file
abbrev pub ReadWrites : Type 0
ReadWrites = (file : List ℕ) (n : Network) (before after : List ℕ) (w : Result ℕ Refusal) → IsBytes file → Reads (read_network file) (Ok n) → length file ≤ length before → Writes (write_network (topology_of n) (length before)) before after w → (w ≡ Ok (length file)) × (after ≡ file ++ drop (length file) before)
