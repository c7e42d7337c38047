-- The file of a network, and what the writer writes. Assumes nothing.
use Rattle.std.specs.Prelude.{◌≡◌, List, [], ◌∷◌, ◌++◌, ℕ, ◌≤◌, length}
use Rattle.refusals.specs.Refusals.{Outcome, given, pass, refused_or}
use Rattle.numbers.specs.Numbers.{bytes_of}
use Rattle.network.specs.Network.{Topology}
use Rattle.network.specs.declared.Link.{Link}
use Rattle.network.specs.Checks.{network_check}
use Rattle.records.specs.Writing.{record_of}
use Rattle.network_file.specs.Fields.{link_layout, values_of}
use Rattle.network_file.specs.Lent.{in_room}

-- "A record is a bit map byte, then only the fields whose bit stands"
unfoldable pub link_bytes : Link → List ℕ
link_bytes l = record_of link_layout (values_of l)

-- "a record is put into the part of the buffer that starts after the one before"
unfoldable pub links_bytes : List Link → List ℕ
links_bytes [] = []
links_bytes (l ∷ ls) = link_bytes l ++ links_bytes ls

-- THE FILE OF A NETWORK: "T in two bytes, low first; the number of links, one byte; then a record per link"
unfoldable pub image_of : Topology → List ℕ
image_of t = bytes_of 2 t.ticks ++ (length t.links ∷ links_bytes t.links)

-- A BUFFER OF 387 BYTES SERVES FOR EVERY NETWORK
abbrev pub ImageBound : Type 0
ImageBound = (t : Topology) → network_check t ≡ given pass → length (image_of t) ≤ 387

-- WHAT THE WRITER WRITES into a buffer of so many bytes: 2, 3, then 7, 8, 21 and 9 for each link, then 20; "The writer answers the image's length"
unfoldable pub write_network : Topology → ℕ → Outcome (List ℕ)
write_network t room = refused_or (network_check t) (in_room (length (image_of t)) room (image_of t))
