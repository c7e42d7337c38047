-- The worked example of document 01 ("Network file"). Assumes nothing.
use Rattle.std.specs.Prelude.{◌≡◌, List, [], ◌∷◌, ℕ}
use Rattle.refusals.specs.Refusals.{given}
use Rattle.network.specs.Network.{Topology}
use Rattle.network_file.specs.Reading.{read_network}
use Rattle.network_file.specs.Writing.{image_of}

-- "T = 48 with link 0 (16, 4) and link 1 (8, 2), none closed", each with the least hold that a record without one has, 1
unfoldable pub example : Topology
example = record { ticks = 48; links = record { frames = 16; range = 4; least = 1; closed = 0 } ∷ record { frames = 8; range = 2; least = 1; closed = 0 } ∷ [] }

-- "30 00 02 00 03 08 02"
unfoldable pub example_bytes : List ℕ
example_bytes = 48 ∷ 0 ∷ 2 ∷ 0 ∷ 3 ∷ 8 ∷ 2 ∷ []

-- THE FILE OF THE EXAMPLE IS THESE BYTES, AND THEY READ AS IT
abbrev pub ExampleImage : Type 0
ExampleImage = image_of example ≡ example_bytes

abbrev pub ExampleReads : Type 0
ExampleReads = read_network example_bytes ≡ given example
