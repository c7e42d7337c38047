-- The fields of a link record ("Network file"). A field that is added later lengthens the three lists here. Assumes nothing.
use Rattle.std.specs.Prelude.{List, [], ◌∷◌, ℕ, get_or}
use Rattle.network.specs.declared.Link.{Link}
use Rattle.records.specs.declared.Field.{Field}

-- "bit 0, K, one byte, 16 if absent"
abbrev pub frames_field : Field
frames_field = record { bit = 0; size = 1; absent = 16 }

-- "bit 1, Z, one byte, 4 if absent"
abbrev pub range_field : Field
range_field = record { bit = 1; size = 1; absent = 4 }

-- "bit 2, closed frames, eight bytes, low first, 0 if absent"
abbrev pub closed_field : Field
closed_field = record { bit = 2; size = 8; absent = 0 }

-- "a least hold Y, absent value 1, in one byte under map bit 3, after the closed frames" (W-206)
abbrev pub least_field : Field
least_field = record { bit = 3; size = 1; absent = 1 }

unfoldable pub link_layout : List Field
link_layout = frames_field ∷ range_field ∷ closed_field ∷ least_field ∷ []

-- the values of a link, in the order of its fields
unfoldable pub values_of : Link → List ℕ
values_of l = l.frames ∷ l.range ∷ l.closed ∷ l.least ∷ []

-- and back
unfoldable pub link_of : List ℕ → Link
link_of vs = record { frames = get_or vs 0 0; range = get_or vs 1 0; closed = get_or vs 2 0; least = get_or vs 3 0 }
