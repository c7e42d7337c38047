-- A record's layout, for any list of fields: "A record is a bit map byte, then only the fields whose bit stands". Assumes nothing.
use Rattle.std.specs.Prelude.{◌≡◌, Bool, true, false, not, ◌&&◌, ◌||◌, List, [], ◌∷◌, ℕ, ◌*◌, ◌^◌, ◌<◌, ◌≤◌, eqb, ltb, leb, length}
use Rattle.words.specs.Word.{bit_of}
use Rattle.records.specs.declared.Field.{Field}

-- what stands in no place of a list of fields
abbrev pub no_field : Field
no_field = record { bit = 0; size = 0; absent = 0 }

-- whether a bit is that of some field
unfoldable pub is_bit : List Field → ℕ → Bool
is_bit [] i = false
is_bit (f ∷ fs) i = eqb i f.bit || is_bit fs i

-- a list of fields is a layout: each has a bit of the map byte for itself, at most eight bytes, and an absent value that fits in them
unfoldable pub is_layout : List Field → Bool
is_layout [] = true
is_layout (f ∷ fs) = (ltb f.bit 8 && not (is_bit fs f.bit)) && (leb f.size 8 && ltb f.absent (2 ^ (8 * f.size))) && is_layout fs

-- an array of fields is a layout
pub record Laid (fields : List Field) : Type 0 where
  pub few : length fields ≤ 8
  pub layout : is_layout fields ≡ true

-- whether a field's bit stands in a map byte
unfoldable pub stands : ℕ → Field → Bool
stands map f = bit_of map f.bit

-- as many values as fields, and each fits in its field's bytes
pub data Fits : List Field → List ℕ → Type 0 where
  fits_none : Fits [] []
  fits_more : {f : Field} {fs : List Field} {v : ℕ} {vs : List ℕ} → v < 2 ^ (8 * f.size) → Fits fs vs → Fits (f ∷ fs) (v ∷ vs)
