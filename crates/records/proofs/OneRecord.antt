-- For any layout, values have exactly one record. Assumes nothing.
use mathlib.Core.Path.{◌≡◌, sym}
use mathlib.Core.Bool.{Bool, true, false, cond}
use mathlib.Core.List.{List, [], ◌∷◌}
use Prim.Native.Nat.{ℕ}
use lib.ListN.{get_or, drop}
use Rattle.numbers.specs.Numbers.{bytes_of, IsBytes}
use Rattle.numbers.proofs.Trip.{bytes_cons, bytes_none, bytes_append, bytes_of_lem}
use Rattle.records.specs.declared.Field.{Field}
use Rattle.records.specs.Layout.{is_layout}
use Rattle.records.specs.Writing.{is_written, map_of, field_of, body_of, record_of}
use Rattle.records.specs.OneRecord.{ValuesHaveOneRecord, ReadFits}
use Rattle.records.proofs.ReadWrite.{record_only}
use Rattle.records.proofs.WriteRead.{record_back}
use Rattle.records.proofs.Maps.{map_low}

-- the bytes of a record are bytes
field_bytes : (f : Field) (v : ℕ) → IsBytes (field_of f v)
unfolding field_of
field_bytes f v = go (is_written f v)
  where
    go : (b : Bool) → IsBytes (cond b (bytes_of f.size v) [])
    go true = bytes_of_lem f.size v
    go false = bytes_none

body_bytes : (fs : List Field) (vs : List ℕ) → IsBytes (body_of fs vs)
unfolding body_of
body_bytes [] vs = bytes_none
body_bytes (f ∷ fs) vs = bytes_append (field_of f (get_or vs 0 0)) (body_of fs (drop 1 vs)) (field_bytes f (get_or vs 0 0)) (body_bytes fs (drop 1 vs))

pub record_bytes : (fs : List Field) (vs : List ℕ) → is_layout fs ≡ true → IsBytes (record_of fs vs)
unfolding record_of
record_bytes fs vs l = bytes_cons (map_of fs vs) (body_of fs vs) (map_low fs vs) (body_bytes fs vs)

-- FOR ANY LAYOUT, VALUES THAT FIT IN THEIR FIELDS HAVE EXACTLY ONE RECORD
pub one_record : ValuesHaveOneRecord
one_record fs vs l h = record {
  bytes = record_bytes fs vs l;
  reads = λ rest. record_back fs vs rest l h;
  only = λ s used b e. sym (record_only fs s (record { values = vs; used = used }) l b e).bytes;
}

-- AND WHAT IS READ FITS IN ITS FIELDS
pub read_fits : ReadFits
read_fits fs s x l b e = (record_only fs s x l b e).fit
