-- For any layout, values have exactly one record. Assumes nothing.
use Rattle.std.specs.Prelude.{◌≡◌, true, List, ◌++◌, ℕ, length, take}
use Rattle.refusals.specs.Refusals.{given}
use Rattle.numbers.specs.Numbers.{IsBytes}
use Rattle.records.specs.Layout.{is_layout, Fits}
use Rattle.records.specs.Writing.{record_of}
use Rattle.records.specs.declared.Field.{Field}
use Rattle.records.specs.Reading.{Said, read_record}

-- the record of some values reads as those values, whatever follows it, and bytes that read as them start with it
pub record OneRecord (fs : List Field) (vs : List ℕ) : Type 0 where
  pub bytes : IsBytes (record_of fs vs)
  pub reads : (rest : List ℕ) → read_record fs (record_of fs vs ++ rest) ≡ given (record { values = vs; used = length (record_of fs vs) })
  pub only : (s : List ℕ) (used : ℕ) → IsBytes s → read_record fs s ≡ given (record { values = vs; used = used }) → take used s ≡ record_of fs vs

-- FOR ANY LAYOUT, VALUES THAT FIT IN THEIR FIELDS HAVE EXACTLY ONE RECORD
abbrev pub ValuesHaveOneRecord : Type 0
ValuesHaveOneRecord = (fs : List Field) (vs : List ℕ) → is_layout fs ≡ true → Fits fs vs → OneRecord fs vs

-- AND WHAT IS READ FITS IN ITS FIELDS
abbrev pub ReadFits : Type 0
ReadFits = (fs : List Field) (s : List ℕ) (x : Said) → is_layout fs ≡ true → IsBytes s → read_record fs s ≡ given x → Fits fs x.values
