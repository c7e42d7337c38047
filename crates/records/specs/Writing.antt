-- The bytes of a record of any layout. Assumes nothing.
use Rattle.std.specs.Prelude.{Bool, false, not, ◌&&◌, ◌||◌, cond, List, [], ◌∷◌, ◌++◌, ℕ, get_or, drop, eqb}
use Rattle.numbers.specs.Numbers.{bytes_of}
use Rattle.words.specs.Word.{word_of}
use Rattle.records.specs.declared.Field.{Field}

-- "A field equal to its absent value is never written"
unfoldable pub is_written : Field → ℕ → Bool
is_written f v = not (eqb v f.absent)

-- whether the field with this bit is written
unfoldable pub written_at : List Field → List ℕ → ℕ → Bool
written_at [] values i = false
written_at (f ∷ fs) values i = (is_written f (get_or values 0 0) && eqb i f.bit) || written_at fs (drop 1 values) i

-- the map byte: the bits of the fields that are written
unfoldable pub map_of : List Field → List ℕ → ℕ
map_of fs values = word_of 8 (written_at fs values)

-- the bytes of a field
unfoldable pub field_of : Field → ℕ → List ℕ
field_of f v = cond (is_written f v) (bytes_of f.size v) []

-- the bytes of the fields, in turn
unfoldable pub body_of : List Field → List ℕ → List ℕ
body_of [] values = []
body_of (f ∷ fs) values = field_of f (get_or values 0 0) ++ body_of fs (drop 1 values)

-- THE BYTES OF A RECORD: "a bit map byte, then only the fields whose bit stands"
unfoldable pub record_of : List Field → List ℕ → List ℕ
record_of fs values = map_of fs values ∷ body_of fs values
