-- Reading a record of any layout: refusals 4, 5 and 6, or the fields and the length used. Assumes nothing.
use Rattle.std.specs.Prelude.{Bool, false, not, ◌&&◌, ◌||◌, cond, List, [], ◌∷◌, ℕ, ◌+◌, eqb, ltb, length, get_or, drop}
use Rattle.places.specs.Places.{firsts}
use Rattle.refusals.specs.Refusals.{Outcome, given, refuse_if, refused_or, on_given}
use Rattle.numbers.specs.Numbers.{number_in}
use Rattle.words.specs.Word.{bit_of, word_of}
use Rattle.records.specs.Layout.{is_bit, stands}
use Rattle.records.specs.declared.Field.{Field}
use Rattle.records.specs.declared.Record.{Record}

-- the bytes that a field takes under a map byte
unfoldable pub size_in : ℕ → Field → ℕ
size_in map f = cond (stands map f) f.size 0

-- the bytes that the bits of a map byte need
unfoldable pub needed : List Field → ℕ → ℕ
needed [] map = 0
needed (f ∷ fs) map = size_in map f + needed fs map

-- a field's value, from the bytes that start at it
unfoldable pub value_in : ℕ → Field → List ℕ → ℕ
value_in map f s = cond (stands map f) (number_in f.size s) f.absent

-- the values of all fields, from the bytes after the map byte
unfoldable pub values_in : List Field → ℕ → List ℕ → List ℕ
values_in [] map s = []
values_in (f ∷ fs) map s = value_in map f s ∷ values_in fs map (drop (size_in map f) s)

-- the bits of a map byte that are no field's: "a bit above bit" 3, where the fields have bits 0 to 3 (W-206)
unfoldable pub stray_bits : List Field → ℕ → ℕ
stray_bits fs map = word_of 8 (λ i. bit_of map i && not (is_bit fs i))

-- "A written field equals its absent value"
unfoldable pub restated : List Field → ℕ → List ℕ → Bool
restated [] map values = false
restated (f ∷ fs) map values = (stands map f && eqb (get_or values 0 0) f.absent) || restated fs map (drop 1 values)

-- what a record says: the values of its fields, and its length
pub record Said : Type 0 where
  pub values : List ℕ
  pub used : ℕ

-- the record that starts a list of bytes and has this map byte: 4, then 5, then 6
unfoldable pub read_mapped : List Field → ℕ → List ℕ → Outcome Said
read_mapped fs map s =
    let values = values_in fs map (drop 1 s) in
    refused_or (refuse_if (ltb (length s) (1 + needed fs map)) 4)
    (refused_or (refuse_if (not (eqb (stray_bits fs map) 0)) 5)
    (refused_or (refuse_if (restated fs map values) 6)
    (given (record { values = values; used = 1 + needed fs map }))))

-- THE RECORD THAT STARTS A LIST OF BYTES: "No map byte is left", 4, or what its map byte says
unfoldable pub read_record : List Field → List ℕ → Outcome Said
read_record fs s = refused_or (refuse_if (eqb (length s) 0) 4) (read_mapped fs (get_or s 0 0) s)

-- ---- what the program's answer says in these words
-- "answers fields and length used": the record, its values in the first of n places, and 0 in the others
abbrev pub read_in_places : ℕ → List Field → List ℕ → Outcome Said
read_in_places n fs s = on_given (read_record fs s) (λ x. given (record { values = firsts n x.values 0; used = x.used }))

-- the values of a layout's fields, and the length used
abbrev pub said_of : {N : ℕ} → Record N → Said
said_of r = record { values = r.values; used = r.used }
