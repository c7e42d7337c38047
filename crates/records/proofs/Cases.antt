-- The cases of reading a record, in the order of the refusal list, and its values in an array's places. Assumes nothing.
use mathlib.Core.Path.{◌≡◌, refl, sym, ap, ◌∙◌}
use mathlib.Core.Bool.{Bool, true, false}
use mathlib.Core.List.{List, [], ◌∷◌}
use Prim.Native.Nat.{ℕ, suc, ◌+◌, ◌<◌, ◌≤◌}
use borrow.Author.Tests.{lt-ltb, le-ltb, eq-eqb, ne_eqb}
use lib.Dec.{eqb}
use lib.ListN.{length, get_or, drop, take}
use Rattle.places.specs.Places.{firsts}
use Rattle.places.proofs.Firsts.{length_firsts, firsts_all, firsts_take, so_many_back}
use Rattle.refusals.specs.Refusals.{Outcome, given, refused, on_given}
use Rattle.numbers.specs.Numbers.{IsBytes}
use Rattle.records.specs.declared.Field.{Field}
use Rattle.records.specs.Layout.{is_layout}
use Rattle.records.specs.Reading.{size_in, needed, values_in, stray_bits, restated, Said, read_mapped, read_record, read_in_places}
use Rattle.records.proofs.Layouts.{length_fits}
use Rattle.records.proofs.OneRecord.{read_fits}

-- ---- as many values as fields
pub length_values : (fs : List Field) (map : ℕ) (s : List ℕ) → length (values_in fs map s) ≡ length fs
unfolding values_in
length_values [] map s = refl
length_values (f ∷ fs) map s = ap suc (length_values fs map (drop (size_in map f) s))

-- the first of an array's places have them
pub values_first : (n : ℕ) (fs : List Field) (map : ℕ) (s values : List ℕ) → length fs ≤ n → values ≡ firsts n (values_in fs map s) 0 → take (length fs) values ≡ values_in fs map s
values_first n fs map s values few e =
    rw e (sym (firsts_take (length fs) (firsts n (values_in fs map s) 0) 0 (rw (length_firsts n (values_in fs map s) 0) few)) ∙ so_many_back n (length fs) (values_in fs map s) 0 (length_values fs map s) few)

-- and an array with a place for each field has no others
pub all_in_places : (n : ℕ) (fs : List Field) (s : List ℕ) → is_layout fs ≡ true → IsBytes s → n ≡ length fs → read_in_places n fs s ≡ read_record fs s
all_in_places n fs s l b h = go (read_record fs s) refl
  where
    go : (o : Outcome Said) → read_record fs s ≡ o → on_given o (λ x. given (record { values = firsts n x.values 0; used = x.used })) ≡ o
    go (given x) e = rw (h, ← length_fits fs x.values (read_fits fs s x l b e), firsts_all x.values 0)
    go (refused k) e = refl

module _ (fs : List Field) (s : List ℕ) where
  abbrev o : Outcome Said
  o = read_record fs s

  pub none_left : (b : Bool) → b ≡ eqb (length s) 0 → b ≡ true → refused 4 ≡ o
  unfolding read_record
  none_left b e h = rw (← e, h)

  module _ (some : Bool) (es : some ≡ eqb (length s) 0) (h : some ≡ false) (map u : ℕ) (em : map ≡ get_or s 0 0) (eu : u ≡ 1 + needed fs map) where
    pub too_short : length s < u → refused 4 ≡ o
    unfolding read_record read_mapped
    too_short g = rw (← es, h, ← em, ← eu, lt-ltb (length s) u g)

    module _ (g : u ≤ length s) (left : ℕ) (el : left ≡ stray_bits fs map) where
      pub stray : (left ≡ 0 → ⊥) → refused 5 ≡ o
      unfolding read_record read_mapped
      stray k = rw (← es, h, ← em, ← eu, le-ltb (length s) u g, ← el, ne_eqb left 0 k)

      module _ (k : left ≡ 0) (values : List ℕ) (ev : values ≡ values_in fs map (drop 1 s)) (b : Bool) (eb : b ≡ restated fs map values) where
        pub again : b ≡ true → refused 6 ≡ o
        unfolding read_record read_mapped
        again t = rw (← es, h, ← em, ← eu, le-ltb (length s) u g, ← el, eq-eqb left 0 k, ← ev, ← eb, t)

        pub said : b ≡ false → given (record { values = values; used = u }) ≡ o
        unfolding read_record read_mapped
        said t = rw (← es, h, ← em, ← eu, le-ltb (length s) u g, ← el, eq-eqb left 0 k, ← ev, ← eb, t)

  -- ---- the values in an array of n places
  module _ (n : ℕ) where
    pub refused_too : (k : ℕ) → refused k ≡ o → refused k ≡ read_in_places n fs s
    refused_too k e = rw (← e)

    pub said_too : (vs values : List ℕ) (u : ℕ) → given (record { values = vs; used = u }) ≡ o → values ≡ firsts n vs 0 → given (record { values = values; used = u }) ≡ read_in_places n fs s
    said_too vs values u e h = rw (← e, h)
