-- Reading: the turns of each loop over the fields, and the cases of a record. Assumes nothing.
use mathlib.Core.Path.{◌≡◌, refl, sym, ap, ◌∙◌}
use mathlib.Core.Bool.{Bool, true, false, ◌&&◌, ◌||◌}
use mathlib.Core.List.{List, [], ◌∷◌, ◌++◌, append_assoc, append-nil}
use Prim.Native.Nat.{ℕ, ◌+◌, ◌*◌, ◌-◌, ◌<◌, ◌≤◌}
use native.Mathlib.Omega.{arith}
use lib.Seq.{drop-drop}
use Rattle.std.proofs.lemmas.List.{drop_more}
use lib.ListN.{drop_of_length-le, length, get_or, drop, take, set, length-append, length-drop}
use lib.Dec.{eqb}
use Rattle.std.specs.List.{sum_by}
use Rattle.std.proofs.lemmas.List.Sums.{sum_by-cons}
use Rattle.places.specs.Places.{firsts}
use Rattle.places.proofs.Parts.{part_rest}
use Rattle.places.proofs.Firsts.{firsts_more}
use Rattle.numbers.specs.Numbers.{number_in}
use Rattle.words.specs.Word.{bit_of, without_bit}
use Rattle.records.specs.Reading.{size_in, needed, value_in, values_in, stray_bits, restated}
use Rattle.records.specs.declared.Field.{Field}
use Rattle.records.specs.Layout.{is_layout, no_field, Laid, stands}
use Rattle.records.proofs.Sizes.{size_small, needed_more}
use Rattle.records.proofs.Maps.{map_without, stray_rule}
use Rattle.records.proofs.Layouts.{leads, Left, Starts, Next, all_left, one_left}

-- ---- a field
pub size_here : (map : ℕ) (f : Field) (b : Bool) → b ≡ bit_of map f.bit → b ≡ true → f.size ≡ size_in map f
unfolding size_in stands
size_here map f b e h = rw (← e, h)

pub size_absent : (map : ℕ) (f : Field) (b : Bool) → b ≡ bit_of map f.bit → b ≡ false → 0 ≡ size_in map f
unfolding size_in stands
size_absent map f b e h = rw (← e, h)

pub value_here : (map : ℕ) (f : Field) (s : List ℕ) (b : Bool) → b ≡ bit_of map f.bit → b ≡ true → (v : ℕ) → v ≡ number_in f.size s → v ≡ value_in map f s
unfolding value_in stands
value_here map f s b e h v q = rw (← e, h) q

pub value_room : (map : ℕ) (f : Field) (b : Bool) → b ≡ bit_of map f.bit → b ≡ true → (k : ℕ) → size_in map f ≤ k → f.size ≤ k
value_room map f b e h k g = rw (size_here map f b e h) g

pub value_absent : (map : ℕ) (f : Field) (s : List ℕ) (b : Bool) → b ≡ bit_of map f.bit → b ≡ false → f.absent ≡ value_in map f s
unfolding value_in stands
value_absent map f s b e h = rw (← e, h)

pub restated_here : (map : ℕ) (f : Field) (v : ℕ) (b : Bool) → b ≡ bit_of map f.bit → b ≡ true → eqb v f.absent ≡ (stands map f && eqb v f.absent)
unfolding stands
restated_here map f v b e h = rw (← e, h)

pub restated_absent : (map : ℕ) (f : Field) (v : ℕ) (b : Bool) → b ≡ bit_of map f.bit → b ≡ false → b ≡ (stands map f && eqb v f.absent)
unfolding stands
restated_absent map f v b e h = rw (← e, h)

-- ---- the bytes that the fields need, summed
pub sizes_summed : (map : ℕ) (fs : List Field) → sum_by (size_in map) fs ≡ needed fs map
unfolding needed
sizes_summed map [] = refl
sizes_summed map (f ∷ fs) = omega (arith, sum_by-cons (size_in map) f fs, sizes_summed map fs)

needed_small : (map : ℕ) (fs : List Field) → is_layout fs ≡ true → needed fs map ≤ 8 * length fs
unfolding needed
needed_small map [] l = omega arith
needed_small map (f ∷ fs) l = omega (arith, size_small map f (leads f fs l).small, needed_small map fs (leads f fs l).others)

pub sizes_small : (map : ℕ) (fs : List Field) → Laid fs → sum_by (size_in map) fs ≤ 64
sizes_small map fs l = omega (arith, sizes_summed map fs, needed_small map fs l.layout, l.few)

module _ (fs : List Field) where
  -- ---- the bits that are no field's
  abbrev pub Cleared : (map left j : ℕ) → Type 0
  Cleared map left j = map_without fs map ≡ map_without (drop j fs) left

  pub one_cleared : (map left j r : ℕ) → Cleared map left j → j < length fs → r ≡ without_bit 64 left (get_or fs j no_field).bit → Cleared map r (j + 1)
  unfolding map_without
  one_cleared map left j r c h e = c ∙ rw (drop_more fs j no_field h, e)

  pub all_cleared : (map left j : ℕ) → map < 256 → Cleared map left j → length fs ≤ j → left ≡ stray_bits fs map
  unfolding map_without
  all_cleared map left j l c h = sym (c ∙ rw (drop_of_length-le fs {i = j} h)) ∙ stray_rule fs map l

  -- ---- the values
  more_needed : (map j : ℕ) → j < length fs → needed (drop j fs) map ≡ size_in map (get_or fs j no_field) + needed (drop (j + 1) fs) map
  more_needed map j h = ap (λ (l : List Field). needed l map) (drop_more fs j no_field h) ∙ needed_more (get_or fs j no_field) (drop (j + 1) fs) map

  pub record Taken (n map : ℕ) (s values : List ℕ) (at j : ℕ) : Type 0 where
    pub within : j ≤ length fs
    pub done : List ℕ
    pub count : length done ≡ j
    pub stored : values ≡ firsts n done 0
    pub rest : values_in fs map (drop 1 s) ≡ done ++ values_in (drop j fs) map (drop at s)
    pub room : at + needed (drop j fs) map ≡ 1 + needed fs map

  pub none_taken : (n map : ℕ) (s values : List ℕ) → values ≡ firsts n [] 0 → Taken n map s values 1 0
  none_taken n map s values e = record { within = omega arith; done = []; count = refl; stored = e; rest = refl; room = refl }

  module _ (n map : ℕ) (s values : List ℕ) (at j : ℕ) (t : Taken n map s values at j) (h : j < length fs) (long : 1 + needed fs map ≤ length s) where
    abbrev f : Field
    f = get_or fs j no_field

    pub at_room : at + size_in map f ≤ length s
    at_room = omega (arith, t.room, more_needed map j h)

    pub part_room : size_in map f ≤ length (take (length s - at) (drop at s))
    part_room = rw (part_rest at s, length-drop) (omega (arith, at_room))

    pub one_taken : length fs ≤ n → (v r : ℕ) → v ≡ value_in map f (take (length s - at) (drop at s)) → r ≡ size_in map f → Taken n map s (set values j v) (at + r) (j + 1)
    unfolding values_in
    one_taken few v r ev er =
        let e : v ≡ value_in map f (drop at s) = ev ∙ ap (value_in map f) (part_rest at s) in
        record {
          within = omega arith;
          done = t.done ++ (v ∷ []);
          count = length-append t.done (v ∷ []) ∙ ap (λ (k : ℕ). k + 1) t.count;
          stored = rw t.stored (firsts_more n j t.done v 0 t.count (omega arith));
          rest = t.rest ∙ rw (drop_more fs j no_field h, er, ← drop-drop (size_in map f) at s, e, append_assoc);
          room = omega (arith, t.room, more_needed map j h);
        }

  pub all_taken : (n map : ℕ) (s values : List ℕ) (at j : ℕ) → Taken n map s values at j → length fs ≤ j → values ≡ firsts n (values_in fs map (drop 1 s)) 0
  unfolding values_in
  all_taken n map s values at j t h =
      let e : values_in fs map (drop 1 s) ≡ t.done = t.rest ∙ rw (drop_of_length-le fs {i = j} h, append-nil) in
      t.stored ∙ ap (λ (l : List ℕ). firsts n l 0) (sym e)

  -- ---- a field that is written and has its absent value: none of the fields before these is
  module _ (vs : List ℕ) (map : ℕ) where
    pub record Unstated (fields : List Field) (values : List ℕ) : Type 0 where
      pub left : Left fields values
      pub same : restated fs map vs ≡ restated fields map values

    pub none_unstated : (fields : List Field) (values : List ℕ) → Starts fs vs fields values → Unstated fields values
    none_unstated fields values s = record { left = all_left fs vs fields values s; same = rw (s.same_fields, s.same_values) }

    module _ (f : Field) (v : ℕ) (fields : List Field) (values : List ℕ) (fields₀ : List Field) (values₀ : List ℕ) (x : Next f v fields values fields₀ values₀) (u : Unstated fields₀ values₀) (b : Bool) (e : b ≡ (stands map f && eqb v f.absent)) where
      split : restated fs map vs ≡ (b || restated fields map values)
      unfolding restated
      split = u.same ∙ rw (x.0, x.1, ← e)

      pub one_restated : b ≡ true → true ≡ restated fs map vs
      one_restated t = sym (split ∙ rw t)

      pub one_unstated : b ≡ false → Unstated fields values
      one_unstated t = record { left = one_left f v fields values fields₀ values₀ x u.left; same = split ∙ rw t }

    pub all_unstated : (fields : List Field) (values : List ℕ) → Unstated fields values → length fields ≡ 0 → false ≡ restated fs map vs
    unfolding restated
    all_unstated [] values u e = sym u.same
    all_unstated (f ∷ fields) values u e = absurd (omega arith)
