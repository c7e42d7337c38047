-- What a layout shows of its fields, one after the other. Assumes nothing.
use mathlib.Core.Path.{◌≡◌, refl, sym, ap, ◌∙◌}
use mathlib.Core.Bool.{Bool, true, false, not, ◌&&◌}
use mathlib.Core.List.{List, [], ◌∷◌}
use Prim.Native.Nat.{ℕ, zero, suc, ◌+◌, ◌*◌, ◌^◌, ◌<◌, ◌≤◌}
use native.Mathlib.Nat.{not-suc-le-zero, le_of_suc-le-suc}
use native.Mathlib.Omega.{arith}
use mathlib.Core.Logic.{◌⊎◌, inl, inr}
use borrow.Author.Tests.{ltb-true, leb-true, not-true}
use lib.ListN.{length, get_or, drop}
use Rattle.std.proofs.lemmas.List.{drop_more}
use lib.Dec.{ltb, leb}
use Rattle.lists.proofs.Count.{and_both}
use Rattle.std.specs.declared.iter.Zip.{Zip}
use Rattle.std.proofs.Common.{Iter}
use Rattle.records.specs.declared.Field.{Field}
use Rattle.records.specs.Layout.{no_field, is_bit, is_layout, Laid, Fits, fits_none, fits_more}

-- a field before others of a layout
pub record Leads (f : Field) (fs : List Field) : Type 0 where
  pub low : f.bit < 8
  pub alone : is_bit fs f.bit ≡ false
  pub small : f.size ≤ 8
  pub fits : f.absent < 2 ^ (8 * f.size)
  pub others : is_layout fs ≡ true

pub leads : (f : Field) (fs : List Field) → is_layout (f ∷ fs) ≡ true → Leads f fs
unfolding is_layout
leads f fs e =
    let b : Bool = ltb f.bit 8 && not (is_bit fs f.bit) in
    let s : Bool = leb f.size 8 && ltb f.absent (2 ^ (8 * f.size)) in
    let p : ((b && s) ≡ true) × (is_layout fs ≡ true) = and_both (b && s) (is_layout fs) e in
    let q : (b ≡ true) × (s ≡ true) = and_both b s p.0 in
    let x : (ltb f.bit 8 ≡ true) × (not (is_bit fs f.bit) ≡ true) = and_both (ltb f.bit 8) (not (is_bit fs f.bit)) q.0 in
    let y : (leb f.size 8 ≡ true) × (ltb f.absent (2 ^ (8 * f.size)) ≡ true) = and_both (leb f.size 8) (ltb f.absent (2 ^ (8 * f.size))) q.1 in
    record {
      low = ltb-true f.bit 8 x.0;
      alone = not-true (is_bit fs f.bit) x.1;
      small = leb-true f.size 8 y.0;
      fits = ltb-true f.absent (2 ^ (8 * f.size)) y.1;
      others = p.1;
    }

pub layout_drop : (j : ℕ) (fs : List Field) → is_layout fs ≡ true → is_layout (drop j fs) ≡ true
layout_drop zero fs e = e
layout_drop (suc j) [] e = e
layout_drop (suc j) (f ∷ fs) e = layout_drop j fs (leads f fs e).others

-- place j of an array of fields that is a layout
pub laid_at : (fields : List Field) (j : ℕ) → Laid fields → j < length fields → Leads (get_or fields j no_field) (drop (j + 1) fields)
laid_at fields j l h =
    leads (get_or fields j no_field) (drop (j + 1) fields) (sym (ap is_layout (drop_more fields j no_field h)) ∙ layout_drop j fields l.layout)

-- ---- fields still to come, each with its value
pub record Left (fields : List Field) (values : List ℕ) : Type 0 where
  pub layout : is_layout fields ≡ true
  pub many : length values ≡ length fields

-- all fields and their values, which a loop over them begins with
pub record Starts (fs : List Field) (vs : List ℕ) (fields : List Field) (values : List ℕ) : Type 0 where
  pub laid : Laid fs
  pub many : length vs ≡ length fs
  pub same_fields : fields ≡ fs
  pub same_values : values ≡ vs

pub starts : (fs : List Field) (vs : List ℕ) → Laid fs → length vs ≡ length fs → (i : Iter Field) (z w : Zip (Iter Field) (Iter ℕ)) → w ≡ z → z.a ≡ i → i.rest.now ≡ fs → z.b.rest.now ≡ vs → Starts fs vs w.a.rest.now w.b.rest.now
starts fs vs l n i z w e a f v = rw e (record { laid = l; many = n; same_fields = rw a f; same_values = v })

pub all_left : (fs : List Field) (vs : List ℕ) (fields : List Field) (values : List ℕ) → Starts fs vs fields values → Left fields values
all_left fs vs fields values s = rw (s.same_fields, s.same_values) (record { layout = s.laid.layout; many = s.many })

-- a field and its value, before the others
abbrev pub Next : Field → ℕ → List Field → List ℕ → List Field → List ℕ → Type 0
Next f v fields values fields₀ values₀ = (fields₀ ≡ f ∷ fields) × (values₀ ≡ v ∷ values)

module _ (f : Field) (v : ℕ) (fields : List Field) (values : List ℕ) (fields₀ : List Field) (values₀ : List ℕ) (x : Next f v fields values fields₀ values₀) (l : Left fields₀ values₀) where
  pub first_left : Leads f fields
  first_left = leads f fields (rw x.0 at l.layout)

  pub one_left : Left fields values
  one_left = record { layout = first_left.others; many = omega (arith, l.many, ap length x.0, ap length x.1) }

-- the loop over them ends with the fields
pub none_left : {A B : Type 0} {P : A → Type 0} {Q : B → Type 0} (fields : List Field) (values : List ℕ) → Left fields values → ((x : A) × ((length fields ≡ 0) × P x)) ⊎ ((x : B) × ((length values ≡ 0) × Q x)) → length fields ≡ 0
none_left fields values l (inl x) = x.1.0
none_left fields values l (inr x) = omega (arith, l.many, x.1.0)

pub layout_low : (fields : List Field) → is_layout fields ≡ true → (k : ℕ) (d : Field) → k < length fields → (get_or fields k d).bit < 8
layout_low [] e k d h = absurd (not-suc-le-zero h)
layout_low (f ∷ fields) e zero d h = (leads f fields e).low
layout_low (f ∷ fields) e (suc k) d h = layout_low fields (leads f fields e).others k d (le_of_suc-le-suc h)

-- a value that fits in its field
pub fits_at : (fs : List Field) (vs : List ℕ) → Fits fs vs → (j : ℕ) → j < length fs → get_or vs j 0 < 2 ^ (8 * (get_or fs j no_field).size)
fits_at [] [] fits_none j h = absurd (not-suc-le-zero h)
fits_at (f ∷ fs) (v ∷ vs) (fits_more l r) zero h = l
fits_at (f ∷ fs) (v ∷ vs) (fits_more l r) (suc j) h = fits_at fs vs r j (le_of_suc-le-suc h)
fits_at [] (v ∷ vs) x4 j h = elim x4 [ ]
fits_at (f ∷ fs) [] x4 j h = elim x4 [ ]

-- as many values as fields
pub length_fits : (fs : List Field) (vs : List ℕ) → Fits fs vs → length vs ≡ length fs
length_fits [] [] fits_none = refl
length_fits (f ∷ fs) (v ∷ vs) (fits_more l r) = ap suc (length_fits fs vs r)
length_fits [] (v ∷ vs) x'' = elim x'' [ ]
length_fits (f ∷ fs) [] x3 = elim x3 [ ]
