-- The bytes that fields take: laws of `size_in`, `needed`, `field_of` and `body_of`. Assumes nothing.
use mathlib.Core.Path.{◌≡◌, refl, ap, ◌∙◌}
use mathlib.Core.Bool.{Bool, true, false, cond}
use mathlib.Core.List.{List, [], ◌∷◌}
use Prim.Native.Nat.{ℕ, ◌+◌, ◌≤◌}
use native.Mathlib.Omega.{arith}
use lib.ListN.{length, get_or, drop, length-append}
use Rattle.numbers.specs.Numbers.{bytes_of}
use Rattle.numbers.proofs.Laws.{length_bytes}
use Rattle.records.specs.Layout.{stands}
use Rattle.records.specs.Writing.{is_written, field_of, body_of}
use Rattle.records.specs.declared.Field.{Field}
use Rattle.records.specs.Reading.{size_in, needed}

pub size_some : (map : ℕ) (f : Field) → stands map f ≡ true → size_in map f ≡ f.size
unfolding size_in
size_some map f e = rw e

pub size_none : (map : ℕ) (f : Field) → stands map f ≡ false → size_in map f ≡ 0
unfolding size_in
size_none map f e = rw e

pub size_small : (map : ℕ) (f : Field) → f.size ≤ 8 → size_in map f ≤ 8
unfolding size_in
size_small map f h = go (stands map f)
  where
    go : (b : Bool) → cond b f.size 0 ≤ 8
    go true = h
    go false = omega arith

pub needed_more : (f : Field) (fs : List Field) (map : ℕ) → needed (f ∷ fs) map ≡ size_in map f + needed fs map
unfolding needed
needed_more f fs map = refl

pub field_some : (f : Field) (v : ℕ) → is_written f v ≡ true → field_of f v ≡ bytes_of f.size v
unfolding field_of
field_some f v e = rw e

pub field_none : (f : Field) (v : ℕ) → is_written f v ≡ false → field_of f v ≡ []
unfolding field_of
field_none f v e = rw e

pub length_some : (f : Field) (v : ℕ) → is_written f v ≡ true → length (field_of f v) ≡ f.size
length_some f v e = ap length (field_some f v e) ∙ length_bytes f.size v

pub length_none : (f : Field) (v : ℕ) → is_written f v ≡ false → length (field_of f v) ≡ 0
length_none f v e = ap length (field_none f v e)

-- the bytes of all fields of a layout
abbrev pub all_bytes : List Field → ℕ
all_bytes [] = 0
all_bytes (f ∷ fs) = f.size + all_bytes fs

pub field_bound : (f : Field) (v : ℕ) → length (field_of f v) ≤ f.size
field_bound f v = go (is_written f v) refl
  where
    go : (b : Bool) → is_written f v ≡ b → length (field_of f v) ≤ f.size
    go true e = omega (arith, length_some f v e)
    go false e = omega (arith, length_none f v e)

pub length_small : (f : Field) (v : ℕ) → f.size ≤ 8 → length (field_of f v) ≤ 8
length_small f v h = omega (arith, field_bound f v)

pub body_bound : (fs : List Field) (vs : List ℕ) → length (body_of fs vs) ≤ all_bytes fs
unfolding body_of
body_bound [] vs = omega arith
body_bound (f ∷ fs) vs =
    let v : ℕ = get_or vs 0 0 in
    omega (arith, length-append (field_of f v) (body_of fs (drop 1 vs)), field_bound f v, body_bound fs (drop 1 vs))
