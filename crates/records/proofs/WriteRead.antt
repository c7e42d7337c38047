-- A record of any layout that is written, then read, is read as it was. Assumes nothing.
use mathlib.Core.Path.{◌≡◌, refl, sym, ap, ap₂, ◌∙◌}
use mathlib.Core.Bool.{Bool, true, false, not-and_self, cond}
use mathlib.Core.List.{List, [], ◌∷◌, ◌++◌, append_assoc}
use Prim.Native.Nat.{ℕ, suc, ◌+◌, ◌*◌, ◌^◌, ◌<◌, ◌≤◌}
use native.Mathlib.Numerals.{one-add}
use native.Mathlib.Omega.{arith}
use borrow.Author.Tests.{le-ltb, ne_eqb, eqb-true, not-false}
use lib.Seq.{drop_at}
use lib.ListN.{length, get_or, drop, length-append}
use lib.Dec.{eqb}
use Rattle.refusals.specs.Refusals.{given}
use Rattle.numbers.specs.Numbers.{number_in}
use Rattle.numbers.proofs.Trip.{number_bytes_lem}
use Rattle.records.specs.declared.Field.{Field}
use Rattle.records.specs.Writing.{is_written, map_of, field_of, body_of, record_of}
use Rattle.records.specs.Layout.{is_layout, stands, Fits, fits_none, fits_more}
use Rattle.records.specs.Reading.{size_in, needed, value_in, values_in, restated, read_mapped, read_record}
use Rattle.records.proofs.Sizes.{size_some, size_none, field_some, length_some, length_none}
use Rattle.records.proofs.Maps.{Agrees, agrees_none, agrees_more, map_agrees, map_own}

-- a field takes the bytes that it is written in
size_field : (map : ℕ) (f : Field) (v : ℕ) → stands map f ≡ is_written f v → size_in map f ≡ length (field_of f v)
size_field map f v e = go (is_written f v) refl
  where
    go : (b : Bool) → is_written f v ≡ b → size_in map f ≡ length (field_of f v)
    go true q = size_some map f (e ∙ q) ∙ sym (length_some f v q)
    go false q = size_none map f (e ∙ q) ∙ sym (length_none f v q)

absent_is : (f : Field) (v : ℕ) → is_written f v ≡ false → f.absent ≡ v
unfolding is_written
absent_is f v w = sym (eqb-true v f.absent (not-false (eqb v f.absent) w))

-- and its value is read from them
value_back : (map : ℕ) (f : Field) (v : ℕ) (q : List ℕ) → stands map f ≡ is_written f v → v < 2 ^ (8 * f.size) → value_in map f (field_of f v ++ q) ≡ v
unfolding value_in
value_back map f v q e h = go (is_written f v) refl
  where
    go : (b : Bool) → is_written f v ≡ b → cond (stands map f) (number_in f.size (field_of f v ++ q)) f.absent ≡ v
    go true w = rw (e, w, field_some f v w) (number_bytes_lem f.size v q h)
    go false w = rw (e, w) (absent_is f v w)

pub needed_body : (fs : List Field) (map : ℕ) (vs : List ℕ) → Agrees map fs vs → needed fs map ≡ length (body_of fs vs)
unfolding needed body_of
needed_body [] map vs agrees_none = refl
needed_body (f ∷ fs) map vs (agrees_more e r) = ap₂ ◌+◌ (size_field map f (get_or vs 0 0) e) (needed_body fs map (drop 1 vs) r) ∙ sym (length-append (field_of f (get_or vs 0 0)) (body_of fs (drop 1 vs)))

pub values_back : (fs : List Field) (map : ℕ) (vs q : List ℕ) → Agrees map fs vs → Fits fs vs → values_in fs map (body_of fs vs ++ q) ≡ vs
unfolding values_in body_of
values_back [] map [] q a fits_none = refl
values_back (f ∷ fs) map (v ∷ vs) q (agrees_more e r) (fits_more h t) =
    let x : List ℕ = field_of f v in
    let y : List ℕ = body_of fs vs ++ q in
    let z : drop (size_in map f) (x ++ y) ≡ y = drop_at x y (size_in map f) (sym (size_field map f v e)) in
    rw (append_assoc x (body_of fs vs) q, z) (ap₂ ◌∷◌ (value_back map f v y e h) (values_back fs map vs q r t))
values_back [] map (v ∷ vs) q a x4 = elim x4 [ ]
values_back (f ∷ fs) map [] q a x4 = elim x4 [ ]

pub unstated : (fs : List Field) (map : ℕ) (vs : List ℕ) → Agrees map fs vs → restated fs map vs ≡ false
unfolding restated is_written
unstated [] map vs agrees_none = refl
unstated (f ∷ fs) map vs (agrees_more e r) = rw (e, unstated fs map (drop 1 vs) r, not-and_self (eqb (get_or vs 0 0) f.absent))

-- WRITTEN, THEN READ
pub record_back : (fs : List Field) (vs q : List ℕ) → is_layout fs ≡ true → Fits fs vs → read_record fs (record_of fs vs ++ q) ≡ given (record { values = vs; used = length (record_of fs vs) })
unfolding read_record read_mapped record_of
record_back fs vs q l h =
    let map : ℕ = map_of fs vs in
    let s : List ℕ = map ∷ (body_of fs vs ++ q) in
    let a : Agrees map fs vs = map_agrees fs vs l in
    let n : 1 + needed fs map ≡ suc (length (body_of fs vs)) = ap (λ (k : ℕ). 1 + k) (needed_body fs map vs a) ∙ one-add (length (body_of fs vs)) in
    let e : eqb (length s) 0 ≡ false = ne_eqb (length s) 0 (λ z. omega arith) in
    let g : suc (length (body_of fs vs)) ≤ length s = omega (arith, length-append (body_of fs vs) q) in
    rw (e, n, le-ltb (length s) (suc (length (body_of fs vs))) g, map_own fs vs l, values_back fs map vs q a h, unstated fs map vs a)
