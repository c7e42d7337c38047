-- A record does not see the bytes that follow it, and takes no more than all its fields. Assumes nothing.
use mathlib.Core.Path.{◌≡◌, refl, ap, ap₂, ◌∙◌}
use mathlib.Core.Bool.{Bool, true, false, not, cond}
use mathlib.Core.List.{List, [], ◌∷◌, ◌++◌}
use Prim.Native.Nat.{ℕ, ◌+◌, ◌<◌, ◌≤◌}
use native.Mathlib.Omega.{arith}
use borrow.Author.Tests.{le-ltb, ne_eqb}
use lib.ListN.{length, get_or, drop, length-append, length-drop}
use lib.Seq.{drop-append-le}
use lib.Dec.{eqb, ltb}
use Rattle.refusals.specs.Refusals.{Outcome, given, refuse_if, refused_or}
use Rattle.refusals.proofs.Refusals.{past}
use Rattle.numbers.specs.Numbers.{number_in}
use Rattle.numbers.proofs.Front.{byte_front, number_front}
use Rattle.records.specs.declared.Field.{Field}
use Rattle.records.specs.Layout.{stands}
use Rattle.records.specs.Reading.{size_in, needed, value_in, values_in, stray_bits, restated, Said, read_mapped, read_record}
use Rattle.records.proofs.Sizes.{all_bytes, size_some, size_none}

-- ---- the bytes that a map byte needs
size_bound : (map : ℕ) (f : Field) → size_in map f ≤ f.size
size_bound map f = go (stands map f) refl
  where
    go : (b : Bool) → stands map f ≡ b → size_in map f ≤ f.size
    go true e = omega (arith, size_some map f e)
    go false e = omega (arith, size_none map f e)

pub needed_bound : (fs : List Field) (map : ℕ) → needed fs map ≤ all_bytes fs
unfolding needed
needed_bound [] map = omega arith
needed_bound (f ∷ fs) map = omega (arith, size_bound map f, needed_bound fs map)

-- ---- the values
value_front : (map : ℕ) (f : Field) (a t : List ℕ) → size_in map f ≤ length a → value_in map f (a ++ t) ≡ value_in map f a
unfolding value_in
value_front map f a t h = go (stands map f) refl
  where
    go : (b : Bool) → stands map f ≡ b → cond (stands map f) (number_in f.size (a ++ t)) f.absent ≡ cond (stands map f) (number_in f.size a) f.absent
    go true e = rw e (number_front f.size a t (omega (arith, size_some map f e)))
    go false e = rw e

values_front : (fs : List Field) (map : ℕ) (a t : List ℕ) → needed fs map ≤ length a → values_in fs map (a ++ t) ≡ values_in fs map a
unfolding needed values_in
values_front [] map a t h = refl
values_front (f ∷ fs) map a t h =
    let k : ℕ = size_in map f in
    let l : k ≤ length a = omega arith in
    ap₂ ◌∷◌ (value_front map f a t l) (ap (values_in fs map) (drop-append-le k a t l) ∙ values_front fs map (drop k a) t (omega (arith, length-drop k a)))

-- ---- the record
mapped_front : (fs : List Field) (map : ℕ) (a t : List ℕ) → needed fs map < length a → read_mapped fs map (a ++ t) ≡ read_mapped fs map a
unfolding read_mapped
mapped_front fs map a t h =
    let n : ℕ = 1 + needed fs map in
    let long : n ≤ length a = omega arith in
    let longer : n ≤ length (a ++ t) = omega (arith, length-append a t) in
    let values : values_in fs map (drop 1 (a ++ t)) ≡ values_in fs map (drop 1 a) = ap (values_in fs map) (drop-append-le 1 a t (omega arith)) ∙ values_front fs map (drop 1 a) t (omega (arith, length-drop 1 a)) in
    rw (le-ltb (length (a ++ t)) n longer, le-ltb (length a) n long, values)

-- WHAT FOLLOWS A RECORD DOES NOT CHANGE WHAT IT SAYS
pub record_front : (fs : List Field) (a t : List ℕ) → all_bytes fs < length a → read_record fs (a ++ t) ≡ read_record fs a
unfolding read_record
record_front fs a t h =
    let long : length a ≡ 0 → ⊥ = λ e. omega arith in
    let longer : length (a ++ t) ≡ 0 → ⊥ = λ e. omega (arith, length-append a t) in
    let map : ℕ = get_or a 0 0 in
    let head : get_or (a ++ t) 0 0 ≡ map = byte_front a t 0 (omega arith) in
    rw (ne_eqb (length (a ++ t)) 0 longer, ne_eqb (length a) 0 long, head) (mapped_front fs map a t (omega (arith, needed_bound fs map)))

-- A RECORD IS AT MOST ITS MAP BYTE AND ALL ITS FIELDS
pub used_bound : (fs : List Field) (s : List ℕ) (x : Said) → read_record fs s ≡ given x → x.used ≤ 1 + all_bytes fs
unfolding read_record read_mapped
used_bound fs s x e =
    let map : ℕ = get_or s 0 0 in
    let vs : List ℕ = values_in fs map (drop 1 s) in
    let n : ℕ = needed fs map in
    let y : Said = record { values = vs; used = 1 + n } in
    let six : Outcome Said = refused_or (refuse_if (restated fs map vs) 6) (given y) in
    let five : Outcome Said = refused_or (refuse_if (not (eqb (stray_bits fs map) 0)) 5) six in
    let four : Outcome Said = refused_or (refuse_if (ltb (length s) (1 + n)) 4) five in
    let o : (eqb (length s) 0 ≡ false) × (four ≡ given x) = past (eqb (length s) 0) 4 four x e in
    let p : (ltb (length s) (1 + n) ≡ false) × (five ≡ given x) = past (ltb (length s) (1 + n)) 4 five x o.1 in
    let q : (not (eqb (stray_bits fs map) 0) ≡ false) × (six ≡ given x) = past (not (eqb (stray_bits fs map) 0)) 5 six x p.1 in
    let r : (restated fs map vs ≡ false) × (given y ≡ given x) = past (restated fs map vs) 6 (given y) x q.1 in
    let same : y ≡ x = (let e = r.1 in cc) in
    rw (← same) (omega (arith, needed_bound fs map))
