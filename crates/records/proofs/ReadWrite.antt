-- A record of any layout that is read, then written, is written as it was. Assumes nothing.
use mathlib.Core.Path.{◌≡◌, refl, sym, ap, ap₂, ◌∙◌}
use mathlib.Core.Bool.{Bool, true, false, not, ◌&&◌, cond}
use mathlib.Core.List.{List, [], ◌∷◌, ◌++◌}
use Prim.Native.Nat.{ℕ, suc, ◌+◌, ◌*◌, ◌^◌, ◌<◌, ◌≤◌}
use native.Mathlib.Numerals.{one-add}
use native.Mathlib.Omega.{arith}
use borrow.Author.Tests.{eq-eqb, ltb-false, eqb-true, not-false}
use lib.ListN.{length, get_or, drop, take, length-drop}
use lib.Dec.{eqb, ltb}
use lib.Seq.{take-add}
use Rattle.lists.proofs.Count.{or_neither}
use Rattle.refusals.specs.Refusals.{Outcome, given, refuse_if, refused_or}
use Rattle.refusals.proofs.Refusals.{past}
use Rattle.numbers.specs.Numbers.{number_in, bytes_of}
use Rattle.numbers.proofs.Trip.{bytes_number, bytes_drop}
use Rattle.numbers.proofs.Laws.{number_bound}
use Rattle.records.specs.declared.Field.{Field}
use Rattle.records.specs.Writing.{is_written, map_of, field_of, body_of, record_of}
use Rattle.records.specs.Reading.{size_in, needed, value_in, values_in, stray_bits, restated, Said, read_mapped, read_record}
use Rattle.records.specs.Layout.{is_layout, stands, Fits, fits_none, fits_more}
use Rattle.records.proofs.Sizes.{size_some, size_none, field_some, field_none}
use Rattle.records.proofs.Layouts.{Leads, leads}
use Rattle.records.proofs.Maps.{Agrees, agrees_none, agrees_more, map_only}

agrees_here : (f : Field) (v : ℕ) (b : Bool) → b ≡ true → (b && eqb v f.absent) ≡ false → b ≡ is_written f v
unfolding is_written
agrees_here f v true e o = rw o
agrees_here f v false e o = cc

agrees_absent : (map : ℕ) (f : Field) (s : List ℕ) → stands map f ≡ false → stands map f ≡ is_written f (value_in map f s)
unfolding is_written value_in
agrees_absent map f s e = rw (e, eq-eqb f.absent f.absent refl)

-- what is not restated agrees with the map byte that it was read under
read_agrees : (fs : List Field) (map : ℕ) (s : List ℕ) → restated fs map (values_in fs map s) ≡ false → Agrees map fs (values_in fs map s)
unfolding restated values_in
read_agrees [] map s e = agrees_none
read_agrees (f ∷ fs) map s e =
    let v : ℕ = value_in map f s in
    let vs : List ℕ = values_in fs map (drop (size_in map f) s) in
    let o : ((stands map f && eqb v f.absent) ≡ false) × (restated fs map vs ≡ false) = or_neither (stands map f && eqb v f.absent) (restated fs map vs) e in
    agrees_more (go (stands map f) refl o.0) (read_agrees fs map (drop (size_in map f) s) o.1)
  where
    go : (b : Bool) → stands map f ≡ b → (stands map f && eqb (value_in map f s) f.absent) ≡ false → stands map f ≡ is_written f (value_in map f s)
    go true q o = agrees_here f (value_in map f s) (stands map f) q o
    go false q o = agrees_absent map f s q

value_some : (map : ℕ) (f : Field) (s : List ℕ) → stands map f ≡ true → value_in map f s ≡ number_in f.size s
unfolding value_in
value_some map f s e = rw e

-- the bytes of a field that was read
field_read : (map : ℕ) (f : Field) (s : List ℕ) → ((i : ℕ) → get_or s i 0 < 256) → size_in map f ≤ length s → stands map f ≡ is_written f (value_in map f s) → field_of f (value_in map f s) ≡ take (size_in map f) s
field_read map f s b h e = go (stands map f) refl
  where
    go : (q : Bool) → stands map f ≡ q → field_of f (value_in map f s) ≡ take (size_in map f) s
    go true q =
        let r : f.size ≤ length s = omega (arith, size_some map f q) in
        field_some f (value_in map f s) (sym e ∙ q) ∙ ap (bytes_of f.size) (value_some map f s q) ∙ bytes_number f.size s b r ∙ ap (λ (k : ℕ). take k s) (sym (size_some map f q))
    go false q = field_none f (value_in map f s) (sym e ∙ q) ∙ ap (λ (k : ℕ). take k s) (sym (size_none map f q))

pub body_read : (fs : List Field) (map : ℕ) (s : List ℕ) → ((i : ℕ) → get_or s i 0 < 256) → needed fs map ≤ length s → Agrees map fs (values_in fs map s) → body_of fs (values_in fs map s) ≡ take (needed fs map) s
unfolding needed body_of values_in
body_read [] map s b h a = refl
body_read (f ∷ fs) map s b h (agrees_more e r) =
    let k : ℕ = size_in map f in
    let t : List ℕ = drop k s in
    let x : field_of f (value_in map f s) ≡ take k s = field_read map f s b (omega arith) e in
    let y : body_of fs (values_in fs map t) ≡ take (needed fs map) t = body_read fs map t (bytes_drop k s b) (omega (arith, length-drop k s)) r in
    ap₂ ◌++◌ x y ∙ sym (take-add k (needed fs map) s)

-- and its value fits in them
value_fits : (map : ℕ) (f : Field) (s : List ℕ) → ((i : ℕ) → get_or s i 0 < 256) → f.absent < 2 ^ (8 * f.size) → value_in map f s < 2 ^ (8 * f.size)
unfolding value_in
value_fits map f s b h = go (stands map f)
  where
    go : (q : Bool) → cond q (number_in f.size s) f.absent < 2 ^ (8 * f.size)
    go true = number_bound f.size s b
    go false = h

pub values_fit : (fs : List Field) (map : ℕ) (s : List ℕ) → is_layout fs ≡ true → ((i : ℕ) → get_or s i 0 < 256) → Fits fs (values_in fs map s)
unfolding values_in
values_fit [] map s l b = fits_none
values_fit (f ∷ fs) map s l b =
    let p : Leads f fs = leads f fs l in
    fits_more (value_fits map f s b p.fits) (values_fit fs map (drop (size_in map f) s) p.others (bytes_drop (size_in map f) s b))

-- READ, THEN WRITTEN: the record that was read stands at the start of the bytes, and no other bytes say the same
pub record Whole (fs : List Field) (s : List ℕ) (x : Said) : Type 0 where
  pub room : x.used ≤ length s
  pub bytes : record_of fs x.values ≡ take x.used s
  pub fit : Fits fs x.values

mapped_whole : (fs : List Field) (map : ℕ) (t : List ℕ) (x : Said) → is_layout fs ≡ true → ((i : ℕ) → get_or (map ∷ t) i 0 < 256) → read_mapped fs map (map ∷ t) ≡ given x → Whole fs (map ∷ t) x
unfolding read_mapped record_of
mapped_whole fs map t x l b e =
    let vs : List ℕ = values_in fs map t in
    let n : ℕ = needed fs map in
    let y : Said = record { values = vs; used = 1 + n } in
    let six : Outcome Said = refused_or (refuse_if (restated fs map vs) 6) (given y) in
    let five : Outcome Said = refused_or (refuse_if (not (eqb (stray_bits fs map) 0)) 5) six in
    let p : (ltb (length (map ∷ t)) (1 + n) ≡ false) × (five ≡ given x) = past (ltb (length (map ∷ t)) (1 + n)) 4 five x e in
    let q : (not (eqb (stray_bits fs map) 0) ≡ false) × (six ≡ given x) = past (not (eqb (stray_bits fs map) 0)) 5 six x p.1 in
    let r : (restated fs map vs ≡ false) × (given y ≡ given x) = past (restated fs map vs) 6 (given y) x q.1 in
    let long : 1 + n ≤ length (map ∷ t) = ltb-false (length (map ∷ t)) (1 + n) p.0 in
    let a : Agrees map fs vs = read_agrees fs map t r.0 in
    let low : map < 256 = b 0 in
    let m : map_of fs vs ≡ map = map_only fs map vs low (eqb-true (stray_bits fs map) 0 (not-false (eqb (stray_bits fs map) 0) q.0)) a in
    let d : body_of fs vs ≡ take n t = body_read fs map t (λ i. b (suc i)) (omega arith) a in
    let z : map_of fs vs ∷ body_of fs vs ≡ take (1 + n) (map ∷ t) = ap₂ ◌∷◌ m d ∙ ap (λ (k : ℕ). take k (map ∷ t)) (sym (one-add n)) in
    let w : Whole fs (map ∷ t) y = record { room = long; bytes = z; fit = values_fit fs map t l (λ i. b (suc i)) } in
    let same : y ≡ x = (let e = r.1 in cc) in
    rw (← same) w

pub record_only : (fs : List Field) (s : List ℕ) (x : Said) → is_layout fs ≡ true → ((i : ℕ) → get_or s i 0 < 256) → read_record fs s ≡ given x → Whole fs s x
unfolding read_record
record_only fs [] x l b e = absurd (let z : ◌≡◌ {A = ℕ} 0 1 = cc in omega arith)
record_only fs (map ∷ t) x l b e =
    let p : (eqb (length (map ∷ t)) 0 ≡ false) × (read_mapped fs map (map ∷ t) ≡ given x) = past (eqb (length (map ∷ t)) 0) 4 (read_mapped fs map (map ∷ t)) x e in
    mapped_whole fs map t x l b p.1
