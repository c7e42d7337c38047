-- The bits of a map byte, for any layout: bits set and cleared one field after the other give the rule's bytes, and the rule's bytes tell
-- which fields are written. Assumes nothing.
use mathlib.Core.Path.{◌≡◌, refl, sym, ap, ◌∙◌}
use mathlib.Core.Bool.{Bool, true, false, not, ◌&&◌, ◌||◌, true≢false, and-true, and-false, or-false, or_assoc, cond}
use mathlib.Core.List.{List, [], ◌∷◌}
use Prim.Native.Nat.{ℕ, ◌^◌, ◌<◌}
use native.Mathlib.Omega.{arith}
use borrow.Author.Tests.{eq-eqb, ne_eqb, eqb-true, ltb-true, ltb-false}
use lib.Dec.{eqb, ltb}
use lib.ListN.{get_or, drop}
use Rattle.words.specs.Word.{bit_of, with_bit, without_bit}
use Rattle.words.proofs.Bits.{bit_zero, bit_high}
use Rattle.words.proofs.Words.{word_lt, word_only, word_below, bit_below}
use Rattle.words.proofs.Frames.{bit_with, bit_without, with_lt}
use Rattle.records.specs.Writing.{is_written, written_at, map_of}
use Rattle.records.specs.Layout.{is_bit, is_layout, stands}
use Rattle.records.specs.declared.Field.{Field}
use Rattle.records.specs.Reading.{stray_bits}
use Rattle.records.proofs.Layouts.{Leads, leads}

-- ---- one field after the other: a map byte with the bits of the fields that are written, and one without the bits of the fields
unfoldable pub map_with : List Field → ℕ → List ℕ → ℕ
map_with [] map vs = map
map_with (f ∷ fs) map vs = map_with fs (cond (is_written f (get_or vs 0 0)) (with_bit 64 map f.bit) map) (drop 1 vs)

unfoldable pub map_without : List Field → ℕ → ℕ
map_without [] map = map
map_without (f ∷ fs) map = map_without fs (without_bit 64 map f.bit)

picked_bit : (w : Bool) (map k : ℕ) → map < 2 ^ 64 → k < 64 → (i : ℕ) → bit_of (cond w (with_bit 64 map k) map) i ≡ (bit_of map i || (w && eqb i k))
picked_bit true map k h l i = bit_with 64 map k h l i
picked_bit false map k h l i = sym (or-false (bit_of map i))

picked_lt : (w : Bool) (map k : ℕ) → map < 2 ^ 8 → k < 8 → cond w (with_bit 64 map k) map < 2 ^ 8
picked_lt true map k h l = with_lt 64 8 map k (omega arith) h l
picked_lt false map k h l = h

bit_with_all : (fs : List Field) (map : ℕ) (vs : List ℕ) → is_layout fs ≡ true → map < 2 ^ 8 → (i : ℕ) → bit_of (map_with fs map vs) i ≡ (bit_of map i || written_at fs vs i)
unfolding map_with written_at
bit_with_all [] map vs l h i = sym (or-false (bit_of map i))
bit_with_all (f ∷ fs) map vs l h i =
    let p : Leads f fs = leads f fs l in
    let w : Bool = is_written f (get_or vs 0 0) in
    bit_with_all fs (cond w (with_bit 64 map f.bit) map) (drop 1 vs) p.others (picked_lt w map f.bit h p.low) i
    ∙ ap (λ (b : Bool). b || written_at fs (drop 1 vs) i) (picked_bit w map f.bit (omega arith) (omega (arith, p.low)) i)
    ∙ or_assoc (bit_of map i) (w && eqb i f.bit) (written_at fs (drop 1 vs) i)

with_all_lt : (fs : List Field) (map : ℕ) (vs : List ℕ) → is_layout fs ≡ true → map < 2 ^ 8 → map_with fs map vs < 2 ^ 8
unfolding map_with
with_all_lt [] map vs l h = h
with_all_lt (f ∷ fs) map vs l h =
    let p : Leads f fs = leads f fs l in
    let w : Bool = is_written f (get_or vs 0 0) in
    with_all_lt fs (cond w (with_bit 64 map f.bit) map) (drop 1 vs) p.others (picked_lt w map f.bit h p.low)

pub map_rule : (fs : List Field) (vs : List ℕ) → is_layout fs ≡ true → map_with fs 0 vs ≡ map_of fs vs
unfolding map_of
map_rule fs vs l = word_only 8 (map_with fs 0 vs) (written_at fs vs) (with_all_lt fs 0 vs l (omega arith)) (λ i h. bit_with_all fs 0 vs l (omega arith) i ∙ rw (bit_zero i))

pub map_low : (fs : List Field) (vs : List ℕ) → map_of fs vs < 256
unfolding map_of
map_low fs vs = word_lt 8 (written_at fs vs)

without_wide : (map i : ℕ) → without_bit 64 map i < 2 ^ 64
unfolding without_bit
without_wide map i = word_lt 64 (λ j. bit_of map j && not (eqb j i))

bit_without_all : (fs : List Field) (map : ℕ) → map < 2 ^ 64 → (i : ℕ) → bit_of (map_without fs map) i ≡ (bit_of map i && not (is_bit fs i))
unfolding map_without is_bit
bit_without_all [] map h i = sym (and-true (bit_of map i))
bit_without_all (f ∷ fs) map h i =
    bit_without_all fs (without_bit 64 map f.bit) (without_wide map f.bit) i
    ∙ ap (λ (b : Bool). b && not (is_bit fs i)) (bit_without 64 map f.bit h i)
    ∙ go (bit_of map i) (eqb i f.bit) (is_bit fs i)
  where
    go : (a b c : Bool) → ((a && not b) && not c) ≡ (a && not (b || c))
    go true true c = refl
    go true false c = refl
    go false b c = refl

without_all_wide : (fs : List Field) (map : ℕ) → map < 2 ^ 64 → map_without fs map < 2 ^ 64
unfolding map_without
without_all_wide [] map h = h
without_all_wide (f ∷ fs) map h = without_all_wide fs (without_bit 64 map f.bit) (without_wide map f.bit)

pub stray_rule : (fs : List Field) (map : ℕ) → map < 256 → map_without fs map ≡ stray_bits fs map
unfolding stray_bits
stray_rule fs map h =
    let w : map < 2 ^ 64 = omega arith in
    let low : map_without fs map < 2 ^ 8 = word_below 64 8 (map_without fs map) (without_all_wide fs map w) (omega arith) (λ i g. bit_without_all fs map w i ∙ rw (bit_high 8 map i h g)) in
    word_only 8 (map_without fs map) (λ i. bit_of map i && not (is_bit fs i)) low (λ i l. bit_without_all fs map w i)

-- ---- a map byte has the bits of exactly the fields that are written
pub data Agrees (map : ℕ) : List Field → List ℕ → Type 0 where
  agrees_none : {vs : List ℕ} → Agrees map [] vs
  agrees_more : {f : Field} {fs : List Field} {vs : List ℕ} → stands map f ≡ is_written f (get_or vs 0 0) → Agrees map fs (drop 1 vs) → Agrees map (f ∷ fs) vs

-- a field that is written has its bit among those of the fields
written_bit : (fs : List Field) (vs : List ℕ) (i : ℕ) → is_bit fs i ≡ false → written_at fs vs i ≡ false
unfolding written_at is_bit
written_bit [] vs i e = refl
written_bit (f ∷ fs) vs i e = go (eqb i f.bit) (is_written f (get_or vs 0 0)) e (written_bit fs (drop 1 vs) i)
  where
    go : (b w : Bool) → (b || is_bit fs i) ≡ false → (is_bit fs i ≡ false → written_at fs (drop 1 vs) i ≡ false) → ((w && b) || written_at fs (drop 1 vs) i) ≡ false
    go true w e k = cc
    go false true e k = k e
    go false false e k = k e

-- the bits of a layout are bits of a byte
bit_low : (fs : List Field) → is_layout fs ≡ true → (i : ℕ) → is_bit fs i ≡ true → i < 8
unfolding is_bit
bit_low [] l i e = absurd (true≢false (sym e))
bit_low (f ∷ fs) l i e = go (eqb i f.bit) refl e (bit_low fs (leads f fs l).others i)
  where
    go : (b : Bool) → eqb i f.bit ≡ b → (b || is_bit fs i) ≡ true → (is_bit fs i ≡ true → i < 8) → i < 8
    go true q e k = let z : i ≡ f.bit = eqb-true i f.bit q in omega (arith, (leads f fs l).low)
    go false q e k = k e

here : (f : Field) (fs : List Field) → is_bit (f ∷ fs) f.bit ≡ true
unfolding is_bit
here f fs = rw (eq-eqb f.bit f.bit refl)

there : (f : Field) (fs : List Field) (i : ℕ) → is_bit fs i ≡ true → is_bit (f ∷ fs) i ≡ true
unfolding is_bit
there f fs i e = go (eqb i f.bit) (is_bit fs i) e
  where
    go : (a b : Bool) → b ≡ true → (a || b) ≡ true
    go true b q = refl
    go false b q = q

-- a bit of the other fields is not this one's
apart : (f : Field) (fs : List Field) (i : ℕ) → is_bit fs f.bit ≡ false → is_bit fs i ≡ true → eqb i f.bit ≡ false
apart f fs i a e = ne_eqb i f.bit (λ q. true≢false (sym (rw q at e) ∙ a))

agreed : (fs : List Field) (map : ℕ) (vs : List ℕ) → is_layout fs ≡ true → ((i : ℕ) → is_bit fs i ≡ true → bit_of map i ≡ written_at fs vs i) → Agrees map fs vs
unfolding written_at stands
agreed [] map vs l same = agrees_none
agreed (f ∷ fs) map vs l same =
    let p : Leads f fs = leads f fs l in
    let w : Bool = is_written f (get_or vs 0 0) in
    let own : bit_of map f.bit ≡ w = same f.bit (here f fs) ∙ rw (eq-eqb f.bit f.bit refl, written_bit fs (drop 1 vs) f.bit p.alone) (or-false (w && true) ∙ and-true w) in
    agrees_more own (agreed fs map (drop 1 vs) p.others (λ i e. same i (there f fs i e) ∙ rw (apart f fs i p.alone e, and-false w)))

pub map_agrees : (fs : List Field) (vs : List ℕ) → is_layout fs ≡ true → Agrees (map_of fs vs) fs vs
unfolding map_of
map_agrees fs vs l = agreed fs (map_of fs vs) vs l (λ i e. bit_below 8 (written_at fs vs) i (bit_low fs l i e))

-- ---- the bits that are no field's
-- no bit is stray in a map byte whose bits are all those of fields
pub none_stray : (fs : List Field) (map : ℕ) → ((i : ℕ) → is_bit fs i ≡ false → bit_of map i ≡ false) → stray_bits fs map ≡ 0
unfolding stray_bits
none_stray fs map own = sym (word_only 8 0 (λ i. bit_of map i && not (is_bit fs i)) (omega arith) (λ i l. bit_zero i ∙ sym (go i (is_bit fs i) refl)))
  where
    go : (i : ℕ) (b : Bool) → is_bit fs i ≡ b → (bit_of map i && not (is_bit fs i)) ≡ false
    go i true e = rw e (and-false (bit_of map i))
    go i false e = rw (own i e)

-- and back: where no bit is stray, each bit is some field's
pub stray_none : (fs : List Field) (map : ℕ) → map < 256 → stray_bits fs map ≡ 0 → (i : ℕ) → is_bit fs i ≡ false → bit_of map i ≡ false
unfolding stray_bits
stray_none fs map h e i q = go (ltb i 8) refl
  where
    go : (b : Bool) → ltb i 8 ≡ b → bit_of map i ≡ false
    go true l =
        let z : (bit_of map i && not (is_bit fs i)) ≡ false = sym (bit_below 8 (λ j. bit_of map j && not (is_bit fs j)) i (ltb-true i 8 l)) ∙ rw e (bit_zero i) in
        sym (and-true (bit_of map i)) ∙ rw q at z
    go false l = bit_high 8 map i h (ltb-false i 8 l)

written_agrees : (fs : List Field) (map : ℕ) (vs : List ℕ) → Agrees map fs vs → (i : ℕ) → written_at fs vs i ≡ (bit_of map i && is_bit fs i)
unfolding written_at is_bit stands
written_agrees [] map vs agrees_none i = sym (and-false (bit_of map i))
written_agrees (f ∷ fs) map vs (agrees_more e r) i = rw (← e, written_agrees fs map (drop 1 vs) r i) (go (eqb i f.bit) refl (bit_of map i) refl (bit_of map f.bit) refl)
  where
    go : (q : Bool) → eqb i f.bit ≡ q → (b : Bool) → bit_of map i ≡ b → (a : Bool) → bit_of map f.bit ≡ a → ((a && q) || (b && is_bit fs i)) ≡ (b && (q || is_bit fs i))
    go true eq b eb true ea = let z : b ≡ true = sym eb ∙ ap (bit_of map) (eqb-true i f.bit eq) ∙ ea in rw z
    go true eq b eb false ea = let z : b ≡ false = sym eb ∙ ap (bit_of map) (eqb-true i f.bit eq) ∙ ea in rw z
    go false eq b eb true ea = refl
    go false eq b eb false ea = refl

-- the map byte that is written has no stray bit
pub map_own : (fs : List Field) (vs : List ℕ) → is_layout fs ≡ true → stray_bits fs (map_of fs vs) ≡ 0
map_own fs vs l = none_stray fs (map_of fs vs) (λ i e. rw (← map_rule fs vs l) (bit_with_all fs 0 vs l (omega arith) i ∙ rw (bit_zero i, written_bit fs vs i e)))

-- a map byte is what its fields are written with, where it agrees with them and has no stray bit
pub map_only : (fs : List Field) (map : ℕ) (vs : List ℕ) → map < 256 → stray_bits fs map ≡ 0 → Agrees map fs vs → map_of fs vs ≡ map
unfolding map_of
map_only fs map vs h e a = sym (word_only 8 map (written_at fs vs) h (λ i k. sym (written_agrees fs map vs a i ∙ go i (is_bit fs i) refl)))
  where
    go : (i : ℕ) (b : Bool) → is_bit fs i ≡ b → (bit_of map i && is_bit fs i) ≡ bit_of map i
    go i true q = rw q (and-true (bit_of map i))
    go i false q = rw q (and-false (bit_of map i) ∙ sym (stray_none fs map h e i q))
