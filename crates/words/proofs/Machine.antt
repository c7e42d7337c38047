-- The words of frames as a machine computes them, in m bits. Assumes nothing.
use mathlib.Core.Path.{◌≡◌, refl, sym, ap, ◌∙◌}
use mathlib.Core.Bool.{Bool, true, false, not, ◌&&◌, ◌||◌}
use Prim.Native.Nat.{ℕ, zero, suc, ◌+◌, ◌-◌, ◌*◌, ◌/◌, ◌%◌, ◌^◌, ◌<◌, ◌≤◌}
use native.Mathlib.Nat.{one-mul, mod-eq_of_lt, lt_of_le_of_lt}
use native.Mathlib.Omega.{arith}
use lib.Dec.{eqb, ltb}
use lib.Bits.{bit_and, bit_or, and_le_l, or_lt}
use lib.Pow.{pow-lt, ones_lt, ones_split, high}
use borrow.Author.Tests.{lt-ltb}
use Rattle.lists.specs.Count.{one_if}
use Rattle.words.specs.Word.{bit_of, word_of, ones_below, free_at, free_word}
use Rattle.words.proofs.Bits.{bit_pow, bit_and_lem, bit_or_lem}
use Rattle.words.proofs.Words.{bit_word, word_only, word_self}
use Rattle.words.proofs.Frames.{ones_word, bit_ones}

-- the frames that pass a test and those that fail it are all frames
word_both : (m : ℕ) (f : ℕ → Bool) → word_of m f + word_of m (λ i. not (f i)) ≡ ones_below m
unfolding ones_below word_of
word_both zero f = refl
word_both (suc n) f = go (f n) (word_both n f)
  where
    go : (b : Bool) → word_of n f + word_of n (λ i. not (f i)) ≡ word_of n (λ i. true)
        → word_of n f + one_if b * 2 ^ n + (word_of n (λ i. not (f i)) + one_if (not b) * 2 ^ n) ≡ word_of n (λ i. true) + 1 * 2 ^ n
    go true h = omega arith
    go false h = omega arith

-- `!w` has the bits that w has not
word_not : (m w : ℕ) → w < 2 ^ m → 2 ^ m - 1 - w ≡ word_of m (λ i. not (bit_of w i))
word_not m w h = omega (arith, word_self m w h, word_both m (bit_of w), ones_word m)

pub bit_not : (m w i : ℕ) → w < 2 ^ m → bit_of (2 ^ m - 1 - w) i ≡ (ltb i m && not (bit_of w i))
bit_not m w i h = rw (word_not m w h) (bit_word m (λ j. not (bit_of w j)) i)

-- `1 << i`
one_shift : (m i : ℕ) → i < m → 1 * 2 ^ i % 2 ^ m ≡ 2 ^ i
one_shift m i h = rw (one-mul (2 ^ i)) (mod-eq_of_lt (pow-lt h))

-- the ones below K are all ones shifted down
pub ones_shift : (m K : ℕ) → K ≤ m → (2 ^ m - 1) / 2 ^ (m - K) ≡ ones_below K
ones_shift m K h =
    let e : m ≡ K + (m - K) = omega arith in
    ap (λ (x : ℕ). (2 ^ x - 1) / 2 ^ (m - K)) e ∙ rw (ones_split K (m - K), high (2 ^ K - 1) (m - K) (ones_lt (m - K))) (sym (ones_word K))

-- `w | (1 << i)`
pub set_word : (m w i : ℕ) → w < 2 ^ m → i < m → bit_or w (1 * 2 ^ i % 2 ^ m) ≡ word_of m (λ j. bit_of w j || eqb j i)
set_word m w i h l =
    rw (one_shift m i l)
    (word_only m (bit_or w (2 ^ i)) (λ j. bit_of w j || eqb j i) (or_lt m w (2 ^ i) h (pow-lt l)) (λ j g. rw (bit_or_lem w (2 ^ i) j, bit_pow i j)))

-- `w & v` for a word w of K frames
and_word : (K w v : ℕ) (f : ℕ → Bool) → w < 2 ^ K → ((i : ℕ) → i < K → (bit_of w i && bit_of v i) ≡ f i) → bit_and w v ≡ word_of K f
and_word K w v f h same = word_only K (bit_and w v) f (lt_of_le_of_lt (and_le_l w v) h) (λ i l. bit_and_lem w v i ∙ same i l)

-- `w & !(1 << i)`
pub clear_word : (m w i : ℕ) → w < 2 ^ m → i < m → bit_and w (2 ^ m - 1 - 1 * 2 ^ i % 2 ^ m) ≡ word_of m (λ j. bit_of w j && not (eqb j i))
clear_word m w i h l =
    rw (one_shift m i l)
    (and_word m w (2 ^ m - 1 - 2 ^ i) (λ j. bit_of w j && not (eqb j i)) h
    (λ j g. rw (bit_not m (2 ^ i) j (pow-lt l), lt-ltb j m g, bit_pow i j)))

not_or : (a b : Bool) → not (a || b) ≡ (not a && not b)
not_or true b = refl
not_or false b = refl

-- the ones below K `& !(closed | held)`
pub free_word_lem : (m K closed held : ℕ) → K ≤ m → closed < 2 ^ m → held < 2 ^ m → bit_and (ones_below K) (2 ^ m - 1 - bit_or closed held) ≡ free_word K closed held
unfolding free_word free_at
free_word_lem m K closed held h c d =
    and_word K (ones_below K) (2 ^ m - 1 - bit_or closed held) (free_at closed held) (rw (ones_word K) (ones_lt K))
    (λ i l. rw (bit_ones K i, bit_not m (bit_or closed held) i (or_lt m closed held c d), lt-ltb i K l, lt-ltb i m (omega arith), bit_or_lem closed held i)
    (not_or (bit_of closed i) (bit_of held i)))

-- the ones below K `& w`
pub low_word : (K w : ℕ) → bit_and (ones_below K) w ≡ word_of K (bit_of w)
low_word K w = and_word K (ones_below K) w (bit_of w) (rw (ones_word K) (ones_lt K)) (λ i l. rw (bit_ones K i, lt-ltb i K l))
