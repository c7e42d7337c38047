-- A word and its bits, for every number of frames together. Assumes nothing.
use mathlib.Core.Path.{◌≡◌, refl, sym, ap, ap₂, ◌∙◌}
use mathlib.Core.Bool.{Bool, false, ◌&&◌}
use mathlib.Core.Logic.{⊎_elim}
use Prim.Native.Nat.{ℕ, zero, suc, ◌+◌, ◌*◌, ◌/◌, ◌%◌, ◌^◌, ◌<◌, ◌≤◌}
use native.Mathlib.Nat.{mod-lt, mod-eq_of_lt, lt_of_lt_of_le, mod-add-div', div-eq_of_lt, zero-add, add-mul-div_right, add-mul-mod_self_right, mul-le-mul_right, eq-or-lt_of_le, le_of_suc-le-suc}
use native.Mathlib.Numerals.{one-add}
use native.Mathlib.Decide.{dec_lt}
use native.Mathlib.Omega.{arith}
use lib.Dec.{ltb}
use lib.Pow.{pow_pos, pow_mono, shr_lt}
use borrow.Author.Tests.{lt-ltb, le-ltb}
use Rattle.lists.specs.Count.{one_if}
use Rattle.lists.proofs.Count.{one_le}
use Rattle.words.specs.Word.{bit_of, word_of, WordBits, WordOnly}
use Rattle.words.proofs.Bits.{one_test, bit_digit, bit_high, bit_mod}

-- a word of K frames is below 2 ^ K
pub word_lt : (K : ℕ) (f : ℕ → Bool) → word_of K f < 2 ^ K
unfolding word_of
word_lt zero f = omega arith
word_lt (suc n) f = omega (arith, word_lt n f, mul-le-mul_right (2 ^ n) (one_le (f n)))

-- the word of n + 1 frames is that of n frames below bit n, and bit n is the test at n
word_rest : (n : ℕ) (f : ℕ → Bool) → word_of (suc n) f % 2 ^ n ≡ word_of n f
unfolding word_of
word_rest n f = add-mul-mod_self_right (word_of n f) (one_if (f n)) (2 ^ n) ∙ mod-eq_of_lt (word_lt n f)

word_top : (n : ℕ) (f : ℕ → Bool) → bit_of (word_of (suc n) f) n ≡ f n
unfolding word_of bit_of
word_top n f =
    let digit : one_if (f n) < 2 = omega (arith, one_le (f n)) in
    rw (add-mul-div_right (word_of n f) (one_if (f n)) (pow_pos n), div-eq_of_lt (word_lt n f), zero-add (one_if (f n)), mod-eq_of_lt digit)
    (one_test (f n))

-- below K, bit i of the word of a test is the test at i
pub bit_below : (K : ℕ) (f : ℕ → Bool) (i : ℕ) → i < K → bit_of (word_of K f) i ≡ f i
bit_below zero f i h = absurd (omega arith)
bit_below (suc n) f i h =
    ⊎_elim (λ (e : i ≡ n). rw e (word_top n f))
    (λ (l : i < n). sym (bit_mod n (word_of (suc n) f) i l) ∙ rw (word_rest n f) (bit_below n f i l))
    (eq-or-lt_of_le (le_of_suc-le-suc h))

-- so is every bit, for a test that fails at K and above
pub bit_within : (K : ℕ) (f : ℕ → Bool) → ((i : ℕ) → K ≤ i → f i ≡ false) → (i : ℕ) → bit_of (word_of K f) i ≡ f i
bit_within K f none i = go (dec_lt i K)
  where
    go : Dec (i < K) → bit_of (word_of K f) i ≡ f i
    go (yes l) = bit_below K f i l
    go (no n) = let g : K ≤ i = omega arith in bit_high K (word_of K f) i (word_lt K f) g ∙ sym (none i g)

-- THE BITS OF A WORD
pub bit_word : WordBits
bit_word K f i = go (dec_lt i K)
  where
    go : Dec (i < K) → bit_of (word_of K f) i ≡ (ltb i K && f i)
    go (yes l) = rw (lt-ltb i K l) (bit_below K f i l)
    go (no n) = let g : K ≤ i = omega arith in rw (le-ltb i K g) (bit_high K (word_of K f) i (word_lt K f) g)

-- A NUMBER BELOW 2 ^ K IS THE WORD OF ITS BITS
pub word_only : WordOnly
unfolding word_of
word_only zero w f h same = omega arith
word_only (suc n) w f h same =
    let small : w / 2 ^ n < 2 = shr_lt 1 n (rw (one-add n) h) in
    let top : w / 2 ^ n ≡ one_if (f n) = sym (mod-eq_of_lt small) ∙ sym (bit_digit w n) ∙ ap one_if (same n (omega arith)) in
    let rest : w % 2 ^ n ≡ word_of n f = word_only n (w % 2 ^ n) f (mod-lt w (pow_pos n)) (λ i l. bit_mod n w i l ∙ same i (omega arith)) in
    sym (mod-add-div' w (2 ^ n)) ∙ ap₂ (λ (x y : ℕ). x + y * 2 ^ n) rest top

pub word_self : (K w : ℕ) → w < 2 ^ K → w ≡ word_of K (bit_of w)
word_self K w h = word_only K w (bit_of w) h (λ i l. refl)

-- two numbers below 2 ^ K with the same bits are equal
pub word_ext : (K w v : ℕ) → w < 2 ^ K → v < 2 ^ K → ((i : ℕ) → i < K → bit_of w i ≡ bit_of v i) → w ≡ v
word_ext K w v h k same = word_only K w (bit_of v) h same ∙ sym (word_self K v k)

-- a number without a bit at K or above is below 2 ^ K
pub word_below : (m K w : ℕ) → w < 2 ^ m → K ≤ m → ((i : ℕ) → K ≤ i → bit_of w i ≡ false) → w < 2 ^ K
word_below m K w h k none =
    let low : w % 2 ^ K < 2 ^ K = mod-lt w (pow_pos K) in
    let e : w ≡ w % 2 ^ K = word_ext m w (w % 2 ^ K) h (lt_of_lt_of_le low (pow_mono k)) (λ i l. same low i (dec_lt i K)) in
    omega (arith, low, e)
  where
    same : w % 2 ^ K < 2 ^ K → (i : ℕ) → Dec (i < K) → bit_of w i ≡ bit_of (w % 2 ^ K) i
    same low i (yes l) = sym (bit_mod K w i l)
    same low i (no n) = let g : K ≤ i = omega arith in none i g ∙ sym (bit_high K (w % 2 ^ K) i low g)

-- words of the same bits
pub word_cong : (K : ℕ) (f g : ℕ → Bool) → ((i : ℕ) → i < K → f i ≡ g i) → word_of K f ≡ word_of K g
word_cong K f g h = word_only K (word_of K f) g (word_lt K f) (λ i l. bit_below K f i l ∙ h i l)
