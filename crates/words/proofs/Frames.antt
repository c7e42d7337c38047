-- The words of all frames, and of a frame more or less. Assumes nothing.
use mathlib.Core.Path.{◌≡◌, refl, ◌∙◌}
use mathlib.Core.Bool.{true, false, not, ◌&&◌, ◌||◌, and-true}
use Prim.Native.Nat.{ℕ, zero, suc, ◌-◌, ◌^◌, ◌<◌, ◌≤◌}
use native.Mathlib.Nat.{lt_of_lt_of_le}
use native.Mathlib.Omega.{arith}
use lib.Dec.{eqb, ltb}
use lib.Pow.{pow_pos, pow_mono}
use borrow.Author.Tests.{ne_eqb}
use Rattle.words.specs.Word.{bit_of, word_of, ones_below, with_bit, without_bit}
use Rattle.words.proofs.Bits.{bit_high}
use Rattle.words.proofs.Words.{bit_word, bit_within, word_lt, word_below}

-- the word of all K frames as a number
pub ones_word : (K : ℕ) → ones_below K ≡ 2 ^ K - 1
unfolding ones_below word_of
ones_word zero = refl
ones_word (suc n) = omega (arith, ones_word n, pow_pos n)

-- its bits are those below K
pub bit_ones : (K i : ℕ) → bit_of (ones_below K) i ≡ ltb i K
unfolding ones_below
bit_ones K i = bit_word K (λ j. true) i ∙ and-true (ltb i K)

-- setting bit i changes no other
pub bit_with : (m w i : ℕ) → w < 2 ^ m → i < m → (j : ℕ) → bit_of (with_bit m w i) j ≡ (bit_of w j || eqb j i)
unfolding with_bit
bit_with m w i h l = bit_within m (λ j. bit_of w j || eqb j i) (λ j g. rw (bit_high m w j h g) (ne_eqb j i (λ e. omega arith)))

-- clearing bit i changes no other
pub bit_without : (m w i : ℕ) → w < 2 ^ m → (j : ℕ) → bit_of (without_bit m w i) j ≡ (bit_of w j && not (eqb j i))
unfolding without_bit
bit_without m w i h = bit_within m (λ j. bit_of w j && not (eqb j i)) (λ j g. rw (bit_high m w j h g))

-- a word of n bits is one of n bits with bit i too, whatever the width m
pub with_lt : (m n w i : ℕ) → n ≤ m → w < 2 ^ n → i < n → with_bit m w i < 2 ^ n
unfolding with_bit
with_lt m n w i k h l = word_below m n (with_bit m w i) (word_lt m (λ j. bit_of w j || eqb j i)) k none
  where
    none : (j : ℕ) → n ≤ j → bit_of (with_bit m w i) j ≡ false
    none j g =
        let e : j ≡ i → ⊥ = λ q. omega arith in
        bit_with m w i (lt_of_lt_of_le h (pow_mono k)) (omega arith) j ∙ rw (bit_high n w j h g, ne_eqb j i e)
