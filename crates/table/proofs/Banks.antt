-- Words of bits that are set one after the other. Assumes nothing.
use mathlib.Core.Path.{◌≡◌, refl, sym, ap, ap₂, subst, ◌∙◌}
use mathlib.Core.Bool.{Bool, true, false, ◌&&◌, ◌||◌, or-false}
use mathlib.Core.List.{List}
use Prim.Native.Nat.{ℕ, ◌<◌}
use native.Mathlib.Omega.{arith}
use lib.ListN.{get_or, set, replicate, length-set, length-replicate, get_or-replicate}
use lib.Seq.{get_or-set_same, get_or-set_other}
use lib.Pow.{pow_pos}
use lib.Dec.{eqb}
use borrow.Author.Tests.{eqb-true, eqb-false}
use Rattle.words.specs.Word.{bit_of, word_of, with_bit, Words}
use Rattle.words.proofs.Bits.{bit_zero}
use Rattle.words.proofs.Words.{word_only, word_cong, bit_below}
use Rattle.ledger.proofs.Lists.{eqb_flip}

-- a bit of one of the words
pub words_bit : (n : ℕ) (words : List ℕ) (p : ℕ → ℕ → Bool) → Words n words p → (a i : ℕ) → a < n → i < 64 → bit_of (get_or words a 0) i ≡ p a i
words_bit n words p w a i h l = ap (λ (x : ℕ). bit_of x i) (w.word a h) ∙ bit_below 64 (p a) i l

-- words that pass the same tests
pub words_same : (n : ℕ) (words : List ℕ) (p q : ℕ → ℕ → Bool) → ((a i : ℕ) → a < n → i < 64 → p a i ≡ q a i) → Words n words p → Words n words q
words_same n words p q e w = record { long = w.long; word = λ a h. w.word a h ∙ word_cong 64 (p a) (q a) (λ i l. e a i h l) }

-- words without bits
pub words_none : (n : ℕ) → Words n (replicate n 0) (λ a i. false)
words_none n =
    record {
      long = length-replicate n 0;
      word = λ a h. get_or-replicate n a 0 0 h ∙ word_only 64 0 (λ i. false) (pow_pos 64) (λ i l. bit_zero i);
    }

with_word : (w i : ℕ) → with_bit 64 w i ≡ word_of 64 (λ j. bit_of w j || eqb j i)
unfolding with_bit
with_word w i = refl

-- words with one bit more, bit i of word a
pub words_put : (n : ℕ) (words : List ℕ) (p : ℕ → ℕ → Bool) → Words n words p → (a i : ℕ) → a < n
    → Words n (set words a (with_bit 64 (get_or words a 0) i)) (λ b j. p b j || (eqb a b && eqb i j))
words_put n words p w a i h =
    record { long = length-set words a (with_bit 64 (get_or words a 0) i) ∙ w.long; word = λ b l. put b l (eqb a b) refl }
  where
    here : get_or (set words a (with_bit 64 (get_or words a 0) i)) a 0 ≡ word_of 64 (λ j. p a j || (true && eqb i j))
    here =
        get_or-set_same words a (with_bit 64 (get_or words a 0) i) 0 (omega (arith, h, w.long))
        ∙ with_word (get_or words a 0) i
        ∙ word_cong 64 (λ j. bit_of (get_or words a 0) j || eqb j i) (λ j. p a j || (true && eqb i j))
        (λ j l. ap₂ (λ (x y : Bool). x || y) (words_bit n words p w a j h l) (eqb_flip j i))

    put : (b : ℕ) → b < n → (y : Bool) → eqb a b ≡ y → get_or (set words a (with_bit 64 (get_or words a 0) i)) b 0 ≡ word_of 64 (λ j. p b j || (y && eqb i j))
    put b l true e =
        subst (λ (x : ℕ). get_or (set words a (with_bit 64 (get_or words a 0) i)) x 0 ≡ word_of 64 (λ j. p x j || (true && eqb i j))) (eqb-true a b e) here
    put b l false e =
        get_or-set_other words a b (with_bit 64 (get_or words a 0) i) 0 (λ q. eqb-false a b e (sym q))
        ∙ w.word b l
        ∙ word_cong 64 (p b) (λ j. p b j || (false && eqb i j)) (λ j m. sym (or-false (p b j)))
