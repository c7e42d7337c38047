-- The frames of some hops in words of held frames, hop by hop. Assumes nothing.
use mathlib.Core.Path.{◌≡◌, refl, sym, ap, ap₂, subst, ◌∙◌}
use mathlib.Core.Bool.{Bool, true, false, ◌&&◌, ◌||◌, or-false, or_assoc}
use mathlib.Core.List.{List, [], ◌∷◌, ◌++◌}
use Prim.Native.Nat.{ℕ, zero, suc, ◌+◌, ◌<◌, ◌≤◌}
use native.Mathlib.Numerals.{add-one}
use native.Mathlib.Omega.{arith}
use lib.ListN.{length, get_or, drop, set}
use lib.Dec.{eqb}
use Rattle.places.specs.Places.{firsts}
use Rattle.places.proofs.Firsts.{length_firsts, next_first, no_first, firsts_snoc}
use Rattle.words.specs.Word.{bit_of, with_bit}
use Rattle.words.specs.Bank.{most_colours, bank_size, bank_at, bank_link, bank_colour}
use Rattle.words.proofs.Banks.{bank_test}
use Rattle.words.proofs.Banks as banks
use Rattle.ledger.specs.Lists.{any_of}
use Rattle.ledger.specs.Sessions.{Slot, slot, same_slot, slots_at}
use Rattle.ledger.proofs.Lists.{any_snoc}
use Rattle.table.specs.Inner.{Within, Marked}
use Rattle.table.proofs.Banks.{words_same, words_put}

-- ---- the place of a word: one for each link and colour
swapped : (x y z : Bool) → (x && z) && y ≡ x && (y && z)
swapped true true true = refl
swapped true true false = refl
swapped true false true = refl
swapped true false false = refl
swapped false y z = refl

bank_same : (l i c a k : ℕ) → c < most_colours → (eqb (bank_at l c) a && eqb i k) ≡ same_slot (slot (bank_link a) k (bank_colour a)) (slot l i c)
bank_same l i c a k h = ap (λ (b : Bool). b && eqb i k) (bank_test l c h a) ∙ swapped (eqb l (bank_link a)) (eqb i k) (eqb c (bank_colour a))

-- a frame of each link, and of one link more
slots_snoc : (ls is cs : List ℕ) (l i c : ℕ) → length ls ≡ length is → length is ≡ length cs
    → slots_at (ls ++ (l ∷ [])) (is ++ (i ∷ [])) (cs ++ (c ∷ [])) ≡ slots_at ls is cs ++ (slot l i c ∷ [])
slots_snoc [] [] [] l i c e d = refl
slots_snoc [] [] (b ∷ cs) l i c e d = absurd (omega (arith, d))
slots_snoc [] (j ∷ is) cs l i c e d = absurd (omega (arith, e))
slots_snoc (k ∷ ls) [] cs l i c e d = absurd (omega (arith, e))
slots_snoc (k ∷ ls) (j ∷ is) [] l i c e d = absurd (omega (arith, d))
slots_snoc (k ∷ ls) (j ∷ is) (b ∷ cs) l i c e d = ap (λ (t : List Slot). slot k j b ∷ t) (slots_snoc ls is cs l i c (omega (arith, e)) (omega (arith, d)))

module _ (route frames colours : List ℕ) where
  -- the frames of the first n hops
  abbrev pub first_slots : ℕ → List Slot
  first_slots n = slots_at (firsts n route 0) (firsts n frames 0) (firsts n colours 0)

  -- the frame of hop j
  abbrev pub slot_at : ℕ → Slot
  slot_at j = slot (get_or route j 0) (get_or frames j 0) (get_or colours j 0)

  -- a test of the frames of one hop more
  any_more : (p : Slot → Bool) (n : ℕ) → any_of p (first_slots (n + 1)) ≡ (any_of p (first_slots n) || p (slot_at n))
  any_more p n =
      ap₂ (λ (ls is : List ℕ). any_of p (slots_at ls is (firsts (n + 1) colours 0))) (firsts_snoc n route 0) (firsts_snoc n frames 0)
      ∙ ap (λ (cs : List ℕ). any_of p (slots_at (firsts n route 0 ++ (get_or route n 0 ∷ [])) (firsts n frames 0 ++ (get_or frames n 0 ∷ [])) cs)) (firsts_snoc n colours 0)
      ∙ ap (any_of p)
      (slots_snoc (firsts n route 0) (firsts n frames 0) (firsts n colours 0) (get_or route n 0) (get_or frames n 0) (get_or colours n 0) (length_firsts n route 0 ∙ sym (length_firsts n frames 0))
      (length_firsts n frames 0 ∙ sym (length_firsts n colours 0)))
      ∙ any_snoc p (first_slots n) (slot_at n)

  -- by tests that say the same of each
  pub any_same : (p q : Slot → Bool) (n : ℕ) → ((j : ℕ) → j < n → p (slot_at j) ≡ q (slot_at j)) → any_of p (first_slots n) ≡ any_of q (first_slots n)
  unfolding firsts
  any_same p q zero e = refl
  any_same p q (suc n) e =
      rw (← add-one n, any_more p n, any_more q n, any_same p q n (λ j h. e j (omega (arith, h))), e n (omega arith))

-- ---- marking: the words have the frames of the first j hops
module _ (hops : ℕ) (route frames colours : List ℕ) (within : Within hops route frames colours) (old : List ℕ) where
  pub no_hop_lem : Marked (first_slots route frames colours 0) old old
  unfolding firsts
  no_hop_lem = λ p w. words_same bank_size old p (λ a i. p a i || false) (λ a i h g. sym (or-false (p a i))) w

  pub one_hop : (j : ℕ) (words : List ℕ) → Marked (first_slots route frames colours j) old words → j < hops → (at : ℕ) → at ≡ bank_at (get_or route j 0) (get_or colours j 0)
      → (w : ℕ) → w ≡ with_bit 64 (get_or words at 0) (get_or frames j 0) → Marked (first_slots route frames colours (j + 1)) old (set words at w)
  one_hop j words m h at ea w e =
      subst (λ (x : ℕ). Marked (first_slots route frames colours (j + 1)) old (set words at x)) (sym e)
      (λ p u.
      words_same bank_size _ (λ a i. (p a i || before a i) || (eqb at a && eqb (get_or frames j 0) i)) _ (λ a i ha hi. joined (p a i) a i)
      (words_put bank_size words (λ a i. p a i || before a i) (m p u) at (get_or frames j 0) inside))
    where
      before : ℕ → ℕ → Bool
      before a i = any_of (same_slot (slot (bank_link a) i (bank_colour a))) (first_slots route frames colours j)

      inside : at < bank_size
      inside = rw ea (banks.bank_in (get_or route j 0) (get_or colours j 0) (within.link j h) (within.colour j h))

      joined : (b : Bool) (a i : ℕ)
          → ((b || before a i) || (eqb at a && eqb (get_or frames j 0) i)) ≡ (b || any_of (same_slot (slot (bank_link a) i (bank_colour a))) (first_slots route frames colours (j + 1)))
      joined b a i =
          ap (λ (x : ℕ). (b || before a i) || (eqb x a && eqb (get_or frames j 0) i)) ea
          ∙ ap (λ (x : Bool). (b || before a i) || x) (bank_same (get_or route j 0) (get_or frames j 0) (get_or colours j 0) a i (within.colour j h))
          ∙ or_assoc b (before a i) (same_slot (slot (bank_link a) i (bank_colour a)) (slot_at route frames colours j))
          ∙ ap (λ (c : Bool). b || c) (sym (any_more route frames colours (same_slot (slot (bank_link a) i (bank_colour a))) j))

-- ---- meeting: whether the frame of some hop passes a test, none of the first j does
module _ (p : Slot → Bool) (n : ℕ) (route frames colours : List ℕ) where
  abbrev after : ℕ → Bool
  after j = any_of p (slots_at (drop j (firsts n route 0)) (drop j (firsts n frames 0)) (drop j (firsts n colours 0)))

  abbrev pub Unmet : ℕ → Type 0
  Unmet j = any_of p (first_slots route frames colours n) ≡ after j

  module _ (j : ℕ) (u : Unmet j) where
    module _ (h : j < n) (b : Bool) (eb : b ≡ p (slot_at route frames colours j)) where
      split : (c : Bool) → b ≡ c → any_of p (first_slots route frames colours n) ≡ (c || after (j + 1))
      split c ec =
          u
          ∙ rw (next_first n j route 0 h, next_first n j frames 0 h, next_first n j colours 0 h)
          (ap (λ (x : Bool). x || after (j + 1)) (sym eb ∙ ec))

      pub met : b ≡ true → true ≡ any_of p (first_slots route frames colours n)
      met e = sym (split true e)

      pub unmet : b ≡ false → Unmet (j + 1)
      unmet e = split false e

    pub unmet_all : n ≤ j → false ≡ any_of p (first_slots route frames colours n)
    unmet_all h = sym (u ∙ ap (λ (ls : List ℕ). any_of p (slots_at ls (drop j (firsts n frames 0)) (drop j (firsts n colours 0)))) (no_first n j route 0 h))

-- a marked frame, by the place of its word
pub marked_told : (words : List ℕ) (l i c at : ℕ) (b : Bool) → at ≡ bank_at l c → b ≡ bit_of (get_or words at 0) i → b ≡ bit_of (get_or words (bank_at l c) 0) i
marked_told words l i c at b e q = q ∙ ap (λ (x : ℕ). bit_of (get_or words x 0) i) e
