-- The count of ones is the frames counted one by one, for every number of frames together. Assumes nothing.
use mathlib.Core.Path.{◌≡◌, refl, ap, ◌∙◌}
use mathlib.Core.Bool.{Bool, true, false}
use Prim.Native.Nat.{ℕ, zero, suc, ◌*◌, ◌^◌}
use native.Mathlib.Nat.{add_comm}
use lib.Count.{ones, ones_in, ones_cat}
use Rattle.lists.specs.Count.{one_if, count_below}
use Rattle.lists.proofs.Count.{sum_cong}
use Rattle.words.specs.Word.{bit_of, word_of, free_at, free_word, free_frames, OnesCounted}
use Rattle.words.proofs.Words.{word_lt, bit_below, word_self}

-- a binary digit is its own count of ones
ones_digit : (b : Bool) → ones (one_if b) ≡ one_if b
unfolding ones ones_in
ones_digit true = refl
ones_digit false = refl

-- the ones of the word of a test are the frames that pass it
pub count_word : (K : ℕ) (f : ℕ → Bool) → ones (word_of K f) ≡ count_below K f
unfolding word_of ones
count_word zero f = refl
count_word (suc n) f =
    rw (add_comm (word_of n f) (one_if (f n) * 2 ^ n), ones_cat n (one_if (f n)) (word_of n f) (word_lt n f), ones_digit (f n), count_word n f)
    (add_comm (one_if (f n)) (count_below n f))

-- THE COUNT OF ONES IS THE FRAMES COUNTED ONE BY ONE
pub count_ones : OnesCounted
unfolding free_frames
count_ones K w h = ap ones (word_self K w h) ∙ count_word K (bit_of w)

-- the frames counted in the free word are the free frames
pub free_count_lem : (K closed held : ℕ) → free_frames K (free_word K closed held) ≡ count_below K (free_at closed held)
unfolding free_frames free_word
free_count_lem K closed held =
    sum_cong K (λ i. one_if (bit_of (word_of K (free_at closed held)) i)) (λ i. one_if (free_at closed held i))
    (λ i l. ap one_if (bit_below K (free_at closed held) i l))
