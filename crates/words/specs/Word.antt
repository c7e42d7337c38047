-- Words of frames: bit i of a word stands for frame i. Assumes nothing.
use Rattle.std.specs.Prelude.{◌≡◌, Bool, true, not, ◌&&◌, ◌||◌, List, ℕ, zero, suc, ◌+◌, ◌*◌, ◌/◌, ◌%◌, ◌^◌, ◌<◌, length, get_or, eqb, ltb}
use Rattle.std.specs.Int.Count.{ones}
use Rattle.lists.specs.Count.{one_if, count_below}

-- bit i of a word, as of the word of closed frames: "one bit of 64 per frame, bit i for frame i"
unfoldable pub bit_of : ℕ → ℕ → Bool
bit_of w i = eqb (w / 2 ^ i % 2) 1

-- the word of the frames below K that pass a test, without a bit at K or above
unfoldable pub word_of : ℕ → (ℕ → Bool) → ℕ
word_of zero f = 0
word_of (suc n) f = word_of n f + one_if (f n) * 2 ^ n

-- the word of all K frames
unfoldable pub ones_below : ℕ → ℕ
ones_below K = word_of K (λ i. true)

-- the word w of m bits, with bit i
unfoldable pub with_bit : ℕ → ℕ → ℕ → ℕ
with_bit m w i = word_of m (λ j. bit_of w j || eqb j i)

-- the word w of m bits, without bit i
unfoldable pub without_bit : ℕ → ℕ → ℕ → ℕ
without_bit m w i = word_of m (λ j. bit_of w j && not (eqb j i))

-- "A frame is free when it is neither closed nor held by a live session", of the words of closed and of held frames
unfoldable pub free_at : ℕ → ℕ → ℕ → Bool
free_at closed held i = not (bit_of closed i) && not (bit_of held i)

-- the free frames of a link with K frames: "Written as a word, bit i stands for a free frame i"
unfoldable pub free_word : ℕ → ℕ → ℕ → ℕ
free_word K closed held = word_of K (free_at closed held)

-- "The free frames of a link are the ones among its K bits": the bits of a word, counted one by one
unfoldable pub free_frames : ℕ → ℕ → ℕ
free_frames K w = count_below K (bit_of w)

-- n words of 64 bits: bit i of word a stands where a test passes
pub record Words (n : ℕ) (words : List ℕ) (p : ℕ → ℕ → Bool) : Type 0 where
  pub long : length words ≡ n
  pub word : (a : ℕ) → a < n → get_or words a 0 ≡ word_of 64 (p a)

-- "a fact about words of frames is shown for all K together": the bits of a word of K frames, and the only word that has them
abbrev pub WordBits : Type 0
WordBits = (K : ℕ) (f : ℕ → Bool) (i : ℕ) → bit_of (word_of K f) i ≡ (ltb i K && f i)

abbrev pub WordOnly : Type 0
WordOnly = (K w : ℕ) (f : ℕ → Bool) → w < 2 ^ K → ((i : ℕ) → i < K → bit_of w i ≡ f i) → w ≡ word_of K f

-- "counted by the count of ones, equal to counting frames one by one"
abbrev pub OnesCounted : Type 0
OnesCounted = (K w : ℕ) → w < 2 ^ K → ones w ≡ free_frames K w
