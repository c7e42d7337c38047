-- Words of the contracts of functions that the search alone uses: windows of a word's frames. They are no part of what is promised. Assumes nothing.
use Rattle.std.specs.Prelude.{◌≡◌, List, ℕ, ◌+◌, ◌%◌, ◌<◌, ◌≤◌, get_or, length}
use Rattle.lists.specs.Count.{count_below}
use Rattle.words.specs.Word.{bit_of}

-- the ones of a word in the window of w frames from frame a on, going round a cycle of K frames
abbrev pub window_ones : ℕ → ℕ → ℕ → ℕ → ℕ
window_ones word K w a = count_below w (λ d. bit_of word ((a + d) % K))

-- those of the windows that begin with the first n frames; the other places have what they had
pub record WindowOnes (word K w n : ℕ) (old ones : List ℕ) : Type 0 where
  pub long : length ones ≡ 64
  pub each : (a : ℕ) → a < n → get_or ones a 0 ≡ window_ones word K w a
  pub rest : (a : ℕ) → n ≤ a → get_or ones a 0 ≡ get_or old a 0
