-- Numbers as bytes, low byte first. Assumes nothing.
use Rattle.std.specs.Prelude.{◌≡◌, List, [], ◌∷◌, ◌++◌, ℕ, zero, suc, ◌+◌, ◌*◌, ◌/◌, ◌%◌, ◌^◌, ◌<◌, ◌≤◌, length, get_or, drop, take}

-- the number that the first n bytes of a list say, "low first"; a byte past the end counts as 0
unfoldable pub number_in : ℕ → List ℕ → ℕ
number_in zero l = 0
number_in (suc n) l = get_or l 0 0 + 256 * number_in n (drop 1 l)

-- the low n bytes of x, "low first"
unfoldable pub bytes_of : ℕ → ℕ → List ℕ
bytes_of zero x = []
bytes_of (suc n) x = x % 256 ∷ bytes_of n (x / 256)

-- a list of bytes, as a file is
abbrev pub IsBytes : List ℕ → Type 0
IsBytes s = (i : ℕ) → get_or s i 0 < 256

-- THERE AND BACK: a number that fits in n bytes is read from its bytes, whatever follows them
abbrev pub NumberBytes : Type 0
NumberBytes = (n x : ℕ) (q : List ℕ) → x < 2 ^ (8 * n) → number_in n (bytes_of n x ++ q) ≡ x

-- and the first n bytes of a list are those of the number that they say
abbrev pub BytesNumber : Type 0
BytesNumber = (n : ℕ) (l : List ℕ) → IsBytes l → n ≤ length l → bytes_of n (number_in n l) ≡ take n l
