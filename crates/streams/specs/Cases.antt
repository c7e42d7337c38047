-- A line of a test program's cases: a name up to the colon, and what stands from there to the comment. Assumes nothing.
use Rattle.std.specs.Prelude.{◌≡◌, ◌≢◌, ℕ, ◌+◌, ◌<◌, ◌≤◌, List, Option, Some, None, length, take, drop, slice_index}
use Rattle.std.specs.Borrow.{Bor}

-- where the comment of a line begins, by a semicolon, and where its name ends, by a colon before it; the end where there is none
pub record Parted (s : List ℕ) (end at : ℕ) : Type 0 where
  pub within : (at ≤ end) × (end ≤ length s)
  pub no_comment : (k : ℕ) → k < end → slice_index s k ≢ 59
  pub comment : end < length s → slice_index s end ≡ 59
  pub no_colon : (k : ℕ) → k < at → slice_index s k ≢ 58
  pub colon : at < end → slice_index s at ≡ 58

-- the name with its colon and what follows it, or nothing where no colon is before the comment
abbrev pub CaseSays : List ℕ → ℕ → ℕ → Option (Bor (List ℕ) × Bor (List ℕ)) → Type 0
CaseSays s end at (Some c) = (at < end) × (c.0.now ≡ take (at + 1) s) × (c.1.now ≡ drop (at + 1) (take end s))
CaseSays s end at None = at ≡ end

-- WHAT A LINE SAYS: there is one such end and one such place
abbrev pub IsCase : List ℕ → Option (Bor (List ℕ) × Bor (List ℕ)) → Type 0
IsCase s r = (end : ℕ) × ((at : ℕ) × (Parted s end at × CaseSays s end at r))
