-- The record that the reader finds, case by case. Assumes nothing.
use mathlib.Core.Path.{◌≡◌, refl, sym, ap, ◌∙◌}
use mathlib.Core.List.{List, [], ◌∷◌}
use Prim.Native.Nat.{ℕ, ◌*◌, ◌^◌, ◌≤◌, ◌<◌}
use native.Mathlib.Nat.{lt_of_lt_of_le}
use native.Mathlib.Omega.{arith}
use lib.ListN.{length, drop}
use lib.Pow.{pow_mono}
use borrow.Author.Tests.{lt-ltb, le-ltb, ne_eqb}
use Rattle.std.specs.Prelude.{Option, Some, None, MatchOption}
use Rattle.std.specs.Borrow.{Bor}
use Rattle.std.specs.List.{IsSplitAt}
use Rattle.numbers.specs.Numbers.{number_in, IsBytes}
use Rattle.numbers.proofs.Laws.{number_bound}
use Rattle.ledger.specs.Calls.{Call}
use Rattle.call_records.specs.Records.{CallSaid, unreadable, with_number, with_route, first_call}
use Rattle.call_records.specs.Inner.{told_over}

-- a number of so many bytes fits as many bits, and more
pub number_fits : (w n : ℕ) (s : List ℕ) → IsBytes s → 8 * w ≤ n → number_in w s < 2 ^ n
number_fits w n s b h = lt_of_lt_of_le (number_bound w s b) (pow_mono h)

-- ---- a number and the bytes after it
module _ (width : ℕ) (said : ℕ → List ℕ → CallSaid) (s : List ℕ) where
  pub number_short : length s < width → unreadable ≡ with_number width said s
  unfolding with_number
  number_short h = rw (lt-ltb (length s) width h)

  pub number_whole : width ≤ length s → said (number_in width s) (drop width s) ≡ with_number width said s
  unfolding with_number
  number_whole h = rw (le-ltb (length s) width h)

-- ---- a route and the bytes after it
module _ (call : List ℕ → Call) where
  pub route_none : (s : List ℕ) → length s ≡ 0 → unreadable ≡ with_route call s
  unfolding with_route
  route_none [] h = refl
  route_none (n ∷ t) h = let z : ◌≡◌ {A = ℕ} 0 1 = omega arith in absurd (omega arith)

  pub route_split : (s t : List ℕ) (n m : ℕ) → s ≡ n ∷ t → m ≡ n → (r : Option (Bor (List ℕ) × Bor (List ℕ))) → MatchOption r (length t < m) (λ p. IsSplitAt t m p.0.now p.1.now)
      → told_over call r ≡ with_route call s
  unfolding with_route
  route_split s t n m e q None h = rw (e, lt-ltb (length t) n (rw q at h))
  route_split s t n m e q (Some p) h = rw (e, le-ltb (length t) n (rw q at h.0), h.1, h.2, q)

-- ---- what some bytes say, by the kind of their record
pub first_none : (s : List ℕ) → length s ≡ 0 → unreadable ≡ first_call s
unfolding first_call
first_none [] h = refl
first_none (n ∷ t) h = let z : ◌≡◌ {A = ℕ} 0 1 = omega arith in absurd (omega arith)

module _ (s t : List ℕ) (kind : ℕ) (e : s ≡ kind ∷ t) where
  pub first_by : (k : ℕ) → kind ≡ k → first_call (k ∷ t) ≡ first_call s
  first_by k q = sym (ap first_call e ∙ ap (λ (n : ℕ). first_call (n ∷ t)) q)

  pub first_other : (kind ≡ 1 → ⊥) → (kind ≡ 2 → ⊥) → (kind ≡ 3 → ⊥) → (kind ≡ 4 → ⊥) → (kind ≡ 5 → ⊥) → unreadable ≡ first_call s
  unfolding first_call
  first_other a b c d f = rw (e, ne_eqb kind 1 a, ne_eqb kind 2 b, ne_eqb kind 3 c, ne_eqb kind 4 d, ne_eqb kind 5 f)
