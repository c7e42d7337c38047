-- The calls of some bytes, one after the other. Assumes nothing.
use mathlib.Core.Path.{◌≡◌, refl, sym, ap, ◌∙◌}
use mathlib.Core.Bool.{Bool, true, false}
use mathlib.Core.List.{List, [], ◌∷◌}
use Prim.Native.Nat.{ℕ, zero, suc, ◌≤◌, ◌<◌, min}
use native.Mathlib.Nat.{not-suc-le-zero}
use native.Mathlib.Omega.{arith}
use lib.ListN.{length, take}
use lib.Seq.{take_all, length-take-le}
use lib.Dec.{ltb}
use borrow.Author.Tests.{ltb-true, ltb-false}
use Rattle.refusals.specs.Refusals.{Outcome, given, refused}
use Rattle.ledger.specs.Calls.{Call}
use Rattle.call_records.specs.Records.{CallSaid, first_call, calls_by, calls_in, NoCalls, FirstThenRest, counted, CountedPart}
use Rattle.call_records.proofs.Said.{TookBy, first_takes}

-- a record has two bytes and its route at least
pub first_took : (b : ℕ) (s : List ℕ) → TookBy 2 (first_call (b ∷ s)).call (first_call (b ∷ s)).rest (suc (length s))
first_took b s = (first_takes b s).took

-- the bytes after a record are fewer
took_less : (o : Outcome Call) (rest : List ℕ) (m : ℕ) → TookBy 2 o rest (suc m) → length rest ≤ m
took_less (given call) rest m h = omega (arith, h)
took_less (refused k) rest m h = omega (arith, ap length h.1)

rest_less : (b : ℕ) (s : List ℕ) → length (first_call (b ∷ s)).rest ≤ length s
rest_less b s = took_less (first_call (b ∷ s)).call (first_call (b ∷ s)).rest (length s) (first_took b s)

-- what holds of no bytes, and of some where it holds of the bytes after their first record, holds of all
module _ (P : List ℕ → Type 0) (none : P []) (some : (b : ℕ) (s : List ℕ) → P (first_call (b ∷ s)).rest → P (b ∷ s)) where
  by_length : (f : ℕ) (s : List ℕ) → length s ≤ f → P s
  by_length zero [] h = none
  by_length zero (b ∷ s) h = absurd (not-suc-le-zero h)
  by_length (suc f) [] h = none
  by_length (suc f) (b ∷ s) h = some b s (by_length f (first_call (b ∷ s)).rest (omega (arith, rest_less b s)))

  pub by_records : (s : List ℕ) → P s
  by_records s = by_length (length s) s (omega arith)

-- ---- the calls of some bytes
-- any bound from the number of bytes on gives the same calls
calls_any : (f g : ℕ) (s : List ℕ) → length s ≤ f → length s ≤ g → calls_by f s ≡ calls_by g s
unfolding calls_by
calls_any zero zero s h k = refl
calls_any zero (suc g) [] h k = refl
calls_any zero (suc g) (b ∷ s) h k = let z : ◌≡◌ {A = ℕ} 0 1 = omega arith in cc
calls_any (suc f) zero [] h k = refl
calls_any (suc f) zero (b ∷ s) h k = let z : ◌≡◌ {A = ℕ} 0 1 = omega arith in cc
calls_any (suc f) (suc g) [] h k = refl
calls_any (suc f) (suc g) (b ∷ s) h k =
    ap (λ (os : List (Outcome Call)). (first_call (b ∷ s)).call ∷ os) (calls_any f g (first_call (b ∷ s)).rest (omega (arith, rest_less b s)) (omega (arith, rest_less b s)))

pub no_calls : NoCalls
unfolding calls_in calls_by
no_calls = refl

-- THE CALLS OF SOME BYTES ARE THE FIRST CALL AND THE CALLS OF THE REST
pub first_then_rest : FirstThenRest
unfolding calls_in calls_by
first_then_rest b s =
    let rest : List ℕ = (first_call (b ∷ s)).rest in
    ap (λ (os : List (Outcome Call)). (first_call (b ∷ s)).call ∷ os) (calls_any (length s) (length rest) rest (rest_less b s) (omega arith))

-- ---- the bytes that count
take_least : (s : List ℕ) (m : ℕ) → take (min (length s) m) s ≡ take m s
take_least s m = go (ltb (length s) m) refl
  where
    go : (b : Bool) → ltb (length s) m ≡ b → take (min (length s) m) s ≡ take m s
    go true e =
        let h : length s < m = ltb-true (length s) m e in
        let q : min (length s) m ≡ length s = omega arith in
        rw (q, take_all (length s) s (omega arith), take_all m s (omega arith))
    go false e =
        let h : m ≤ length s = ltb-false (length s) m e in
        let q : min (length s) m ≡ m = omega arith in
        rw q

pub counted_part : CountedPart
unfolding counted
counted_part s n e = (ap (λ (k : ℕ). take k s) e ∙ take_least s 65536, omega (arith, e, length-take-le n s (omega (arith, e))))

-- ---- the calls, one a turn
pub calls_none : (s : List ℕ) → length s ≡ 0 → calls_in s ≡ []
calls_none [] h = no_calls
calls_none (b ∷ s) h = let z : ◌≡◌ {A = ℕ} 0 1 = omega arith in absurd (omega arith)

pub calls_more : (s : List ℕ) → (length s ≡ 0 → ⊥) → (x : CallSaid) → x ≡ first_call s → calls_in s ≡ x.call ∷ calls_in x.rest
calls_more [] h x e = absurd (h refl)
calls_more (b ∷ s) h x e = first_then_rest b s ∙ ap (λ (y : CallSaid). y.call ∷ calls_in y.rest) (sym e)

pub calls_fewer : (s : List ℕ) → (length s ≡ 0 → ⊥) → (x : CallSaid) → x ≡ first_call s → length (calls_in x.rest) < length (calls_in s)
calls_fewer s h x e = omega (arith, ap length (calls_more s h x e))

-- a call has a byte at least
pub calls_few : (s : List ℕ) → length (calls_in s) ≤ length s
calls_few =
    by_records (λ (s : List ℕ). length (calls_in s) ≤ length s) (omega (arith, ap length no_calls))
    (λ (b : ℕ) (s : List ℕ) (h : length (calls_in (first_call (b ∷ s)).rest) ≤ length (first_call (b ∷ s)).rest). omega (arith, h, ap length (first_then_rest b s), rest_less b s))
