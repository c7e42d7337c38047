-- Accepted set-ups are the live sessions and the accepted releases. Assumes nothing.
use mathlib.Core.Path.{◌≡◌, refl, ap, subst}
use mathlib.Core.Logic.{⊎_elim}
use mathlib.Core.Bool.{Bool, true, false, not, cond, true≢false, false≢true}
use mathlib.Core.List.{List, [], ◌∷◌}
use Prim.Native.Nat.{ℕ, suc, ◌+◌}
use native.Mathlib.Omega.{arith}
use lib.ListN.{length, length-append}
use lib.Dec.{eqb}
use borrow.Author.Tests.{eqb-true}
use Rattle.lists.specs.Count.{one_if}
use Rattle.lists.proofs.Count as tests
use Rattle.refusals.specs.Refusals.{refuse_if}
use Rattle.network.specs.Network.{Topology}
use Rattle.ledger.specs.Lists.{any_of, any_two, keep}
use Rattle.ledger.specs.Sessions.{Session, is_live}
use Rattle.ledger.specs.Sound.{same_number, number_twice}
use Rattle.ledger.specs.Calls.{Call, SetUp, Quote, Release, Reply, schedule, freed, refusal, unless, call_check, granted, effect, other_than, live_after}
use Rattle.ledger.specs.Ledger.{did, is_refusal, accepted_set_up, accepted_release}
use Rattle.ledger.proofs.Lists.{clash, either, none_all, keep_all}
use Rattle.ledger.proofs.Answered.{answer_on}

-- a release strikes out one session
struck_one : (n : ℕ) (ss : List Session) → number_twice ss ≡ false → is_live n ss ≡ true → suc (length (keep (other_than n) ss)) ≡ length ss
unfolding number_twice
struck_one n [] h k = absurd (false≢true k)
struck_one n (s ∷ ss) h k =
    let both = tests.or_neither (any_of (same_number s) ss) (any_two same_number ss) h in
    go (eqb s.number n) refl both.0 (struck_one n ss both.1)
  where
    go : (b : Bool) → eqb s.number n ≡ b → is_live s.number ss ≡ false → (is_live n ss ≡ true → suc (length (keep (other_than n) ss)) ≡ length ss)
        → suc (length (cond (not b) (s ∷ keep (other_than n) ss) (keep (other_than n) ss))) ≡ suc (length ss)
    go true e alone ih =
        let others : is_live n ss ≡ false = subst (λ (m : ℕ). is_live m ss ≡ false) (eqb-true s.number n e) alone in
        ap (λ (l : List Session). suc (length l)) (keep_all (other_than n) ss (none_all (λ u. eqb u.number n) ss others))
    go false e alone ih = ap suc (ih (⊎_elim (λ w. clash (eqb s.number n) w e) (λ w. w) (either (eqb s.number n) (is_live n ss) k)))

-- only a live session is released
pub released_live : (net : Topology) (ss : List Session) (n : ℕ) → is_refusal (answer_on net ss (Release n)) ≡ false → is_live n ss ≡ true
released_live net ss n h = go (is_live n ss) (unfold call_check in h)
  where
    go : (b : Bool) → is_refusal (unless (refuse_if (not b) 19) (granted net ss (Release n))) ≡ false → b ≡ true
    go true k = refl
    go false k = absurd (true≢false k)

-- one step of the balance, x set-ups and y releases after it, and m sessions at the end
pub balance_step : (ss : List Session) (call : Call) (r : Reply) → number_twice ss ≡ false
    → ((n : ℕ) → call ≡ Release n → is_refusal r ≡ false → is_live n ss ≡ true) → (x y m : ℕ) → x + length (live_after ss (effect call r)) ≡ m + y
    → (one_if (accepted_set_up (did call r)) + x) + length ss ≡ m + (one_if (accepted_release (did call r)) + y)
balance_step ss (SetUp n route) (schedule held count) h live x y m e =
    omega (arith, e, length-append ss (record { number = n; route = route; held = held } ∷ []))
balance_step ss (SetUp n route) freed h live x y m e = omega (arith, e)
balance_step ss (SetUp n route) (refusal k count) h live x y m e = omega (arith, e)
balance_step ss (Quote route) r h live x y m e = omega (arith, e)
balance_step ss (Release n) (schedule held count) h live x y m e = omega (arith, e, struck_one n ss h (live n refl refl))
balance_step ss (Release n) freed h live x y m e = omega (arith, e, struck_one n ss h (live n refl refl))
balance_step ss (Release n) (refusal k count) h live x y m e = omega (arith, e)
