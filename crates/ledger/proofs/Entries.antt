-- The ledger's entries: an entry stands in it just when a set-up that entered it was accepted, and no later release of its number. Assumes nothing.
use mathlib.Core.Path.{◌≡◌, refl, sym, ap}
use mathlib.Core.Logic.{◌⊎◌, inl, inr, ⊎_elim}
use mathlib.Core.Bool.{false, not}
use mathlib.Core.List.Memᴰ
use mathlib.Core.List.{List, [], ◌∷◌, ◌++◌, Memᴰ}
use Prim.Native.Nat.{ℕ}
use lib.Dec.{eqb}
use borrow.Author.Tests.{not-true}
use Rattle.lists.proofs.Count as tests
use Rattle.ledger.specs.Lists.{any_of, keep}
use Rattle.ledger.specs.Sessions.{Session}
use Rattle.ledger.specs.Calls.{Call, SetUp, Quote, Release, Reply, schedule, freed, refusal, effect, other_than, live_after}
use Rattle.ledger.specs.Ledger.{AnsweredCall, did, accepted_release_of, ledger_from, ledger}
use Rattle.ledger.proofs.Lists.{neither_or, kept_member, member_kept}

-- ---- one step: a session after it stood before it, and its number was not released, or the step was the set-up that entered it
struck_others : (n : ℕ) (ss : List Session) (e : Session) → Memᴰ e (keep (other_than n) ss) → Memᴰ e ss × (eqb e.number n ≡ false)
struck_others n ss e m = let k = kept_member (other_than n) ss m in (k.0, not-true (eqb e.number n) k.1)

stood : (call : Call) (r : Reply) (ss : List Session) (e : Session) → Memᴰ e (live_after ss (effect call r))
    → (Memᴰ e ss × (accepted_release_of e.number (did call r) ≡ false)) ⊎ ((count : ℕ) × (did call r ≡ did (SetUp e.number e.route) (schedule e.held count)))
stood (SetUp n route) (schedule held count) ss e m =
    ⊎_elim (λ k. inl (k, refl))
    (λ k. inr (count, ap (λ (s : Session). did (SetUp s.number s.route) (schedule s.held count)) (sym (Memᴰ.eq_of_singleton k))))
    (Memᴰ.append_cases ss m)
stood (SetUp n route) freed ss e m = inl (m, refl)
stood (SetUp n route) (refusal k count) ss e m = inl (m, refl)
stood (Quote route) r ss e m = inl (m, refl)
stood (Release n) (schedule held count) ss e m = inl (struck_others n ss e m)
stood (Release n) freed ss e m = inl (struck_others n ss e m)
stood (Release n) (refusal k count) ss e m = inl (m, refl)

-- and back: a session whose number is not released stays
others_stay : (n : ℕ) (ss : List Session) (e : Session) → Memᴰ e ss → eqb e.number n ≡ false → Memᴰ e (keep (other_than n) ss)
others_stay n ss e m h = member_kept (other_than n) ss m (ap not h)

stays : (call : Call) (r : Reply) (ss : List Session) (e : Session) → Memᴰ e ss → accepted_release_of e.number (did call r) ≡ false
    → Memᴰ e (live_after ss (effect call r))
stays (SetUp n route) (schedule held count) ss e m h = Memᴰ.append_left (record { number = n; route = route; held = held } ∷ []) m
stays (SetUp n route) freed ss e m h = m
stays (SetUp n route) (refusal k count) ss e m h = m
stays (Quote route) r ss e m h = m
stays (Release n) (schedule held count) ss e m h = others_stay n ss e m h
stays (Release n) freed ss e m h = others_stay n ss e m h
stays (Release n) (refusal k count) ss e m h = m

-- ---- the steps of a list
-- e was entered by one of the steps, and no later one struck its number out
pub record Entered (steps : List AnsweredCall) (e : Session) : Type 0 where
  pub count : ℕ
  pub before : List AnsweredCall
  pub later : List AnsweredCall
  pub accepted : steps ≡ before ++ (did (SetUp e.number e.route) (schedule e.held count) ∷ later)
  pub kept : any_of (accepted_release_of e.number) later ≡ false

later_entered : (s : AnsweredCall) (steps : List AnsweredCall) (e : Session) → Entered steps e → Entered (s ∷ steps) e
later_entered s steps e h =
    record { count = h.count; before = s ∷ h.before; later = h.later; accepted = ap (λ (l : List AnsweredCall). s ∷ l) h.accepted; kept = h.kept }

-- an entry stood in the list before and was kept, or was entered
abbrev Origin : List Session → List AnsweredCall → Session → Type 0
Origin ss steps e = (Memᴰ e ss × (any_of (accepted_release_of e.number) steps ≡ false)) ⊎ Entered steps e

origin_step : (call : Call) (r : Reply) (steps : List AnsweredCall) (ss : List Session) (e : Session) → Memᴰ e (live_after ss (effect call r))
    → any_of (accepted_release_of e.number) steps ≡ false → Origin ss (did call r ∷ steps) e
origin_step call r steps ss e m kept =
    ⊎_elim (λ k. inl (k.0, neither_or (accepted_release_of e.number (did call r)) (any_of (accepted_release_of e.number) steps) k.1 kept))
    (λ k. inr (record { count = k.0; before = []; later = steps; accepted = ap (λ (s : AnsweredCall). s ∷ steps) k.1; kept = kept }))
    (stood call r ss e m)

origin : (steps : List AnsweredCall) (ss : List Session) (e : Session) → Memᴰ e (ledger_from ss steps) → Origin ss steps e
origin [] ss e m = inl (m, refl)
origin (did call r ∷ steps) ss e m =
    ⊎_elim
    (λ k. origin_step call r steps ss e k.0 k.1)
    (λ k. inr (later_entered (did call r) steps e k))
    (origin steps (live_after ss (effect call r)) e m)

-- AN ENTRY OF THE LEDGER WAS ENTERED AND KEPT
pub entry_entered : (steps : List AnsweredCall) (e : Session) → Memᴰ e (ledger steps) → Entered steps e
entry_entered steps e m = ⊎_elim (λ k. absurd (Memᴰ.not-nil k.0)) (λ k. k) (origin steps [] e m)

-- ---- and back
stay : (steps : List AnsweredCall) (ss : List Session) (e : Session) → Memᴰ e ss → any_of (accepted_release_of e.number) steps ≡ false → Memᴰ e (ledger_from ss steps)
stay [] ss e m h = m
stay (did call r ∷ steps) ss e m h =
    let both = tests.or_neither (accepted_release_of e.number (did call r)) (any_of (accepted_release_of e.number) steps) h in
    stay steps (live_after ss (effect call r)) e (stays call r ss e m both.0) both.1

-- WHAT WAS ENTERED AND KEPT STANDS IN THE LEDGER
pub entered_entry : (before later : List AnsweredCall) (ss : List Session) (e : Session) (count : ℕ) → any_of (accepted_release_of e.number) later ≡ false
    → Memᴰ e (ledger_from ss (before ++ (did (SetUp e.number e.route) (schedule e.held count) ∷ later)))
entered_entry [] later ss e count h = stay later (ss ++ (e ∷ [])) e (Memᴰ.append_right ss (Memᴰ.head refl)) h
entered_entry (did call r ∷ before) later ss e count h = entered_entry before later (live_after ss (effect call r)) e count h
