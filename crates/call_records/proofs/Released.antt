-- What one width of a session's number sets up the other releases, and 03 releases no number above two bytes. Assumes nothing.
use mathlib.Core.Path.{◌≡◌, refl, sym, ap, ◌∙◌}
use mathlib.Core.Bool.{Bool, true, false, not, cond}
use mathlib.Core.List.{List, [], ◌∷◌, ◌++◌}
use Prim.Native.Nat.{ℕ, ◌<◌}
use native.Mathlib.Omega.{arith}
use lib.ListN.{length, drop}
use lib.Dec.{eqb, ltb}
use borrow.Author.Tests.{eq-eqb, ne_eqb, eqb-true}
use Rattle.refusals.specs.Refusals.{Outcome, given, refused}
use Rattle.numbers.specs.Numbers.{number_in}
use Rattle.ledger.specs.Lists.{keep}
use Rattle.ledger.specs.Sessions.{Session, View, is_live}
use Rattle.ledger.specs.Sound.{intact}
use Rattle.ledger.specs.Calls.{SetUp, Release, Reply, schedule, freed, refusal, call_check, granted, reply, Effect, strikes, effect, other_than, live_after, left, next, look_in, lookup}
use Rattle.ledger.specs.Ledger.{has_schedule}
use Rattle.ledger.proofs.Lists.{any_snoc, right_or}
use Rattle.ledger.proofs.Answered.{reply_intact}
use Rattle.ledger.proofs.Kept.{next_intact}
use Rattle.ledger.proofs.Scheduled.{scheduled}
use Rattle.ledger.proofs.Shown.{lookup_intact, lookup_given, not_shown_lem}
use Rattle.ledger.proofs.Quoted as quoted
use Rattle.call_records.specs.Records.{CallSaid, unreadable, with_number, release_said, first_call}
use Rattle.call_records.specs.Served.{answer_to, view_after}
use Rattle.call_records.specs.Widths.{Width, short, Fits, release_record, set_up_then_release, EitherReleases, LiveReleased, ShortSpares}
use Rattle.call_records.proofs.Widths.{records_say, fits}

-- ---- a live session can be released
released_live : (v : View) (n : ℕ) → intact v ≡ true → is_live n v.live ≡ true → reply v (Release n) ≡ freed
unfolding call_check granted
released_live v n ok live = reply_intact v (Release n) ok ∙ rw live

record_releases : (v : View) (u : Width) (n : ℕ) (after : List ℕ) → Fits u n → reply v (Release n) ≡ freed → answer_to v (first_call (release_record u n ++ after)).call ≡ freed
record_releases v u n after h e = ap (λ (x : CallSaid). answer_to v x.call) (records_say u n [] after h).1 ∙ e

module _ (v : View) (n : ℕ) (route : List ℕ) where
  -- an accepted set-up: the state isn't broken, and its number is live after it
  entered : (r : Reply) → reply v (SetUp n route) ≡ r → has_schedule r ≡ true → (intact v ≡ true) × (is_live n (next v (SetUp n route)).live ≡ true)
  unfolding next left
  entered (schedule held count) e h =
      let u : Session = record { number = n; route = route; held = held } in (
        (scheduled v (SetUp n route) held count e).unbroken,
        ap (λ (r : Reply). is_live n (left v (effect (SetUp n route) r)).live) e
            ∙ any_snoc (λ s. eqb s.number n) v.live u
            ∙ right_or (is_live n v.live) (eqb n n) (eq-eqb n n refl),
      )
  entered freed e h = let z : ◌≡◌ {A = ℕ} 0 1 = cc in absurd (omega arith)
  entered (refusal k count) e h = let z : ◌≡◌ {A = ℕ} 0 1 = cc in absurd (omega arith)

  released_after : has_schedule (reply v (SetUp n route)) ≡ true → reply (next v (SetUp n route)) (Release n) ≡ freed
  released_after h =
      let done = entered (reply v (SetUp n route)) refl h in
      released_live (next v (SetUp n route)) n (next_intact v (SetUp n route) done.0) done.1

-- A SESSION SET UP BY ONE KIND CAN BE RELEASED BY THE OTHER
pub either_releases : EitherReleases
either_releases v w u n route rest hw hu h =
    let c : first_call (set_up_then_release w u n route rest) ≡ record { call = given (SetUp n route); rest = release_record u n ++ rest } = (records_say w n route (release_record u n ++ rest) hw).0 in
    let g : has_schedule (reply v (SetUp n route)) ≡ true = rw c at h in
    rw c (record_releases (next v (SetUp n route)) u n rest hu (released_after v n route g))

-- EVERY SESSION THAT LOOKUP GIVES IS RELEASED BY EITHER WIDTH
pub live_released : LiveReleased
live_released v u n s rest h e =
    let shown = lookup_given v n s e in
    record_releases v u n rest h (released_live v n shown.0 (looked_live (is_live n v.live) refl shown.1))
  where
    looked_live : (b : Bool) → is_live n v.live ≡ b → look_in n v.live ≡ given s → b ≡ true
    looked_live true q e = refl
    looked_live false q e = let y : refused 19 ≡ given s = sym (not_shown_lem n v.live q) ∙ e in let z : ◌≡◌ {A = ℕ} 0 1 = cc in absurd (omega arith)

-- ---- a release leaves the sessions of other numbers alone
look_keep : (n m : ℕ) → (n ≡ m → ⊥) → (ss : List Session) → look_in n (keep (other_than m) ss) ≡ look_in n ss
look_keep n m apart [] = refl
look_keep n m apart (s ∷ ss) = go (eqb s.number m) refl (look_keep n m apart ss)
  where
    go : (b : Bool) → eqb s.number m ≡ b → look_in n (keep (other_than m) ss) ≡ look_in n ss
        → look_in n (cond (not b) (s ∷ keep (other_than m) ss) (keep (other_than m) ss)) ≡ look_in n (s ∷ ss)
    go true e ih =
        let q : eqb s.number n ≡ false = ne_eqb s.number n (λ (k : s.number ≡ n). apart (sym k ∙ eqb-true s.number m e)) in
        rw q ih
    go false e ih = ap (λ (o : Outcome Session). cond (eqb s.number n) (given s) o) ih

module _ (v : View) (n m : ℕ) (apart : n ≡ m → ⊥) where
  -- where it was refused, and where it was accepted
  refused_same : (k count : ℕ) → reply v (Release m) ≡ refusal k count → next v (Release m) ≡ v
  unfolding next left
  refused_same k count e = ap (λ (r : Reply). left v (effect (Release m) r)) e

  struck_spares : (r : Reply) → reply v (Release m) ≡ r → (r ≡ refusal 0 0 → ⊥) → effect (Release m) r ≡ strikes m → lookup (next v (Release m)) n ≡ lookup v n
  unfolding next left
  struck_spares r e accepted does =
      let before : intact v ≡ true = quoted.unbroken v (Release m) (λ (q : reply v (Release m) ≡ refusal 0 0). accepted (sym e ∙ q)) in
      let after : intact (next v (Release m)) ≡ true = next_intact v (Release m) before in
      let live : (next v (Release m)).live ≡ keep (other_than m) v.live = ap (λ (f : Effect). live_after v.live f) (ap (effect (Release m)) e ∙ does) in
      lookup_intact (next v (Release m)) n after
      ∙ ap (look_in n) live
      ∙ look_keep n m apart v.live
      ∙ sym (lookup_intact v n before)

  spared : lookup (next v (Release m)) n ≡ lookup v n
  spared = go (reply v (Release m)) refl
    where
      go : (r : Reply) → reply v (Release m) ≡ r → lookup (next v (Release m)) n ≡ lookup v n
      go (refusal k count) e = ap (λ (w : View). lookup w n) (refused_same k count e)
      go freed e = struck_spares freed e (λ (q : freed ≡ refusal 0 0). let z : ◌≡◌ {A = ℕ} 0 1 = cc in absurd (omega arith)) refl
      go (schedule held count) e = struck_spares (schedule held count) e (λ (q : schedule held count ≡ refusal 0 0). let z : ◌≡◌ {A = ℕ} 0 1 = cc in absurd (omega arith)) refl

-- 03 LEAVES EVERY SESSION ALONE WHOSE NUMBER IS 65,536 OR ABOVE
pub short_spares : ShortSpares
unfolding first_call release_said with_number
short_spares v n s bytes h = go (ltb (length s) 2)
  where
    go : (b : Bool) → lookup (view_after v (cond b unreadable (record { call = given (Release (number_in 2 s)); rest = drop 2 s })).call) n ≡ lookup v n
    go true = refl
    go false = spared v n (number_in 2 s) (λ (e : n ≡ number_in 2 s). let l : number_in 2 s < 65536 = fits short 2 (omega arith) s bytes in let z : ◌≡◌ {A = ℕ} 0 1 = omega arith in absurd (omega arith))
