-- A call on a state that isn't broken leaves one that isn't broken. Assumes nothing.
use mathlib.Core.Path.{◌≡◌, refl, sym, ◌∙◌}
use mathlib.Core.Bool.{true, false}
use mathlib.Core.List.{List, [], ◌∷◌, ◌++◌}
use Prim.Native.Nat.{ℕ, ◌≤◌}
use native.Mathlib.Omega.{arith}
use lib.ListN.{length, length-append}
use lib.Dec.{eqb}
use borrow.Author.Tests.{leb-false}
use Rattle.lists.proofs.Count as tests
use Rattle.refusals.specs.Refusals.{Ruling, given, refused, pass}
use Rattle.network.specs.Network.{Topology}
use Rattle.forwarding.specs.Forwarding.{Spot}
use Rattle.forwarding.specs.LeastDelay.{Given}
use Rattle.ledger.specs.Lists.{all_of, any_of, any_two, keep}
use Rattle.ledger.specs.Held.{held_over}
use Rattle.ledger.specs.Sessions.{Session, slots_of, holds, held_in, is_live, hops_of}
use Rattle.ledger.specs.Routes.{route_check}
use Rattle.ledger.specs.Sound.{number_twice, same_number, good_session, share_slot, frame_twice}
use Rattle.ledger.specs.Calls.{Call, SetUp, Quote, Release, Reply, unless, full, call_check, granted, effect, other_than, live_after, left, next, NextIntact}
use Rattle.ledger.specs.Demand.{LeastOrBlocked, least, no_schedule}
use Rattle.ledger.proofs.Lists.{neither_or, eqb_flip, any_cong, all_snoc, any_two_snoc, any_swap, all_keep, any_two_keep, length_keep}
use Rattle.ledger.proofs.Held.{held_free}
use Rattle.ledger.proofs.Intact.{Intact, GoodSession, good_session_lem, intact_is, is_intact}
use Rattle.ledger.proofs.Schedules.{schedule_unclosed, delay_same, over_spots, over_unheld}
use Rattle.ledger.proofs.Answered.{answer_on, reply_intact, Admitted, admitted, call_due}

-- ---- a new session beside the others
number_new : (ss : List Session) (u : Session) → is_live u.number ss ≡ false → any_of (λ s. same_number s u) ss ≡ false
number_new ss u h = any_cong (λ s. same_number s u) (λ s. eqb s.number u.number) ss (λ s. eqb_flip u.number s.number) ∙ h

-- none of the others shares a frame with it that holds none of theirs
unheld_unshared : (ss : List Session) (u : Session) → any_of (held_in ss) (slots_of u) ≡ false → any_of (λ s. share_slot s u) ss ≡ false
unheld_unshared ss u h = sym (any_swap holds (slots_of u) ss) ∙ h

module _ (net : Topology) (ss : List Session) (h : Intact net ss) where
  few_more : (u : Session) → full ss ≡ false → length (ss ++ (u ∷ [])) ≤ 96
  unfolding full
  few_more u e = omega (arith, leb-false 96 (length ss) e, length-append ss (u ∷ []))

  -- ---- an accepted set-up
  given_good : (n : ℕ) (route : List ℕ) (d count : ℕ) (w : List Spot) → route_check net route ≡ given pass
      → Given net.ticks (hops_of net ss route) d count w → GoodSession net (record { number = n; route = route; held = held_over (hops_of net ss route) d w })
  given_good n route d count w e g =
      record {
        route = e;
        schedule = rw (over_spots net ss route d w) (schedule_unclosed net ss route w g.schedule);
        held = rw (over_spots net ss route d w, held_free net ss route d w, sym (delay_same net ss net.ticks route w), g.delay_is);
      }

  set_up_intact : (n : ℕ) (route : List ℕ) → Admitted net ss n route → {r : Reply} → LeastOrBlocked net.ticks (hops_of net ss route) r
      → Intact net (live_after ss (effect (SetUp n route) r))
  unfolding number_twice frame_twice
  set_up_intact n route a (least d count w e g) =
      let u : Session = record { number = n; route = route; held = held_over (hops_of net ss route) d w } in
      let good : good_session net u ≡ true = good_session_lem net u (given_good n route d count w a.passed g) in
      record {
        network = h.network;
        few = few_more u a.room;
        numbers = any_two_snoc same_number ss u ∙ neither_or (any_two same_number ss) (any_of (λ s. same_number s u) ss) h.numbers (number_new ss u a.unused);
        sessions = all_snoc (good_session net) ss u ∙ tests.both_and (all_of (good_session net) ss) (good_session net u) h.sessions good;
        frames = any_two_snoc share_slot ss u ∙ neither_or (any_two share_slot ss) (any_of (λ s. share_slot s u) ss) h.frames (unheld_unshared ss u (over_unheld net ss route d w g.schedule));
      }
  set_up_intact n route a (no_schedule count e counted nowhere) = h

  -- ---- an accepted release
  release_intact : (n : ℕ) → Intact net (keep (other_than n) ss)
  unfolding number_twice frame_twice
  release_intact n =
      record {
        network = h.network;
        few = omega (arith, h.few, length_keep (other_than n) ss);
        numbers = any_two_keep same_number (other_than n) ss h.numbers;
        sessions = all_keep (good_session net) (other_than n) ss h.sessions;
        frames = any_two_keep share_slot (other_than n) ss h.frames;
      }

  pub answer_intact : (call : Call) → Intact net (live_after ss (effect call (answer_on net ss call)))
  answer_intact (SetUp n route) = go (call_check net ss (SetUp n route)) refl
    where
      go : (o : Ruling) → call_check net ss (SetUp n route) ≡ o → Intact net (live_after ss (effect (SetUp n route) (unless o (granted net ss (SetUp n route)))))
      go (refused k) e = h
      go (given pass) e = set_up_intact n route (admitted net ss n route e) (call_due net ss (SetUp n route))
  answer_intact (Quote route) = h
  answer_intact (Release n) = go (call_check net ss (Release n))
    where
      go : (o : Ruling) → Intact net (live_after ss (effect (Release n) (unless o (granted net ss (Release n)))))
      go (refused k) = h
      go (given pass) = unfold granted in release_intact n

-- EVERY CALL KEEPS THE STATE INTACT
pub next_intact : NextIntact
unfolding next left
next_intact v call e = is_intact (next v call) (rw (reply_intact v call e) (answer_intact v.network v.live (intact_is v e) call))
