-- A schedule over the frames that sessions leave free: it holds unclosed frames, none of theirs, at the same delay. Assumes nothing.
use mathlib.Core.Path.{◌≡◌, refl, ap}
use mathlib.Core.Bool.{Bool, false, ◌&&◌}
use mathlib.Core.List.{List, [], ◌∷◌}
use Prim.Native.Nat.{ℕ, ◌+◌}
use Rattle.lists.proofs.Count as tests
use Rattle.network.specs.Network.{Topology}
use Rattle.forwarding.specs.Forwarding.{Spot, reference_into, least_hold, hold_into, may_hold, may_turn, is_free, delay}
use Rattle.forwarding.specs.Schedule.{frames_of, colours_of, GoesOn, IsSchedule, onward_delay, schedule_delay}
use Rattle.ledger.specs.Lists.{any_of}
use Rattle.ledger.specs.Held.{held_over, spots_in}
use Rattle.ledger.specs.Sessions.{Session, slot, slots_at, held_in, link_at, hop_of, hops_of}
use Rattle.ledger.proofs.Lists.{neither_or}
use Rattle.ledger.proofs.Held.{spots_held, frames_over, colours_over}
use Rattle.ledger.proofs.Free.{free_unheld, free_unclosed}

module _ (net : Topology) (ss : List Session) where
  -- on from x on link r
  on_unclosed : (r : ℕ) (x : Spot) (route : List ℕ) (ys : List Spot) → GoesOn (hop_of net ss r) x (hops_of net ss route) ys → GoesOn (hop_of net [] r) x (hops_of net [] route) ys
  unfolding reference_into least_hold hold_into may_hold may_turn
  on_unclosed r x [] [] o = o
  on_unclosed r x [] (y ∷ ys) o = o
  on_unclosed r x (l ∷ route) [] o = o
  on_unclosed r x (l ∷ route) (y ∷ ys) o =
      let may : Bool = may_hold (hop_of net ss l) (hold_into (hop_of net ss r) (hop_of net ss l) x.frame y.frame) in
      let turn : Bool = may_turn (hop_of net ss l) x.colour y.colour in
      let a = tests.and_both may (turn && is_free (hop_of net ss l) y) o.1 in
      let b = tests.and_both turn (is_free (hop_of net ss l) y) a.1 in
      (o.0, tests.both_and may (turn && is_free (hop_of net [] l) y) a.0 (tests.both_and turn (is_free (hop_of net [] l) y) b.0 (free_unclosed net ss l y o.0.1 b.1)), on_unclosed l y route ys o.2)

  pub schedule_unclosed : (route : List ℕ) (xs : List Spot) → IsSchedule (hops_of net ss route) xs → IsSchedule (hops_of net [] route) xs
  schedule_unclosed [] xs s = s
  schedule_unclosed (l ∷ route) [] s = s
  schedule_unclosed (l ∷ route) (x ∷ xs) s = (s.0, free_unclosed net ss l x s.0.1 s.1, on_unclosed l x route xs s.2)

  on_delay : (T r : ℕ) (x : Spot) (route : List ℕ) (ys : List Spot) → onward_delay T (hop_of net ss r) x (hops_of net ss route) ys ≡ onward_delay T (hop_of net [] r) x (hops_of net [] route) ys
  unfolding reference_into least_hold hold_into
  on_delay T r x [] ys = refl
  on_delay T r x (l ∷ route) [] = refl
  on_delay T r x (l ∷ route) (y ∷ ys) =
      ap (λ (d : ℕ). delay T (link_at net l).frames (hold_into (hop_of net ss r) (hop_of net ss l) x.frame y.frame) + d) (on_delay T l y route ys)

  pub delay_same : (T : ℕ) (route : List ℕ) (xs : List Spot) → schedule_delay T (hops_of net ss route) xs ≡ schedule_delay T (hops_of net [] route) xs
  delay_same T [] xs = refl
  delay_same T (l ∷ route) [] = refl
  delay_same T (l ∷ route) (x ∷ xs) = on_delay T l x route xs

  on_unheld : (r : ℕ) (x : Spot) (route : List ℕ) (ys : List Spot) → GoesOn (hop_of net ss r) x (hops_of net ss route) ys → any_of (held_in ss) (slots_at route (frames_of ys) (colours_of ys)) ≡ false
  on_unheld r x [] ys o = refl
  on_unheld r x (l ∷ route) [] o = refl
  on_unheld r x (l ∷ route) (y ∷ ys) o =
      let a = tests.and_both (may_hold (hop_of net ss l) (hold_into (hop_of net ss r) (hop_of net ss l) x.frame y.frame)) (may_turn (hop_of net ss l) x.colour y.colour && is_free (hop_of net ss l) y) o.1 in
      let b = tests.and_both (may_turn (hop_of net ss l) x.colour y.colour) (is_free (hop_of net ss l) y) a.1 in
      neither_or (held_in ss (slot l y.frame y.colour)) (any_of (held_in ss) (slots_at route (frames_of ys) (colours_of ys))) (free_unheld net ss l y o.0.1 b.1) (on_unheld l y route ys o.2)

  pub schedule_unheld : (route : List ℕ) (xs : List Spot) → IsSchedule (hops_of net ss route) xs → any_of (held_in ss) (slots_at route (frames_of xs) (colours_of xs)) ≡ false
  schedule_unheld [] xs s = refl
  schedule_unheld (l ∷ route) [] s = refl
  schedule_unheld (l ∷ route) (x ∷ xs) s =
      neither_or (held_in ss (slot l x.frame x.colour)) (any_of (held_in ss) (slots_at route (frames_of xs) (colours_of xs))) (free_unheld net ss l x s.0.1 s.1) (on_unheld l x route xs s.2)

  -- what it holds: its frames in their colours can be told from it, and no session of the list holds a frame of it
  pub over_spots : (route : List ℕ) (d : ℕ) (w : List Spot) → spots_in (held_over (hops_of net ss route) d w) ≡ w
  over_spots route d w = spots_held (hops_of net ss route) d w

  pub over_unheld : (route : List ℕ) (d : ℕ) (w : List Spot) → IsSchedule (hops_of net ss route) w
      → any_of (held_in ss) (slots_at route (held_over (hops_of net ss route) d w).frames (held_over (hops_of net ss route) d w).colours) ≡ false
  over_unheld route d w s = rw (frames_over (hops_of net ss route) d w, colours_over (hops_of net ss route) d w) (schedule_unheld route w s)
