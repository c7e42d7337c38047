-- Positions of two cycles: the frame of a position, its key, and how far it lies before a frame of the second cycle. Assumes nothing.
use mathlib.Core.Path.{◌≡◌, sym, ◌∙◌, ap}
use mathlib.Core.Bool.{Bool, true, false, cond}
use mathlib.Core.List.{List}
use Prim.Native.Nat.{ℕ, ◌+◌, ◌-◌, ◌*◌, ◌%◌, ◌<◌, ◌≤◌}
use native.Mathlib.Nat.{mod-eq_of_lt, add-mul}
use native.Mathlib.Decide.{dec_lt}
use native.Mathlib.Omega.{arith}
use lib.Dec.{ltb}
use lib.ListN.{get_or}
use borrow.Author.Tests.{lt-ltb, le-ltb}
use Rattle.forwarding.specs.Forwarding.{gap}
use Rattle.forwarding.proofs.Holds.{mod_once}
use Rattle.search.specs.Inner.{key_at, Picked}
use Rattle.search.proofs.Latest.{Chosen, latest_one}

-- at most a cycle more
pub cycle_most : (b : Bool) (cycle : ℕ) → cond b cycle 0 ≤ cycle
cycle_most true cycle = omega arith
cycle_most false cycle = omega arith

-- ---- a position after frame i of the cycle before, and up to frame i of this one
module _ (K i p : ℕ) (inside : i < K) (after : i < p) (upto : p ≤ i + K) where
  -- the two cases
  cases : {A : Type 0} → (p < K → p % K ≡ p → A) → (K ≤ p → p % K ≡ p - K → A) → A
  cases low high = elim (dec_lt p K) [ yes l ↦ low l (mod-eq_of_lt l) | no l ↦ high (omega arith) (mod_once K p (omega arith) (omega arith)) ]

  pub frame_in : p % K < K
  frame_in = cases (λ l e. omega arith) (λ l e. omega arith)

  -- whether its frame lies after i tells the cycle
  cycle_told : ltb i (p % K) ≡ ltb p K
  cycle_told = cases (λ l e. lt-ltb i (p % K) (omega arith) ∙ sym (lt-ltb p K l)) (λ l e. le-ltb i (p % K) (omega arith) ∙ sym (le-ltb p K l))

  -- how far it lies before frame i
  pub gap_position : gap K (p % K) i ≡ i + K - p
  unfolding gap
  gap_position =
      cases (λ l e. rw e (mod-eq_of_lt (omega arith)))
      (λ l e. rw e (let far : i + K - (p - K) ≡ i + K - p + K = omega arith in mod_once K (i + K - (p - K)) (omega arith) (omega arith) ∙ omega arith))

  -- the time from its frame to the end of the cycle, and in the cycle before a cycle more, is the time to frame i and on to the end
  pub times_split : (time : ℕ) → (K - p % K) * time + cond (ltb p K) (K * time) 0 ≡ (i + K - p) * time + (K - i) * time
  times_split time =
      cases
      (λ l e. rw (e, lt-ltb p K l) (sym (add-mul (K - p) K time) ∙ ap (λ (x : ℕ). x * time) (omega arith) ∙ add-mul (i + K - p) (K - i) time))
      (λ l e. rw (e, le-ltb p K l) (omega (arith, ap (λ (x : ℕ). x * time) (whole l), add-mul (i + K - p) (K - i) time)))
    where
      whole : K ≤ p → K - (p - K) ≡ i + K - p + (K - i)
      whole l = omega arith

  -- the key of the frame as seen from i is the key of the position
  pub seen_key : (cycle : ℕ) (keys : List ℕ) (frame value : ℕ) → frame ≡ p % K → value ≡ get_or keys frame 0 + cond (ltb i frame) cycle 0 → value ≡ key_at cycle K keys p
  unfolding key_at
  seen_key cycle keys frame value e v = v ∙ rw e (ap (λ (b : Bool). get_or keys (p % K) 0 + cond b cycle 0) cycle_told)

-- each frame has such a position
pub position_of : (K a i : ℕ) → a < K → i < K → (p : ℕ) × (p % K ≡ a) × (i < p) × (p ≤ i + K)
position_of K a i l m =
    elim (dec_lt i a) [
      | yes x ↦ (a, mod-eq_of_lt l, x, omega arith)
      | no x ↦ (a + K, mod_once K (a + K) (omega arith) (omega arith) ∙ omega arith, omega arith, omega arith)
    ]

module _ (cycle K : ℕ) (keys : List ℕ) where
  -- frame i itself, as the window of one
  pub chosen_own : (i frame value : ℕ) → i < K → frame ≡ i → value ≡ get_or keys i 0 → Chosen (key_at cycle K keys) K (i + K) 1 frame value
  unfolding key_at
  chosen_own i frame value l e v =
      let at : (i + K) % K ≡ i = mod_once K (i + K) (omega arith) (omega arith) ∙ omega arith in
      record {
        pick = record { position = i + K; stands = e ∙ sym at; latest = latest_one (key_at cycle K keys) (i + K) };
        valued = v ∙ rw (at, le-ltb (i + K) K (omega arith)) (omega arith);
      }

  -- the frame o before frame i, as the window of one
  pub chosen_behind : (i o frame value : ℕ) → i < K → o < K → frame ≡ (i + (K - o)) % K → value ≡ get_or keys frame 0 + cond (ltb i frame) cycle 0
      → Chosen (key_at cycle K keys) K (i + (K - o)) 1 frame value
  chosen_behind i o frame value l m e v = record {
    pick = record { position = i + (K - o); stands = e; latest = latest_one (key_at cycle K keys) (i + (K - o)) };
    valued = seen_key K i (i + (K - o)) l (omega arith) (omega arith) cycle keys frame value e v;
  }

  -- a pick, with its key as seen from the frame that its windows end with
  pub picked_seen : (i n frame value : ℕ) → i < K → n ≤ K → Picked (key_at cycle K keys) K (i + K) n frame → value ≡ get_or keys frame 0 + cond (ltb i frame) cycle 0
      → Chosen (key_at cycle K keys) K (i + K) n frame value
  picked_seen i n frame value l m p v = record {
    pick = p;
    valued = seen_key K i p.position l (omega (arith, p.latest.begins)) p.latest.ends cycle keys frame value p.stands v;
  }

  -- and it is a frame
  pub picked_in : (i n frame : ℕ) → i < K → n ≤ K → Picked (key_at cycle K keys) K (i + K) n frame → frame < K
  picked_in i n frame l m p = omega (arith, p.stands, frame_in K i p.position l (omega (arith, p.latest.begins)) p.latest.ends)
