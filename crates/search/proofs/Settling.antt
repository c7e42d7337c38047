-- The cells of a hop and its predecessors, settled frame by frame, are the row and the predecessors of survivor search. Assumes nothing.
use mathlib.Core.Path.{◌≡◌, refl, sym, ◌∙◌, ap, ap₂, subst, fun_ext}
use mathlib.Core.Bool.{cond}
use mathlib.Core.List.{List}
use Prim.Native.Nat.{ℕ, ◌+◌, ◌-◌, ◌*◌, ◌%◌, ◌<◌, ◌≤◌, min}
use native.Mathlib.Nat.{mul-div-le}
use native.Mathlib.Omega.{arith}
use lib.Dec.{ltb}
use lib.ListN.{get_or, set, length, replicate, length-set}
use lib.Seq.{get_or-set_same, get_or-set_other}
use borrow.Author.Count.{below_more}
use Rattle.forwarding.specs.declared.Hop.{Hop}
use Rattle.trellis.specs.Trellis.{Stage}
use Rattle.trellis.proofs.Survivor.{best_of}
use Rattle.words.specs.Inner.{WindowOnes}
use Rattle.forwarding.specs.Forwarding.{least_hold, frame_time, delay}
use Rattle.forwarding.specs.Hops.{HopReady}
use Rattle.forwarding.proofs.Holds.{least_in}
use Rattle.forwarding.proofs.Transitions.{delay_frames}
use Rattle.forwarding.proofs.Windows.{first_frame}
use Rattle.search.specs.Inner.{cell_if, Latest, key_at, Picked, Keys, Windows, Opens, Gathers, leadings, Gathering, place_from, Lanes, Settled, Settling, lane_of, offers, Lane, LaneSet}
use Rattle.search.proofs.Positions.{cycle_most, frame_in, times_split, seen_key, picked_in}
use Rattle.search.proofs.Gathering.{within_time, none_gathered, gathered_keys, gathered_waits}
use Rattle.search.proofs.Counting.{lane_by, all_counted, ones_few}
use Rattle.search.proofs.Landing.{landed, landed_most}

module _ (time lead K free w : ℕ) (keys froms lanes : List ℕ) where
  abbrev key : ℕ → ℕ
  key = key_at (K * time) K keys

  -- the picks are there
  none_settled : (next preds : List ℕ) → length next ≡ 64 → Windows (K * time) K keys w K preds → Settled time lead K free w keys froms lanes 0 next preds
  none_settled next preds l s = record {
    long = s.long;
    next_long = l;
    settled = λ i m. absurd (omega arith);
    picked = λ i m n. s.each i n;
  }

  module _ (n : ℕ) (next preds : List ℕ) (s : Settled time lead K free w keys froms lanes n next preds) (few : n < 64) (frame value cell place : ℕ) (P : Picked key K (n + K) w frame)
      (valued : value ≡ key P.position) (lands : cell ≡ cell_if free n (min (value + lead - (K - n) * time) 32768))
      (placed : place ≡ place_from lanes (get_or froms frame 0)) where
    -- one frame more
    one_settled : Settled time lead K free w keys froms lanes (n + 1) (set next n cell) (set preds n place)
    one_settled = record {
      long = length-set preds n place ∙ s.long;
      next_long = length-set next n cell ∙ s.next_long;
      settled = below_more Is n there here;
      picked = λ i m l.
          subst (Picked key K (i + K) w) (sym (get_or-set_other preds n i place 0 (λ x. omega arith))) (s.picked i (omega arith) l);
    }
      where
        Is : ℕ → Type 0
        Is i = (p : ℕ) × Latest key (i + K) w p × (get_or (set next n cell) i 0 ≡ cell_if free i (min (key p + lead - (K - i) * time) 32768))
            × (get_or (set preds n place) i 0 ≡ place_from lanes (get_or froms (p % K) 0))

        here : Is n
        here = (
          P.position,
          P.latest,
          get_or-set_same next n cell 0 (omega (arith, s.next_long)) ∙ lands ∙ ap (λ (x : ℕ). cell_if free n (min (x + lead - (K - n) * time) 32768)) valued,
          get_or-set_same preds n place 0 (omega (arith, s.long)) ∙ placed ∙ ap (λ (x : ℕ). place_from lanes (get_or froms x 0)) P.stands,
        )

        there : (i : ℕ) → i < n → Is i
        there i q =
            let o = s.settled i q in (
              o.0,
              o.1,
              get_or-set_other next n i cell 0 (λ x. omega arith) ∙ o.2,
              get_or-set_other preds n i place 0 (λ x. omega arith) ∙ o.3,
            )

-- the key of a position has the time from frame i to the end of the cycle, as that of each frame has the time from it on
key_waits : (K i p : ℕ) → i < K → i < p → p ≤ i + K → (time : ℕ) (keys : List ℕ) → ((a : ℕ) → a < K → (K - a) * time ≤ get_or keys a 0) → (K - i) * time ≤ key_at (K * time) K keys p
unfolding key_at
key_waits K i p inside behind upto time keys waits = omega (arith, times_split K i p inside behind upto time, waits (p % K) (frame_in K i p inside behind upto))

-- ---- what is read where frame i is settled
module _ (time lead K free w : ℕ) (keys froms lanes row₀ preds₀ : List ℕ) (S : Settling time lead K free w keys froms lanes row₀ preds₀) (i : ℕ) (row preds : List ℕ)
    (s : Settled time lead K free w keys froms lanes i row preds) (l : i < K) where
  pick : Picked (key_at (K * time) K keys) K (i + K) w (get_or preds i 0)
  pick = s.picked i (omega arith) l

  pub pick_in : (frame : ℕ) → frame ≡ get_or preds i 0 → frame < K
  pick_in frame e = omega (arith, picked_in (K * time) K keys i w (get_or preds i 0) l S.narrow pick)

  module _ (frame cycle value : ℕ) (is : frame ≡ get_or preds i 0) (whole : cycle ≡ K * time) (v : value ≡ get_or keys frame 0 + cond (ltb i frame) cycle 0) where
    valued : value ≡ key_at (K * time) K keys pick.position
    valued =
        seen_key K i pick.position l (omega (arith, pick.latest.begins, S.narrow)) pick.latest.ends (K * time) keys (get_or preds i 0) value pick.stands
        (v ∙ ap₂ (λ (x y : ℕ). get_or keys x 0 + cond (ltb i x) y 0) is whole)

    pub value_small : value ≤ 34688
    value_small = omega (arith, v, whole, S.ring.small frame, S.ring.short, cycle_most (ltb i frame) cycle)

    -- the key has the time to the end of the cycle
    pub value_waits : (wait : ℕ) → wait ≡ (K - i) * time → wait ≤ value
    value_waits wait e = omega (arith, valued, waits_there)
      where
        waits_there : (K - i) * time ≤ key_at (K * time) K keys pick.position
        waits_there = key_waits K i pick.position l (omega (arith, pick.latest.begins, S.narrow)) pick.latest.ends time keys S.waits

    pub settled_on : (wait cell place : ℕ) → wait ≡ (K - i) * time → i < 64 → cell ≡ cell_if free i (min (value + lead - wait) 32768) → place ≡ place_from lanes (get_or froms frame 0)
        → Settled time lead K free w keys froms lanes (i + 1) (set row i cell) (set preds i place)
    settled_on wait cell place e few c q =
        one_settled time lead K free w keys froms lanes i row preds s few (get_or preds i 0) value cell place pick valued (c ∙ ap (λ (x : ℕ). cell_if free i (min (value + lead - x) 32768)) e)
        (q ∙ ap (λ (x : ℕ). place_from lanes (get_or froms x 0)) is)

-- a place fits a byte
pub place_fits : (lanes : List ℕ) (k : ℕ) → Lanes lanes → k < 64 → place_from lanes k < 256
place_fits lanes k L l = let o = L.each k in omega (arith, o.1, o.2)

-- by the time of a frame or by the rule, the stage is the same
lane_by_lem : (T : ℕ) (g h : Hop) (free : ℕ) → HopReady T h → lane_by (frame_time T h.frames) g h free ≡ lane_of (delay T h.frames) g h free
lane_by_lem T g h free p =
    ap (λ (c : ℕ → ℕ). lane_of c g h free) (fun_ext (λ D. sym (delay_frames T h.frames D p.some_frame p.divides)))

-- the frames of a cycle last no longer than the cycle
pub time_fits : (T K x : ℕ) → T ≤ 960 → x ≡ frame_time T K → K * x ≤ 960
unfolding frame_time
time_fits T K x h e = omega (arith, ap (λ (y : ℕ). K * y) e, mul-div-le T K)

-- ---- a colour of a hop entered, with the time of its frame
module _ (T : ℕ) (g h : Hop) (cells many lanes old : List ℕ) (time : ℕ) (E : Lane T g h cells many lanes old) (timed : time ≡ frame_time T h.frames) where
  in_time : h.frames * time ≤ 960
  in_time = time_fits T h.frames time E.cycle timed

  pub least_time : (least : ℕ) → least ≡ least_hold h → least * time ≤ 960
  least_time least e = within_time time h.frames least (omega (arith, least_in T h E.ready)) in_time

  -- its frames may be gathered
  pub begins_gathering : (w free : ℕ) (blank ones : List ℕ) → Opens h w free → WindowOnes free h.frames w h.frames blank ones → Gathering g h time cells many ones (replicate 64 33728) (replicate 64 0)
  begins_gathering w free blank ones o s = record {
    few_before = E.few_before;
    some_frame = E.ready.some_frame;
    few_frames = E.ready.few_frames;
    led = least_in T h E.ready;
    in_time = in_time;
    small = E.small;
    few_many = E.few_many;
    few_ones = ones_few free h.frames w blank ones (omega (arith, o.within, E.ready.few_frames)) s;
    begun = none_gathered (first_frame g h) time h.frames cells in_time E.ready.few_frames;
  }

  module _ (w free : ℕ) (opens : Opens h w free) (keys froms : List ℕ) (G : Gathers (first_frame g h) time h.frames cells g.frames keys froms) (cycle : ℕ) (whole : cycle ≡ h.frames * time) where
    -- its windows may be gone through
    pub begins_windows : Keys cycle h.frames keys
    begins_windows = gathered_keys (first_frame g h) time h.frames cells g.frames keys froms G cycle E.ready.some_frame E.ready.few_frames (omega (arith, in_time))

    module _ (lead : ℕ) (led : lead ≡ least_hold h * time) (preds : List ℕ) (W : Windows cycle h.frames keys w h.frames preds) where
      -- its frames may be settled
      pub begins_settling : Settling time lead h.frames free w keys froms lanes cells preds
      begins_settling = record {
        ring = subst (λ (x : ℕ). Keys x h.frames keys) whole begins_windows;
        waits = gathered_waits (first_frame g h) time h.frames cells g.frames keys froms G;
        led = omega (arith, least_time (least_hold h) refl);
        narrow = opens.within;
        few = G.few;
        lanes_are = E.lanes_are;
        begun = none_settled time lead h.frames free w keys froms lanes cells preds E.cells_long (subst (λ (x : ℕ). Windows x h.frames keys w h.frames preds) whole W);
      }

      -- THEN IT HAS ITS ROW
      pub lane_set : (blank ones : List ℕ) (count : ℕ) (next new : List ℕ) → WindowOnes free h.frames w h.frames blank ones → count ≡ leadings (first_frame g h) many ones g.frames
          → ((w : ℕ) → Settling time lead h.frames free w keys froms lanes cells preds → Settled time lead h.frames free w keys froms lanes h.frames next new)
          → LaneSet T g h free cells many lanes next new count
      lane_set blank ones count next new O c all = record {
        inside = λ i l. let o = settled.settled i l in let k = get_or froms (o.0 % h.frames) 0 in
            let st = ap (λ (x : ℕ). lane_by x g h free) timed ∙ lane_by_lem T g h free E.ready in
            let way = landed time g h w free cells keys froms E.ready.some_frame (least_in T h E.ready) in_time opens E.small G i l o.0 o.1 lead (get_or next i 0) k led o.2 refl in
            record {
              hold = way.0;
              from = k;
              few = G.few (o.0 % h.frames);
              way = way.1 ∙ ap (λ (x : Stage). best_of (offers x cells i) g.frames) st;
              stored = o.3;
            };
        most = λ i l. let o = settled.settled i l in
            landed_most time g h w free cells keys froms E.ready.some_frame (least_in T h E.ready) in_time opens E.small G i l o.0 o.1 lead (get_or next i 0) (get_or froms (o.0 % h.frames) 0) led o.2 refl;
        counted = c ∙ all_counted g h w free blank ones E.ready.some_frame opens O many g.frames;
        next_long = settled.next_long;
        long = settled.long;
      }
        where
          settled : Settled time lead h.frames free w keys froms lanes h.frames next new
          settled = all w begins_settling
