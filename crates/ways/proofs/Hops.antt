-- From the last hop of a route back, each row has the number of ways on from each frame of its hop.
-- Assumes nothing.
use mathlib.Core.Path.{◌≡◌, sym, ◌∙◌, ap, subst}
use mathlib.Core.List.{List}
use Prim.Native.Nat.{ℕ, ◌+◌, ◌-◌, ◌*◌, ◌<◌, ◌≤◌}
use native.Mathlib.Nat.{zero-add}
use native.Mathlib.Omega.{arith}
use lib.ListN.{get_or, drop, replicate, length, length-drop, drop_of_length-le, get_or-replicate}
use lib.Seq.{get_or-drop, take_all}
use Rattle.std.proofs.lemmas.List.{drop_more}
use Rattle.lists.specs.Count.{one_if, sum_below}
use Rattle.lists.proofs.Count.{sum_cong}
use Rattle.forwarding.specs.declared.Hop.{Hop}
use Rattle.forwarding.specs.Forwarding.{Spot, is_free, is_allowed}
use Rattle.forwarding.specs.Hops.{no_hop, HopReady, AllReady, Ready}
use Rattle.forwarding.specs.Route.{nodes, spot_at}
use Rattle.forwarding.specs.Inner.{hop_at}
use Rattle.forwarding.specs.Ways.{ways_on, route_ways}
use Rattle.forwarding.proofs.ByHops.{all_ready}
use Rattle.forwarding.proofs.Spots.{sum_spots}
use Rattle.forwarding.proofs.Ways.{on_ways, all_ways, on_within}
use Rattle.ways.specs.Inner.{plain, free_ways, SmallRow, CycleSums, LeadsInto, RowBefore}

-- a sum over the nodes of a hop of one colour is one over its frames
plain_sum : (h : Hop) (f : Spot → ℕ) → h.colours ≡ 1 → sum_below (nodes h) (λ n. f (spot_at h n)) ≡ sum_below h.frames (λ i. f (plain i))
plain_sum h f one =
    sum_spots h f
    ∙ sum_cong h.frames (λ i. sum_below h.colours (λ c. f (record { frame = i; colour = c }))) (λ i. f (plain i))
    (λ i l. ap (λ (C : ℕ). sum_below C (λ c. f (record { frame = i; colour = c }))) one ∙ zero-add (f (plain i)))

module _ (hops : List Hop) where
  -- a row has the number of ways on from each frame of hop j
  abbrev pub Counts : ℕ → List ℕ → Type 0
  Counts j row = (k : ℕ) → k < (hop_at hops j).frames → get_or row k 0 ≡ length (ways_on (hop_at hops j) (plain k) (drop (j + 1) hops))

  module _ (T : ℕ) (ready : Ready T hops (length hops)) where
    later_ready : (j : ℕ) → AllReady T (drop j hops)
    later_ready j =
        subst (AllReady T) (take_all (length (drop j hops)) (drop j hops) (omega arith)) (all_ready T (drop j hops) (length (drop j hops)) (omega arith) (λ i l.
        subst (HopReady T) (sym (get_or-drop j hops i no_hop)) (ready.each (j + i) (omega (arith, length-drop j hops)))))

    -- no number passes that of seven later hops
    pub counts_small : (j : ℕ) (row : List ℕ) → Counts j row → SmallRow (hop_at hops j).frames row
    counts_small j row e k l =
        omega (
          arith,
          e k l,
          on_within T (hop_at hops j) (plain k) (drop (j + 1) hops) (later_ready (j + 1)) (omega (arith, length-drop (j + 1) hops, ready.few_hops)),
        )

    -- the last hop: one way on from each frame, that of going no further
    pub last_counts : (j : ℕ) → j + 1 ≡ length hops → Counts j (replicate 64 1)
    last_counts j e k l =
        let few : (hop_at hops j).frames ≤ 64 = (ready.each j (omega arith)).few_frames in
        get_or-replicate 64 k 1 0 (omega arith) ∙ sym (ap (λ (hs : List Hop). length (ways_on (hop_at hops j) (plain k) hs)) (drop_of_length-le hops {i = j + 1} (omega arith)))

    pub counts_entered : (j : ℕ) (row : List ℕ) → j < length hops → Counts j row → LeadsInto (hop_at hops (j - 1)) (hop_at hops j) row
    counts_entered j row l e =
        record { few_before = (ready.each (j - 1) (omega arith)).few_frames; ticks = T; ready = ready.each j l; small = counts_small j row e }

  -- a hop further back
  pub counts_before : (j : ℕ) (row ways : List ℕ) → 0 < j → j < length hops → (hop_at hops j).colours ≡ 1 → Counts j row
      → RowBefore (hop_at hops (j - 1)) (hop_at hops j) row (hop_at hops (j - 1)).frames ways → Counts (j - 1) ways
  counts_before j row ways p l one e b k m =
      b.each k m
      ∙ sum_cong h.frames (λ i. one_if (is_allowed g h (plain k) (plain i)) * get_or row i 0) (λ i. one_if (is_allowed g h (plain k) (plain i)) * length (ways_on h (plain i) later))
      (λ i q. ap (λ (x : ℕ). one_if (is_allowed g h (plain k) (plain i)) * x) (e i q))
      ∙ sym (plain_sum h (λ y. one_if (is_allowed g h (plain k) y) * length (ways_on h y later)) one)
      ∙ sym (on_ways g (plain k) h later)
      ∙ sym (ap (λ (hs : List Hop). length (ways_on g (plain k) hs)) (ap (λ (x : ℕ). drop x hops) on ∙ drop_more hops j no_hop l))
    where
      g : Hop
      g = hop_at hops (j - 1)

      h : Hop
      h = hop_at hops j

      later : List Hop
      later = drop (j + 1) hops

      on : j - 1 + 1 ≡ j
      on = omega arith

  -- hop 0: all ways on from its free frames
  pub counts_all : (row sums : List ℕ) → 0 < length hops → (hop_at hops 0).colours ≡ 1 → Counts 0 row → CycleSums (free_ways (get_or (hop_at hops 0).free 0 0) row) (hop_at hops 0).frames sums
      → get_or sums (hop_at hops 0).frames 0 ≡ route_ways hops
  unfolding is_free
  counts_all row sums l one e s =
      let h = hop_at hops 0 in
      s.0.each h.frames (omega arith)
      ∙ sum_cong h.frames (free_ways (get_or h.free 0 0) row) (λ k. one_if (is_free h (plain k)) * length (ways_on h (plain k) (drop 1 hops))) (λ k m. ap (λ (x : ℕ). one_if (is_free h (plain k)) * x) (e k m))
      ∙ sym (plain_sum h (λ y. one_if (is_free h y) * length (ways_on h y (drop 1 hops))) one)
      ∙ sym (all_ways h (drop 1 hops))
      ∙ ap route_ways (sym (drop_more hops 0 no_hop l))
