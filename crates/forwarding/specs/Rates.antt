-- The reference frame at equal rates and where rates change, that it waits for the whole frame
-- (W-201), and how long the least hold waits (W-206). Assumes nothing.
use Rattle.std.specs.Prelude.{◌≡◌, ℕ, ◌+◌, ◌-◌, ◌*◌, ◌/◌, ◌<◌, ◌≤◌}
use Rattle.forwarding.specs.declared.Hop.{Hop}
use Rattle.forwarding.specs.Forwarding.{reference, reference_into, least_hold, hold_into, Spot, is_free, is_allowed, frame_time, delay}
use Rattle.forwarding.specs.Hops.{HopReady}

-- F-i of source document 002, equal rates: the frame of the same number
abbrev pub SameRate : Type 0
SameRate = (k K : ℕ) → 0 < K → reference k K K ≡ k

-- W-201 in the place of F-ii, from slow to fast: the last of the m frames that the frame covers
abbrev pub ToFaster : Type 0
ToFaster = (k m K' : ℕ) → 0 < K' → 0 < m → reference k (m * K') K' ≡ (k + 1) * m - 1

-- F-iii, from fast to slow: the frame that covers it
abbrev pub ToSlower : Type 0
ToSlower = (k m K : ℕ) → 0 < K → reference k K (m * K) ≡ k / m

-- "slow to fast moves later": document 01 named the first of the m frames
abbrev pub ToFasterLater : Type 0
ToFasterLater = (k m K' : ℕ) → 0 < K' → 1 < m → k * m < reference k (m * K') K'

-- NO REFERENCE FRAME COMES EARLIER than by document 01, whatever the rates
abbrev pub NeverEarlier : Type 0
NeverEarlier = (k K K' : ℕ) → 0 < K → 0 < K' → k * K / K' ≤ reference k K K'

-- "The new switches send nothing of a frame before its last bit has arrived": frame k of the hop g
-- ends at tick (k + 1) × T / K', and frame i of the hop h begins no earlier after a hold of 1 or
-- more. After a hold of 0 (W-206) it begins before
abbrev pub WholeFrame : Type 0
WholeFrame = (T : ℕ) (g h : Hop) (k : ℕ) → HopReady T g → HopReady T h → (i : ℕ) → 0 < hold_into g h k i
    → (k + 1) * frame_time T g.frames ≤ (reference_into g h k + hold_into g h k i) * frame_time T h.frames

-- and it waits no longer than it must: the last bit arrives after the reference frame begins, so
-- the next frame is the first that begins no earlier
abbrev pub NotYetWhole : Type 0
NotYetWhole = (T : ℕ) (g h : Hop) (k : ℕ) → HopReady T g → HopReady T h → 0 < T
    → reference_into g h k * frame_time T h.frames < (k + 1) * frame_time T g.frames

-- "Some switches need two frames to turn round, those of source document 000 none" (W-206): a hold
-- has at least Y frames, and frame i ends at least that many frame times after frame k ends
abbrev pub TurnsRound : Type 0
TurnsRound = (T : ℕ) (g h : Hop) (k : ℕ) → HopReady T g → HopReady T h → (i : ℕ)
    → (least_hold h ≤ hold_into g h k i)
    × ((k + 1) * frame_time T g.frames + hold_into g h k i * frame_time T h.frames ≤ (reference_into g h k + hold_into g h k i + 1) * frame_time T h.frames)

-- WITH Y 0 THE SAME FRAME NUMBER, between links of one rate, IS A HOLD OF 0 AND A DELAY OF 0,
-- allowed in the same colour where the frame is free
abbrev pub SameFrame : Type 0
SameFrame = (T : ℕ) (g h : Hop) (x : Spot) → HopReady T h → g.frames ≡ h.frames → x.frame < h.frames → least_hold h ≡ 0
    → (hold_into g h x.frame x.frame ≡ 0) × (delay T h.frames (hold_into g h x.frame x.frame) ≡ 0) × (is_allowed g h x x ≡ is_free h x)
