-- W-202, "Cycle numbers written out": the cycle of each hop of a schedule, in which its frame lies,
-- and what W-206 says of every later hop. Assumes nothing.
use Rattle.std.specs.Prelude.{◌≡◌, cond, List, [], ◌∷◌, ℕ, suc, ◌+◌, ◌*◌, ◌<◌, ◌≤◌, ltb, length, get_or}
use Rattle.forwarding.specs.declared.Hop.{Hop}
use Rattle.forwarding.specs.Forwarding.{Spot, reference_into, IsHold, hold_into, frame_time}
use Rattle.forwarding.specs.Hops.{no_hop, AllReady}
use Rattle.forwarding.specs.Schedule.{frames_of, IsSchedule}

-- "If the hop before lies at frame k of cycle c, the next has cycle c when r + D is below K, else
-- c + 1": from the hop g to frame i of the hop h
unfoldable pub next_cycle : Hop → Hop → ℕ → ℕ → ℕ → ℕ
next_cycle g h k i c = cond (ltb (reference_into g h k + hold_into g h k i) h.frames) c (c + 1)

-- a hold of 0 (W-206) stays in the cycle: r + 0 is below K
abbrev pub NoneStays : Type 0
NoneStays = (g h : Hop) (k i c : ℕ) → 0 < h.frames → k < g.frames → hold_into g h k i ≡ 0 → next_cycle g h k i c ≡ c

-- the cycles of the later hops, from frame k of the hop g in cycle c on
abbrev pub onward_cycles : Hop → ℕ → ℕ → List Hop → List ℕ → List ℕ
onward_cycles g k c [] is = []
onward_cycles g k c (h ∷ hs) [] = []
onward_cycles g k c (h ∷ hs) (i ∷ is) = next_cycle g h k i c ∷ onward_cycles h i (next_cycle g h k i c) hs is

-- THE CYCLES OF A SCHEDULE by its frames, one for each hop: "Hop 0 has cycle 0"
abbrev pub schedule_cycles : List Hop → List ℕ → List ℕ
schedule_cycles [] fs = []
schedule_cycles (h ∷ hs) [] = []
schedule_cycles (h ∷ hs) (k ∷ is) = 0 ∷ onward_cycles h k 0 hs is

-- "a cycle number per hop"
abbrev pub CyclePerHop : Type 0
CyclePerHop = (hops : List Hop) (xs : List Spot) → IsSchedule hops xs → length (schedule_cycles hops (frames_of xs)) ≡ length hops

-- ---- P of every later hop h and the hop g before it, with frames i and k, cycles d and c
abbrev pub LaterHop : (Hop → Hop → ℕ → ℕ → ℕ → ℕ → Type 0) → List Hop → List ℕ → List ℕ → Type 0
LaterHop P hops fs cs = (j : ℕ) → suc j < length hops
    → P (get_or hops j no_hop) (get_or hops (suc j) no_hop) (get_or fs j 0) (get_or fs (suc j) 0) (get_or cs j 0) (get_or cs (suc j) 0)

-- the frame is led to by a number from Y up to Z that fits
abbrev pub Keeps : Hop → Hop → ℕ → ℕ → ℕ → ℕ → Type 0
Keeps g h k i c d = IsHold h (reference_into g h k) i (hold_into g h k i)

-- EVERY SCHEDULE KEEPS Y, at every later hop: "A rival schedule keeps Y too" (W-206)
abbrev pub SchedulesKeep : Type 0
SchedulesKeep = (T : ℕ) (hops : List Hop) (xs : List Spot) → AllReady T hops → IsSchedule hops xs → LaterHop Keeps hops (frames_of xs) (schedule_cycles hops (frames_of xs))

-- counted in frames of its link, frame i of cycle d comes r + D frames after cycle c begins
abbrev pub Lies : Hop → Hop → ℕ → ℕ → ℕ → ℕ → Type 0
Lies g h k i c d = d * h.frames + i ≡ c * h.frames + (reference_into g h k + hold_into g h k i)

-- THE CYCLE IS THE ONE IN WHICH THE FRAME LIES
abbrev pub CyclesLie : Type 0
CyclesLie = (T : ℕ) (hops : List Hop) (xs : List Spot) → AllReady T hops → IsSchedule hops xs → LaterHop Lies hops (frames_of xs) (schedule_cycles hops (frames_of xs))

-- the tick at which frame i of cycle c of a hop begins, from the beginning of cycle 0 on
abbrev pub begins_at : ℕ → Hop → ℕ → ℕ → ℕ
begins_at T h c i = (c * h.frames + i) * frame_time T h.frames

-- a frame ends at least D frame times after the preceding hop's frame, D being its hold; so with
-- D ≥ 1 it begins no earlier than that frame ends
abbrev pub Follows : ℕ → Hop → Hop → ℕ → ℕ → ℕ → ℕ → Type 0
Follows T g h k i c d = begins_at T g c (k + 1) + hold_into g h k i * frame_time T h.frames ≤ begins_at T h d (i + 1)

-- EACH FRAME IN ITS CYCLE COMES ITS HOLD AFTER THE ONE BEFORE, over all cycles: "send nothing of a
-- frame before its last bit has arrived" (W-201), "need two frames to turn round" (W-206)
abbrev pub CyclesFollow : Type 0
CyclesFollow = (T : ℕ) (hops : List Hop) (xs : List Spot) → AllReady T hops → IsSchedule hops xs → LaterHop (Follows T) hops (frames_of xs) (schedule_cycles hops (frames_of xs))

-- a hop's cycle is not below that of the hop before
abbrev pub NotBelow : Hop → Hop → ℕ → ℕ → ℕ → ℕ → Type 0
NotBelow g h k i c d = c ≤ d

-- CYCLES NEVER FALL along a route
abbrev pub CyclesNeverFall : Type 0
CyclesNeverFall = (hops : List Hop) (xs : List Spot) → IsSchedule hops xs → LaterHop NotBelow hops (frames_of xs) (schedule_cycles hops (frames_of xs))

-- AND HOP j'S IS AT MOST j, so that of eight hops each has one digit
abbrev pub CyclesBounded : Type 0
CyclesBounded = (hops : List Hop) (fs : List ℕ) (j : ℕ) → get_or (schedule_cycles hops fs) j 0 ≤ j
