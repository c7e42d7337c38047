-- Document 01, "Forwarding", W-201, W-206 and W-211: the reference frame, the hold, the delay, the
-- change of colour, and which transitions are allowed. Assumes nothing.
use Rattle.std.specs.Prelude.{◌≡◌, Bool, true, ◌&&◌, ◌↔◌, ℕ, ◌+◌, ◌-◌, ◌*◌, ◌/◌, ◌%◌, ◌<◌, ◌≤◌, leb, get_or}
use Rattle.words.specs.Word.{bit_of}
use Rattle.forwarding.specs.declared.Hop.{Hop}
use Rattle.forwarding.specs.Hops.{HopReady}

-- the reference frame of frame k of a link with K' frames on a link with K:
-- "floor(((k + 1) × K − 1) / K')" (W-201)
unfoldable pub reference : ℕ → ℕ → ℕ → ℕ
reference k K K' = ((k + 1) * K - 1) / K'

-- the reference frame, on the hop h, of frame k of the hop g before it
unfoldable pub reference_into : Hop → Hop → ℕ → ℕ
reference_into g h k = reference k h.frames g.frames

-- the least hold into a hop: "Each link gets a least hold Y" (W-206)
unfoldable pub least_hold : Hop → ℕ
least_hold h = h.least

-- D is a hold into the hop h, from the reference frame r to the frame i: a "number from Y up to Z
-- that fits" (W-206), that is one "with (r + D) mod K = i"
pub record IsHold (h : Hop) (r i D : ℕ) : Type 0 where
  pub least : least_hold h ≤ D
  pub most : D ≤ h.range
  pub fits : (r + D) % h.frames ≡ i

-- the distance from the frame a on to the frame i, modulo a cycle of K frames
unfoldable pub gap : ℕ → ℕ → ℕ → ℕ
gap K a i = (i + K - a) % K

-- the hold as a formula, Y being the least hold; `HoldOnly` states what it is
unfoldable pub hold : ℕ → ℕ → ℕ → ℕ → ℕ
hold Y K r i = Y + gap K ((r + Y) % K) i

-- the hold from frame k of the hop g to frame i of the hop h after it
unfoldable pub hold_into : Hop → Hop → ℕ → ℕ → ℕ
hold_into g h k i = hold (least_hold h) h.frames (reference_into g h k) i

-- the hold's range: "D is at most that link's Z"
unfoldable pub may_hold : Hop → ℕ → Bool
may_hold h D = leb D h.range

-- "The hold is the one number from Y up to Z that fits, if there is one" (W-206), on every hop that
-- passes its checks: A NUMBER FITS EXACTLY WHEN IT IS THE HOLD, AND THE HOLD IS WITHIN ITS RANGE
abbrev pub HoldOnly : Type 0
HoldOnly = (T : ℕ) (h : Hop) (r i : ℕ) → HopReady T h → i < h.frames
    → (D : ℕ) → IsHold h r i D ↔ ((D ≡ hold (least_hold h) h.frames r i) × (may_hold h D ≡ true))

-- why check 21: with Y 0 and Z equal to K both 0 and K fit from a frame to itself
abbrev pub TwoFit : Type 0
TwoFit = (h : Hop) (r : ℕ) → r < h.frames → least_hold h ≡ 0 → h.range ≡ h.frames → IsHold h r r 0 × IsHold h r r h.frames

-- a frame in a colour: "Frames are held per colour" (W-211)
pub record Spot : Type 0 where
  pub frame : ℕ
  pub colour : ℕ

-- a hop has the spot: its frame is below K, its colour below C ("numbered from 0", W-211)
abbrev pub IsOn : Hop → Spot → Type 0
IsOn h x = (x.frame < h.frames) × (x.colour < h.colours)

-- the spot is free: "Written as a word, bit i stands for a free frame i", a word for each colour
unfoldable pub is_free : Hop → Spot → Bool
is_free h x = bit_of (get_or h.free x.colour 0) x.frame

-- "Entering a link, colour may change by at most its R" (W-211): from colour c to colour d of the
-- hop h entered
abbrev pub MayTurn : Hop → ℕ → ℕ → Type 0
MayTurn h c d = (c ≤ d + h.turn) × (d ≤ c + h.turn)

-- the same as a test
unfoldable pub may_turn : Hop → ℕ → ℕ → Bool
may_turn h c d = leb c (d + h.turn) && leb d (c + h.turn)

-- from x on the hop g to y on the hop h: "The transition is allowed when D is at most that link's Z
-- and i is free", and the colour changes by at most that link's R
abbrev pub is_allowed : Hop → Hop → Spot → Spot → Bool
is_allowed g h x y = may_hold h (hold_into g h x.frame y.frame) && (may_turn h x.colour y.colour && is_free h y)

-- ALLOWED EXACTLY WHERE A NUMBER FITS, the colour may change so, and the spot is free
abbrev pub AllowedWhere : Type 0
AllowedWhere = (T : ℕ) (g h : Hop) (x y : Spot) → HopReady T h → y.frame < h.frames
    → (is_allowed g h x y ≡ true) ↔ (((D : ℕ) × IsHold h (reference_into g h x.frame) y.frame D) × MayTurn h x.colour y.colour × (is_free h y ≡ true))

-- the most colours that one colour leads to: "2R + 1" (W-211)
unfoldable pub turn_choices : Hop → ℕ
turn_choices h = 2 * h.turn + 1

-- the number of holds into a hop: "Z − Y + 1" (W-206)
unfoldable pub choices : Hop → ℕ
choices h = h.range - least_hold h + 1

-- Z, where Y has its absent value, 1
abbrev pub ChoicesAreZ : Type 0
ChoicesAreZ = (h : Hop) → least_hold h ≡ 1 → 0 < h.range → choices h ≡ h.range

-- a frame's time: "A frame lasts T/K ticks"
unfoldable pub frame_time : ℕ → ℕ → ℕ
frame_time T K = T / K

-- the delay in ticks of a hold of D frames of a link with K: "Its delay is D × T / K"
unfoldable pub delay : ℕ → ℕ → ℕ → ℕ
delay T K D = D * T / K

-- the delay d of a hold D by a frame's time: the rule's delay on every link with that frame time
-- whose K divides T (check 7)
pub record IsDelay (D time d : ℕ) : Type 0 where
  pub product : d ≡ D * time
  pub ruled : (T K : ℕ) → 0 < K → T % K ≡ 0 → time ≡ frame_time T K → d ≡ delay T K D
