-- What a schedule gives and a session holds, all in one place: a field that is added later stands here, with the rule that gives it. Assumes nothing.
use Rattle.std.specs.Prelude.{◌≡◌, Bool, ◌&&◌, List, [], ℕ, ◌≤◌, length, eqb}
use Rattle.places.specs.Places.{firsts}
use Rattle.forwarding.specs.declared.Hop.{Hop}
use Rattle.forwarding.specs.declared.Held.{Held}
use Rattle.forwarding.specs.Forwarding.{Spot}
use Rattle.forwarding.specs.Schedule.{frames_of, colours_of, in_colours, IsSchedule}
use Rattle.forwarding.specs.Cycles.{schedule_cycles}
use Rattle.ledger.specs.Lists.{same_list}

-- what is held: "its answer's frames and delay", hop 0 first; W-202: "Session, answer and lookup gain a cycle number per hop"
pub record Holding : Type 0 where
  pub frames : List ℕ
  pub cycles : List ℕ
  pub delay : ℕ
  -- a colour for each hop (W-211)
  pub colours : List ℕ

-- what a refused call holds
abbrev pub no_holding : Holding
no_holding = record { frames = []; cycles = []; delay = 0; colours = [] }

-- what a schedule over hops holds, from its delay and its frames in their colours; the cycles are those of the frames
unfoldable pub held_over : List Hop → ℕ → List Spot → Holding
held_over hops delay xs = record { frames = frames_of xs; cycles = schedule_cycles hops (frames_of xs); delay = delay; colours = colours_of xs }

-- and back: the frames in their colours of what is held
unfoldable pub spots_in : Holding → List Spot
spots_in held = in_colours held.frames held.colours

-- the same in every field
unfoldable pub same_held : Holding → Holding → Bool
same_held a b = same_list eqb a.frames b.frames && (same_list eqb a.cycles b.cycles && (eqb a.delay b.delay && same_list eqb a.colours b.colours))

-- WHAT A SCHEDULE HOLDS TELLS ITS FRAMES IN THEIR COLOURS
abbrev pub SpotsHeld : Type 0
SpotsHeld = (hops : List Hop) (delay : ℕ) (xs : List Spot) → spots_in (held_over hops delay xs) ≡ xs

-- ---- in eight places
-- what the first n of them hold
abbrev pub holding_of : ℕ → Held → Holding
holding_of n h = record { frames = firsts n h.frames 0; cycles = firsts n h.cycles 0; delay = h.delay.0; colours = firsts n h.colours 0 }

-- as an answer has it: "unused hop and link places hold 0"
abbrev pub held_places : Holding → Held
held_places h = record { frames = firsts 8 h.frames 0; cycles = firsts 8 h.cycles 0; delay = record { 0 = h.delay }; colours = firsts 8 h.colours 0 }

-- WHAT A SCHEDULE HOLDS, LAID INTO EIGHT PLACES AND READ BACK, IS THE SAME
abbrev pub HeldStored : Type 0
HeldStored = (hops : List Hop) (delay : ℕ) (xs : List Spot) → IsSchedule hops xs → length hops ≤ 8
    → holding_of (length hops) (held_places (held_over hops delay xs)) ≡ held_over hops delay xs
