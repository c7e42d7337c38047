-- Words of the contracts of inner functions, and of what callers show before a call. They are no part of what is promised: `walk` promises in the words of `specs/Hops`. Assumes nothing.
use Rattle.std.specs.Prelude.{◌≡◌, cond, ◌&&◌, List, ℕ, ◌<◌, ◌≤◌, get_or}
use Rattle.std.proofs.Math.Option.{Option, some, none}
use Rattle.forwarding.specs.declared.Hop.{Hop}
use Rattle.forwarding.specs.Forwarding.{Spot, least_hold, hold_into, is_allowed, delay}
use Rattle.forwarding.specs.Hops.{no_hop}
use Rattle.forwarding.specs.Schedule.{is_on}
use Rattle.routes.specs.declared.Spot as declared

-- a spot of the code, a frame in a colour, in the words of the rules
abbrev pub spot_of : declared.Spot → Spot
spot_of x = record { frame = x.frame; colour = x.colour }

-- the spot at place j of frames and their colours
pub record IsAt (frames colours : List ℕ) (j : ℕ) (x : declared.Spot) : Type 0 where
  pub frame : x.frame ≡ get_or frames j 0
  pub colour : x.colour ≡ get_or colours j 0

-- the delay of the transition from x on the hop g to y on the hop h after it, if it is one of its frames in one of its colours and allowed
unfoldable pub step_if : ℕ → Hop → Hop → Spot → Spot → Option ℕ
step_if T g h x y = cond (is_on h y && is_allowed g h x y) (some (delay T h.frames (hold_into g h x.frame y.frame))) none

-- the first n of eight places have a hop and a frame of it each; the least hold is within the cycle
pub record FramesLaid (hops : List Hop) (frames : List ℕ) (n : ℕ) : Type 0 where
  pub some_hop : 0 < n
  pub few_hops : n ≤ 8
  pub few_frames : (j : ℕ) → j < n → (get_or hops j no_hop).frames ≤ 64
  pub led : (j : ℕ) → j < n → least_hold (get_or hops j no_hop) ≤ (get_or hops j no_hop).frames
  pub inside : (j : ℕ) → j < n → get_or frames j 0 < (get_or hops j no_hop).frames
