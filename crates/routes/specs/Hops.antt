-- The hops of a route from stored values, and what a walk over frames says. Assumes nothing.
use Rattle.std.specs.Prelude.{◌≡◌, cond, List, map, ◌↔◌, ℕ, ◌<◌, ◌≤◌, length, get_or, Option, Some, None}
use Rattle.std.proofs.Math.Option.{some, none}
use Rattle.std.proofs.Math.Option as math
use Rattle.places.specs.Places.{firsts}
use Rattle.refusals.specs.Refusals.{given, pass}
use Rattle.words.specs.Word.{free_word}
use Rattle.words.specs.Bank.{bank_at}
use Rattle.network.specs.Network.{Topology, no_link}
use Rattle.network.specs.Checks.{network_check}
use Rattle.network.specs.declared.Link.{Link}
use Rattle.forwarding.specs.declared.Hop.{Hop}
use Rattle.forwarding.specs.declared.Delay.{Delay}
use Rattle.forwarding.specs.Forwarding.{Spot, IsHold, hold}
use Rattle.forwarding.specs.Hops.{blank_hop, Ready}
use Rattle.forwarding.specs.Schedule.{is_schedule, schedule_delay}
use Rattle.ledger.specs.Sessions.{Session, link_at, link_colours, link_turn, by_colour, hop_of, hops_of}
use Rattle.ledger.specs.Routes.{route_check}

-- the free frames of link l in colour c, by the bank of held frames
abbrev pub free_in : Link → ℕ → List ℕ → ℕ → ℕ
free_in k l held c = free_word k.frames k.closed (get_or held (bank_at l c) 0)

-- a word for each of its colours
abbrev pub free_from : Link → ℕ → List ℕ → List ℕ
free_from k l held = by_colour (link_colours k) (free_in k l held)

-- link l as a hop, by the bank of held frames
abbrev pub hop_from : Link → ℕ → List ℕ → Hop
hop_from k l held =
    record {
      frames = k.frames;
      range = k.range;
      least = k.least;
      colours = link_colours k;
      turn = link_turn k;
      free = free_from k l held;
    }

-- the hops of a route, by the links of a network and the bank of held frames
abbrev pub hops_from : List Link → List ℕ → List ℕ → List Hop
hops_from links held route = map (λ l. hop_from (get_or links l no_link) l held) route

-- THE SEARCH OF A ROUTE THAT PASSED MAY BEGIN: its hops, laid into eight places, are what the search asks for
abbrev pub RouteReady : Type 0
RouteReady = (net : Topology) (ss : List Session) (route : List ℕ) → network_check net ≡ given pass → route_check net route ≡ given pass
    → Ready net.ticks (firsts 8 (hops_of net ss route) blank_hop) (length route)

-- AND LENT, as many hops as the route has links, as the search takes them
abbrev pub LentReady : Type 0
LentReady = (net : Topology) (ss : List Session) (route : List ℕ) → network_check net ≡ given pass → route_check net route ≡ given pass
    → Ready net.ticks (hops_of net ss route) (length (hops_of net ss route))

-- "The hold is the one number from Y up to Z that fits, if there is one" (W-206): SO ON EVERY LINK OF A NETWORK THAT PASSED ITS CHECKS, whatever is free
abbrev pub LinkHoldOnly : Type 0
LinkHoldOnly = (net : Topology) (ss : List Session) (l : ℕ) → network_check net ≡ given pass → l < length net.links → (r i : ℕ) → i < (link_at net l).frames
    → (D : ℕ) → IsHold (hop_of net ss l) r i D ↔ ((D ≡ hold (link_at net l).least (link_at net l).frames r i) × (D ≤ (link_at net l).range))

-- the delay of frames in their colours over hops, if they are a schedule
abbrev pub delay_if : ℕ → List Hop → List Spot → math.Option ℕ
delay_if T hops xs = cond (is_schedule hops xs) (some (schedule_delay T hops xs)) none

-- what a walk of the code says in these words
abbrev pub walked_delay : Option Delay → math.Option ℕ
walked_delay (Some d) = some d.0
walked_delay None = none
