-- What the calls on every state promise. Assumes nothing.
use Rattle.std.specs.Prelude.{◌≡◌, ℕ, ⊤, Result, Ok, Err, length, replicate}
use Rattle.places.specs.Places.{firsts}
use Rattle.refusals.specs.Refusals.{refusal_number, Ruling, Outcome, given, refused, ruling}
use Rattle.refusals.specs.declared.Refusal.{Refusal}
use Rattle.network.specs.Network.{topology_of}
use Rattle.network.specs.Checks.{network_check}
use Rattle.network.specs.declared.Network.{Network}
use Rattle.ledger.specs.Held.{held_places}
use Rattle.ledger.specs.Sessions.{Session}
use Rattle.ledger.specs.Calls.{lookup, free_count}
use Rattle.state.specs.declared.State.{State}
use Rattle.state.specs.declared.Served.{Served}
use Rattle.state.specs.State.{view_of, fresh_state}
use Rattle.sessions.specs.declared.Shown.{Shown}

-- ---- `begin`
-- a network that passes its checks and on which nothing can be held: one link of one frame, which is closed
abbrev pub shut_network : Network
shut_network = record { ticks = 1; count = 1; links = replicate 32 record { frames = 1; range = 1; least = 1; closed = 1 } }

-- "Sessions are begun only on a network that passed": on the network itself, or where it is refused on that one
abbrev pub begun_on : Ruling → Network → Network
begun_on (given p) net = net
begun_on (refused n) net = shut_network

-- the network's checks, and a state that holds no sessions
pub record Begins (net : Network) (r : Served ⊤) : Type 0 where
  pub answer : ruling r.answer ≡ network_check (topology_of net)
  pub state : r.state ≡ fresh_state (begun_on (network_check (topology_of net)) net)

-- ---- calls that leave the very same state
-- the program's answer is the rule's: what is given, as the program says it, or a refusal with the rule's number
abbrev pub Tells : {A B : Type 0} → (A → B) → Outcome A → Result B Refusal → Type 0
Tells of (given a) q = q ≡ Ok (of a)
Tells of (refused n) q = (r : Refusal) × (refusal_number r ≡ n) × (q ≡ Err r)

-- ---- lookup
-- a session's route, frames, cycles and delay: "unused hop and link places hold 0"
abbrev pub shown_of : Session → Shown
shown_of s = record { hops = length s.route; route = firsts 8 s.route 0; held = held_places s.held }

-- a lookup, and the very same state
pub record Looks (st : State) (number : ℕ) (r : Served Shown) : Type 0 where
  pub shown : Tells shown_of (lookup (view_of st) number) r.answer
  pub same : r.state ≡ st

-- ---- free frames
-- the free frames of a link, and the very same state
pub record Tallies (st : State) (link : ℕ) (r : Served ℕ) : Type 0 where
  pub counted : Tells (λ (n : ℕ). n) (free_count (view_of st) link) r.answer
  pub same : r.state ≡ st
