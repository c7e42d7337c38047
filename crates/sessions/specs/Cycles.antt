-- W-202 at the calls: the cycles of an answer and of a lookup are those of the frames beside them. Assumes nothing.
use Rattle.std.specs.Prelude.{◌≡◌, List, [], ℕ, Ok, ◌<◌, ◌≤◌, length, get_or}
use Rattle.places.specs.Places.{firsts}
use Rattle.network.specs.Network.{Topology, topology_of}
use Rattle.forwarding.specs.declared.Held.{Held}
use Rattle.forwarding.specs.Cycles.{schedule_cycles, LaterHop, Keeps, Lies, Follows, NotBelow}
use Rattle.ledger.specs.Sessions.{hops_of}
use Rattle.ledger.specs.Calls.{Call, links_of}
use Rattle.state.specs.declared.State.{State}
use Rattle.state.specs.declared.Quoted.{Quoted}
use Rattle.state.specs.declared.Served.{Served}
use Rattle.state.specs.State.{Serves}
use Rattle.sessions.specs.declared.Shown.{Shown}
use Rattle.sessions.specs.Calls.{Looks}

-- beside the frames of a route's links stand their cycles, "unused hop and link places hold 0"; each frame is led to by a number from Y up to Z that fits, lies in its cycle,
-- and ends as many of its frames as its hold has, or more, after the one on the hop before has ended; cycles never fall, and hop j's is at most j
pub record CyclesBeside (net : Topology) (route : List ℕ) (h : Held) : Type 0 where
  pub cycles : h.cycles ≡ firsts 8 (schedule_cycles (hops_of net [] route) (firsts (length route) h.frames 0)) 0
  pub keep : LaterHop Keeps (hops_of net [] route) h.frames h.cycles
  pub lie : LaterHop Lies (hops_of net [] route) h.frames h.cycles
  pub follow : LaterHop (Follows net.ticks) (hops_of net [] route) h.frames h.cycles
  pub never_fall : LaterHop NotBelow (hops_of net [] route) h.frames h.cycles
  pub bounded : (j : ℕ) → j < length route → get_or h.cycles j 0 ≤ j

-- A LOOKUP SHOWS THE CYCLES OF THE FRAMES SHOWN, on every state, whoever built it
abbrev pub LookupCycles : Type 0
LookupCycles = (st : State) (n : ℕ) (q : Served Shown) → Looks st n q → (s : Shown) → q.answer ≡ Ok s
    → CyclesBeside (topology_of st.network) (firsts s.hops s.route 0) s.held

-- AN ANSWER THAT IS A SCHEDULE GIVES THE CYCLES OF ITS FRAMES, of a set-up and of a quote, on every state
abbrev pub AnswerCycles : Type 0
AnswerCycles = (st : State) (call : Call) (r : Served Quoted) → Serves st call r → (q : Quoted) → r.answer ≡ Ok q
    → CyclesBeside (topology_of st.network) (links_of call) q.held
