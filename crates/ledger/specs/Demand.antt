-- Demand 3, in its own words and those of document 01: one statement about a whole list of calls from a fresh network. Assumes nothing.
use Rattle.std.specs.Prelude.{◌≡◌, true, false, ◌↔◌, ℕ, ◌+◌, ◌<◌, length, get_or}
use mathlib.Core.List.{List, [], ◌∷◌, ◌++◌, map, Memᴰ}
use Rattle.lists.specs.Once.{EachOnce}
use Rattle.trellis.specs.Answer.{found, blocked}
use Rattle.refusals.specs.Refusals.{given, refused, pass}
use Rattle.network.specs.Network.{Topology}
use Rattle.network.specs.Checks.{network_check}
use Rattle.forwarding.specs.declared.Hop.{Hop}
use Rattle.forwarding.specs.Forwarding.{Spot}
use Rattle.forwarding.specs.Schedule.{IsSchedule, CountOf}
use Rattle.forwarding.specs.Cycles.{schedule_cycles}
use Rattle.forwarding.specs.Route.{route_answer}
use Rattle.forwarding.specs.LeastDelay.{Given}
use Rattle.ledger.specs.Lists.{any_of}
use Rattle.ledger.specs.Held.{held_over}
use Rattle.ledger.specs.Sessions.{Session, View, Slot, holds, is_live, hops_of}
use Rattle.ledger.specs.Sound.{intact}
use Rattle.ledger.specs.Calls.{Call, SetUp, Quote, Release, Reply, schedule, freed, refusal, call_check, reply, next, lookup}
use Rattle.ledger.specs.Ledger.{AnsweredCall, did, call_of, ledger, accepted_set_up, accepted_release, accepted_release_of, count_steps}

-- "A fresh network is any that has passed its checks, and it holds no sessions"
abbrev pub fresh : Topology → View
fresh net = record { network = net; live = [] }

-- A FRESH NETWORK ISN'T BROKEN
abbrev pub FreshIntact : Type 0
FreshIntact = (net : Topology) → network_check net ≡ given pass → intact (fresh net) ≡ true

-- session n is live and holds the frame: "A session is live there when lookup gives it, and it holds the frames shown"
pub record HoldsSlot (v : View) (n : ℕ) (x : Slot) : Type 0 where
  pub session : Session
  pub shown : lookup v n ≡ given session
  pub named : holds x session ≡ true

-- "an accepted set-up's answer named it and no later release of that number was accepted"; the set-up, with what its answer gave, is the entry
pub record NamedAndKept (steps : List AnsweredCall) (x : Slot) : Type 0 where
  pub entry : Session
  pub count : ℕ
  pub before : List AnsweredCall
  pub later : List AnsweredCall
  pub accepted : steps ≡ before ++ (did (SetUp entry.number entry.route) (schedule entry.held count) ∷ later)
  pub named : holds x entry ≡ true
  pub kept : any_of (accepted_release_of entry.number) later ≡ false

-- the numbers of the live sessions, each once, "live ... when lookup gives it"
pub record LiveNumbers (v : View) (ns : List ℕ) : Type 0 where
  pub once : EachOnce ns
  pub live : (n : ℕ) → Memᴰ n ns ↔ ((s : Session) × (lookup v n ≡ given s))

-- the answer over hops: the rule's answer, and in so many words a schedule of least delay, with its delay and count, or "refused as blocked
-- exactly when there was none", with the count
pub data LeastOrBlocked (T : ℕ) (hops : List Hop) : Reply → Type 0 where
  least : (d count : ℕ) (w : List Spot) → route_answer T hops ≡ found d count w → Given T hops d count w → LeastOrBlocked T hops (schedule (held_over hops d w) count)
  no_schedule : (count : ℕ) → route_answer T hops ≡ blocked count → CountOf hops count → ((xs : List Spot) → IsSchedule hops xs → ⊥) → LeastOrBlocked T hops (refusal 18 count)

-- what is due to a call that no check refused
abbrev pub Due : Topology → List Session → Call → Reply → Type 0
Due net ss (SetUp n route) r = LeastOrBlocked net.ticks (hops_of net ss route) r
Due net ss (Quote route) r = LeastOrBlocked net.ticks (hops_of net ss route) r
Due net ss (Release n) r = r ≡ freed

-- a call's answer is right against the ledger ss before it: "every other check refuses exactly under its condition", never 0, and what no
-- check refused gets what is due over the frames that are then free
pub record Right (net : Topology) (ss : List Session) (call : Call) (r : Reply) : Type 0 where
  pub other : (k : ℕ) → call_check net ss call ≡ refused k → r ≡ refusal k 0
  pub only : (k count : ℕ) → r ≡ refusal k count → (k ≡ 18 → ⊥) → call_check net ss call ≡ refused k
  pub blocked : (count : ℕ) → r ≡ refusal 18 count → call_check net ss call ≡ given pass
  pub unbroken : (count : ℕ) → r ≡ refusal 0 count → ⊥
  pub due : call_check net ss call ≡ given pass → Due net ss call r

-- DEMAND 3, of the calls with their answers on the fresh network `net`; v is what the state after them shows
pub record Demand3 (net : Topology) (v : View) (steps : List AnsweredCall) : Type 0 where
  -- "a frame is held exactly when an accepted set-up's answer named it and no later release of that number was accepted"
  pub held : (x : Slot) → ((n : ℕ) × HoldsSlot v n x) ↔ NamedAndKept steps x
  -- "a held frame has exactly one live session"
  pub one_holder : (x : Slot) (n m : ℕ) → HoldsSlot v n x → HoldsSlot v m x → n ≡ m
  -- "accepted set-ups = live sessions + accepted releases"
  pub numbers : List ℕ
  pub live : LiveNumbers v numbers
  pub balance : count_steps accepted_set_up steps ≡ length numbers + count_steps accepted_release steps
  -- "every set-up or quote that no other check refused got a least schedule over the frames then free, or was refused as blocked exactly when
  -- there was none"; "every other check refuses exactly under its condition, in the order of the refusal list"
  pub answers : (before : List AnsweredCall) (call : Call) (r : Reply) (later : List AnsweredCall) → steps ≡ before ++ (did call r ∷ later)
      → Right net (ledger before) call r
  -- "lookup gives each entry's route, frames and delay for its number, and 19 for every number without an entry"
  pub entry_shown : (e : Session) → Memᴰ e (ledger steps) → lookup v e.number ≡ given e
  pub none_shown : (n : ℕ) → is_live n (ledger steps) ≡ false → lookup v n ≡ refused 19
  -- W-202: "Over a history of calls, what lookup shows as cycles must be those of the frames shown"
  pub cycles_shown : (n : ℕ) (s : Session) → lookup v n ≡ given s → s.held.cycles ≡ schedule_cycles (hops_of net [] s.route) s.held.frames
  -- "No frame stands in two entries"
  pub one_entry : (x : Slot) (j k : ℕ) (d : Session) → j < k → k < length (ledger steps)
      → holds x (get_or (ledger steps) j d) ≡ true → holds x (get_or (ledger steps) k d) ≡ true → ⊥
  -- a list of calls leaves the network as it is
  pub network : v.network ≡ net

-- the views that calls leave, one after the other, each call answered on the view that the one before it left
pub data Runs : View → List AnsweredCall → View → Type 0 where
  over : {v : View} → Runs v [] v
  call_then : {v last : View} {steps : List AnsweredCall} (call : Call) → Runs (next v call) steps last → Runs v (did call (reply v call) ∷ steps) last

-- DEMAND 3, for every list of set-ups, quotes and releases, refused ones included, from a fresh network
abbrev pub Demand3Holds : Type 0
Demand3Holds = (net : Topology) → network_check net ≡ given pass → (steps : List AnsweredCall) (v : View) → Runs (fresh net) steps v → Demand3 net v steps

-- the steps of a list of calls, from a view on
pub record Stepped (v : View) (calls : List Call) : Type 0 where
  pub steps : List AnsweredCall
  pub last : View
  pub runs : Runs v steps last
  pub same : map call_of steps ≡ calls

-- EVERY LIST OF CALLS HAS ITS STEPS: demand 3 speaks of each, "whatever its calls, their order and their arguments"
abbrev pub EveryListStepped : Type 0
EveryListStepped = (v : View) (calls : List Call) → Stepped v calls
