-- Lists of calls on stored states: demand 3 at the calls, and what is said of a call whatever state it meets. Assumes nothing.
use Rattle.std.specs.Prelude.{◌≡◌, true, false, not, ◌&&◌, ℕ, ⊤, Ok, Err, length}
use mathlib.Core.List.{List, [], ◌∷◌, map, Memᴰ}
use Rattle.places.specs.Places.{firsts}
use Rattle.refusals.specs.Refusals.{refused}
use Rattle.refusals.specs.declared.Refusal.TheVariants.{NumberNotLive}
use Rattle.network.specs.Network.{Topology, topology_of}
use Rattle.network.specs.Checks.{network_check}
use Rattle.network.specs.declared.Network.{Network}
use Rattle.ledger.specs.Sessions.{Session, Slot, holds, held_in, is_live, hops_of}
use Rattle.ledger.specs.Sound.{intact}
use Rattle.ledger.specs.Calls.{Call, SetUp, Quote, Release, refusal}
use Rattle.ledger.specs.Ledger.{AnsweredCall, did, call_of, ledger}
use Rattle.ledger.specs.Demand.{Demand3, Runs}
use Rattle.state.specs.declared.State.{State}
use Rattle.state.specs.declared.Quoted.{Quoted}
use Rattle.state.specs.declared.Served.{Served}
use Rattle.state.specs.State.{view_of, quoted_in, released_in, Serves, Releases}
use Rattle.sessions.specs.declared.Shown.{Shown}
use Rattle.sessions.specs.Calls.{Begins, shown_of, Looks, Tallies}
use Rattle.sessions.specs.Cycles.{CyclesBeside}
use Rattle.sessions.specs.Ways.{Surveys}

-- a list of calls on stored states, each call meeting its contract on the state that the one before it returned: "After a refused call too, the
-- next gets the state that was returned"; the steps are the calls with their answers, as the program gave them
pub data StoredRun : State → List AnsweredCall → State → Type 0 where
  over : {st : State} → StoredRun st [] st
  set_up : {st last : State} {steps : List AnsweredCall} (number : ℕ) (route : List ℕ) (r : Served Quoted) → Serves st (SetUp number route) r
      → StoredRun r.state steps last → StoredRun st (did (SetUp number route) (quoted_in (length route) r.answer) ∷ steps) last
  quote : {st last : State} {steps : List AnsweredCall} (route : List ℕ) (r : Served Quoted) → Serves st (Quote route) r
      → StoredRun r.state steps last → StoredRun st (did (Quote route) (quoted_in (length route) r.answer) ∷ steps) last
  release : {st last : State} {steps : List AnsweredCall} (number : ℕ) (r : Served ⊤) → Releases st number r
      → StoredRun r.state steps last → StoredRun st (did (Release number) (released_in r.answer) ∷ steps) last

-- WHAT STORED STATES SHOW GOES BY THE RULES, call by call
abbrev pub StoredByRules : Type 0
StoredByRules = (st last : State) (steps : List AnsweredCall) → StoredRun st steps last → Runs (view_of st) steps (view_of last)

-- AFTER EVERY LIST OF CALLS FROM WHAT `begin` GAVE, on whatever network, THE STATE ISN'T BROKEN: "0 can only meet a caller that builds a state by hand"
abbrev pub BegunIntact : Type 0
BegunIntact = (network : Network) (r : Served ⊤) → Begins network r → (last : State) (steps : List AnsweredCall) → StoredRun r.state steps last
    → intact (view_of last) ≡ true

-- WHERE `begin` REFUSED THE NETWORK NOTHING IS EVER HELD: no list of calls on the state that it gave leaves a session
abbrev pub NothingHeld : Type 0
NothingHeld = (network : Network) (r : Served ⊤) (k : ℕ) → Begins network r → network_check (topology_of network) ≡ refused k
    → (last : State) (steps : List AnsweredCall) → StoredRun r.state steps last → (view_of last).live ≡ []

-- demand 3, and at the call `sessions::lookup`: "On the state after the list, lookup gives each entry's route, frames and delay for its number, and 19 for
-- every number without an entry"
pub record Demand3AtCalls (net : Topology) (last : State) (steps : List AnsweredCall) : Type 0 where
  pub rules : Demand3 net (view_of last) steps
  pub entry_shown : (e : Session) → Memᴰ e (ledger steps) → (r : Served Shown) → Looks last e.number r → r.answer ≡ Ok (shown_of e)
  pub none_shown : (n : ℕ) → is_live n (ledger steps) ≡ false → (r : Served Shown) → Looks last n r → r.answer ≡ Err NumberNotLive
  -- W-202: "Over a history of calls, what lookup shows as cycles must be those of the frames shown"
  pub cycles_shown : (n : ℕ) (r : Served Shown) → Looks last n r → (s : Shown) → r.answer ≡ Ok s → CyclesBeside net (firsts s.hops s.route 0) s.held

-- DEMAND 3 OF THE STORED STATES: on every network that `begin` gave a state on, and for every list of set-ups, quotes and releases, refused ones
-- included, on the states that the calls returned
abbrev pub StoredDemand3 : Type 0
StoredDemand3 = (network : Network) (r : Served ⊤) → Begins network r → (last : State) (steps : List AnsweredCall) → StoredRun r.state steps last
    → Demand3AtCalls (topology_of r.state.network) last steps

-- EACH CONTRACT CAN BE MET ON EVERY STATE, broken ones too
pub record CanBeMet (st : State) : Type 0 where
  pub set_up : (number : ℕ) (route : List ℕ) → (r : Served Quoted) × Serves st (SetUp number route) r
  pub quote : (route : List ℕ) → (r : Served Quoted) × Serves st (Quote route) r
  pub release : (number : ℕ) → (r : Served ⊤) × Releases st number r
  pub lookup : (number : ℕ) → (r : Served Shown) × Looks st number r
  pub free_frames_lem : (link : ℕ) → (r : Served ℕ) × Tallies st link r
  pub ways : (route : List ℕ) → (r : Served ℕ) × Surveys st route r

abbrev pub ContractsMet : Type 0
ContractsMet = (st : State) → CanBeMet st

-- AND SO CAN THAT OF `begin` ON EVERY NETWORK
abbrev pub BeginMet : Type 0
BeginMet = (network : Network) → (r : Served ⊤) × Begins network r

-- the steps of a list of calls, from a stored state on
pub record StoredSteps (st : State) (calls : List Call) : Type 0 where
  pub steps : List AnsweredCall
  pub last : State
  pub run : StoredRun st steps last
  pub same : map call_of steps ≡ calls

-- EVERY LIST OF CALLS HAS A RUN OF STORED STATES: demand 3 speaks of each, "whatever its calls, their order and their arguments"
abbrev pub EveryListStored : Type 0
EveryListStored = (st : State) (calls : List Call) → StoredSteps st calls

-- two stored states agree: lookup, the free frames and the number of ways answer the same on both, and so does every list of calls, whose last states show the same
pub record Agree (st other : State) : Type 0 where
  pub lookups : (n : ℕ) (r q : Served Shown) → Looks st n r → Looks other n q → r.answer ≡ q.answer
  pub counts : (l : ℕ) (r q : Served ℕ) → Tallies st l r → Tallies other l q → r.answer ≡ q.answer
  pub ways : (route : List ℕ) (r q : Served ℕ) → Surveys st route r → Surveys other route q → r.answer ≡ q.answer
  pub lists : (steps others : List AnsweredCall) (last end : State) → StoredRun st steps last → StoredRun other others end
      → map call_of steps ≡ map call_of others → (steps ≡ others) × (view_of last ≡ view_of end)

-- WHAT THE RULES LEAVE FREE IS FREE: "the inner arrangement of stored sessions, which is free so long as lookup and later answers agree". Free are the places
-- of the table past its live sessions and the places of a stored session past its hops; the order of the sessions is not, it is that of set-up. `view_of`
-- has none of these, and states that show the same agree
abbrev pub ArrangementFree : Type 0
ArrangementFree = (st other : State) → view_of st ≡ view_of other → Agree st other

-- A QUOTE, at the call: "Where 0 and 13 don't refuse, it depends on T, the route and those links' K, Z and free frames alone", and on Y (W-206)
abbrev pub StoredQuoteDepends : Type 0
StoredQuoteDepends = (st other : State) (route : List ℕ) (r q : Served Quoted) → Serves st (Quote route) r → Serves other (Quote route) q
    → (quoted_in (length route) r.answer ≡ refusal 0 0 → ⊥) → (quoted_in (length route) q.answer ≡ refusal 0 0 → ⊥)
    → (quoted_in (length route) r.answer ≡ refusal 13 0 → ⊥) → (quoted_in (length route) q.answer ≡ refusal 13 0 → ⊥)
    → (view_of st).network.ticks ≡ (view_of other).network.ticks
    → hops_of (view_of st).network (view_of st).live route ≡ hops_of (view_of other).network (view_of other).live route
    → r.answer ≡ q.answer

-- what a release frees: a frame is held after it exactly when it was held before and isn't one of the session that lookup showed
pub record FreesShown (st after : State) (shows : Shown) : Type 0 where
  pub session : Session
  pub shown : shows ≡ shown_of session
  pub frees : (x : Slot) → held_in (view_of after).live x ≡ (held_in (view_of st).live x && not (holds x session))

-- A RELEASE, at the call, "frees exactly that session's frames"
abbrev pub StoredReleaseFrees : Type 0
StoredReleaseFrees = (st : State) (n : ℕ) (q : Served Shown) (r : Served ⊤) → Looks st n q → (s : Shown) → q.answer ≡ Ok s → Releases st n r → FreesShown st r.state s
