-- The stored state, what it shows, and what the program's answers say in the words of the rules. Assumes nothing.
use Rattle.std.specs.Prelude.{◌≡◌, true, [], ℕ, ⊤, Result, Ok, Err, replicate}
use Rattle.places.specs.Places.{firsts}
use Rattle.refusals.specs.Refusals.{refusal_number, refusal_count}
use Rattle.refusals.specs.declared.Refusal.{Refusal}
use Rattle.network.specs.Network.{topology_of}
use Rattle.network.specs.declared.Network.{Network}
use Rattle.ledger.specs.Held.{Holding, no_holding, holding_of, held_places}
use Rattle.ledger.specs.Sessions.{View}
use Rattle.ledger.specs.Sound.{intact}
use Rattle.ledger.specs.Calls.{Call, Release, Reply, schedule, freed, refusal, reply, leaves, effect, next}
use Rattle.ledger.specs.Demand.{fresh}
use Rattle.table.specs.declared.Table.{Table}
use Rattle.table.specs.Table.{live_of}
use Rattle.state.specs.declared.State.{State}
use Rattle.state.specs.declared.Quoted.{Quoted}
use Rattle.state.specs.declared.Served.{Served}

-- what a stored state shows: unused places are no part of it, and a number above its places shows in it
abbrev pub view_of : State → View
view_of st = record { network = topology_of st.network; live = live_of st.table }

-- a table without sessions: no place is in use, and each holds 0
abbrev pub empty_table : Table
empty_table = record { live = 0; places = replicate 96 record { number = 0; hops = 0; route = firsts 8 [] 0; held = held_places no_holding } }

-- a state without sessions, as it is stored
abbrev pub fresh_state : Network → State
fresh_state net = record { network = net; table = empty_table }

-- A STATE WITHOUT SESSIONS SHOWS A FRESH NETWORK
abbrev pub FreshShown : Type 0
FreshShown = (net : Network) → view_of (fresh_state net) ≡ fresh (topology_of net)

-- ---- the answers
-- the answer that gives a schedule: "In an answer, unused hop and link places hold 0"
abbrev pub quoted_of : Holding → ℕ → Quoted
quoted_of held count = record { count = count; held = held_places held }

-- the program's answer to a set-up or a quote is the rule's; no such call answers that frames are freed
abbrev pub Quotes : Reply → Result Quoted Refusal → Type 0
Quotes (schedule held count) q = q ≡ Ok (quoted_of held count)
Quotes freed q = ⊥
Quotes (refusal number count) q = (r : Refusal) × (refusal_number r ≡ number) × (refusal_count r ≡ count) × (q ≡ Err r)

-- document 01's number and values for each case: a refusal's, or what the value that is answered says
abbrev pub reply_as : {A : Type 0} → (A → Reply) → Result A Refusal → Reply
reply_as of (Ok a) = of a
reply_as of (Err r) = refusal (refusal_number r) (refusal_count r)

-- of a set-up or a quote over n links, and of a release
abbrev pub quoted_in : ℕ → Result Quoted Refusal → Reply
quoted_in n q = reply_as (λ (a : Quoted). schedule (holding_of n a.held) a.count) q

abbrev pub released_in : Result ⊤ Refusal → Reply
released_in q = reply_as (λ _. freed) q

-- ---- the state after a call
-- what a call leaves: the view of the rules on the very same stored network, and the very same state where the call changes no session (a refusal or a
-- quote). After an accepted call the places of the table past its live sessions, and the places of a stored session past its hops, are free: the view has
-- none of them, and `ArrangementFree` (`sessions/specs/Stored`) says what holds whatever stands there
pub record Leaves (st : State) (call : Call) (after : State) : Type 0 where
  pub view : view_of after ≡ next (view_of st) call
  pub network : after.network ≡ st.network
  pub same : effect call (reply (view_of st) call) ≡ leaves → after ≡ st

-- A CALL ON A STATE THAT ISN'T BROKEN LEAVES ONE THAT ISN'T BROKEN: "0 can only meet a caller that builds a state by hand"
abbrev pub LeftIntact : Type 0
LeftIntact = (st : State) (call : Call) (after : State) → Leaves st call after → intact (view_of st) ≡ true → intact (view_of after) ≡ true

-- a set-up or a quote
pub record Serves (st : State) (call : Call) (r : Served Quoted) : Type 0 where
  pub answer : Quotes (reply (view_of st) call) r.answer
  pub after : Leaves st call r.state

-- a release
pub record Releases (st : State) (n : ℕ) (r : Served ⊤) : Type 0 where
  pub answer : released_in r.answer ≡ reply (view_of st) (Release n)
  pub after : Leaves st (Release n) r.state
