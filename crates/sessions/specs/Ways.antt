-- W-203 at the call `number_of_ways`: what it promises, and what holds of its number, on every state. Assumes nothing.
use Rattle.std.specs.Prelude.{◌≡◌, ◌↔◌, ℕ, ⊤, Ok, Err, ◌^◌, ◌≤◌, length}
use mathlib.Core.List.{List, Memᴰ}
use Rattle.lists.specs.Once.{EachOnce}
use Rattle.refusals.specs.Refusals.{refusal_number}
use Rattle.refusals.specs.declared.Refusal.{Refusal}
use Rattle.refusals.specs.declared.Refusal.TheVariants.{NoSchedule}
use Rattle.network.specs.declared.Network.{Network}
use Rattle.forwarding.specs.declared.Hop.{Hop}
use Rattle.forwarding.specs.Forwarding.{Spot}
use Rattle.forwarding.specs.Schedule.{IsSchedule}
use Rattle.forwarding.specs.Ways.{open_ways}
use Rattle.ledger.specs.Sessions.{hops_of}
use Rattle.ledger.specs.Calls.{Quote}
use Rattle.ledger.specs.Ways.{ways_of, NoneTaken}
use Rattle.state.specs.declared.State.{State}
use Rattle.state.specs.declared.Served.{Served}
use Rattle.state.specs.declared.Quoted.{Quoted}
use Rattle.state.specs.State.{view_of, Serves}
use Rattle.sessions.specs.Calls.{Begins, Tells}

-- the number or its refusal; "The largest number is 64 to the power 8"; and the very same state: it "holds nothing"
pub record Surveys (st : State) (route : List ℕ) (r : Served ℕ) : Type 0 where
  pub numbered : Tells (λ (n : ℕ). n) (ways_of (view_of st) route) r.answer
  pub most : (n : ℕ) → r.answer ≡ Ok n → n ≤ 64 ^ 8
  pub same : r.state ≡ st

-- the hops of a route over the frames that are free on a stored state
abbrev pub hops_on : State → List ℕ → List Hop
hops_on st route = hops_of (view_of st).network (view_of st).live route

-- "It is shown against the list of all schedules, each once": EVERY LIST THAT HAS EACH SCHEDULE ONCE AND NOTHING ELSE IS AS LONG AS THE NUMBER GIVEN
abbrev pub NumberListed : Type 0
NumberListed = (st : State) (route : List ℕ) (r : Served ℕ) (n : ℕ) → Surveys st route r → r.answer ≡ Ok n
    → (list : List (List Spot)) → EachOnce list → ((xs : List Spot) → Memᴰ xs list ↔ IsSchedule (hops_on st route) xs) → length list ≡ n

-- "The count is 0 exactly when a quote is refused as blocked", on the same state over the same route
abbrev pub NumberZero : Type 0
NumberZero = (st : State) (route : List ℕ) (r : Served ℕ) (q : Served Quoted) → Surveys st route r → Serves st (Quote route) q
    → (r.answer ≡ Ok 0) ↔ ((count : ℕ) × (q.answer ≡ Err (NoSchedule count)))

-- "The call makes the quote's route checks": A CHECK REFUSES ONE EXACTLY WHERE IT REFUSES THE OTHER, with the same refusal; 18, which is no check, refuses the quote alone
abbrev pub NumberRefused : Type 0
NumberRefused = (st : State) (route : List ℕ) (r : Served ℕ) (q : Served Quoted) → Surveys st route r → Serves st (Quote route) q → (x : Refusal)
    → (r.answer ≡ Err x) ↔ ((q.answer ≡ Err x) × (refusal_number x ≡ 18 → ⊥))

-- "Where no frame on it is closed or held this equals K of hop 0 times the product of the later" Z − Y + 1 (W-206)
abbrev pub NumberOpen : Type 0
NumberOpen = (st : State) (route : List ℕ) (r : Served ℕ) (n : ℕ) → Surveys st route r → r.answer ≡ Ok n → NoneTaken (view_of st) route
    → n ≡ open_ways (hops_on st route)

-- AND "64 TO THE POWER 8" IS REACHED, over some route on what `begin` gives of some network
abbrev pub NumberReached : Type 0
NumberReached = (net : Network) × ((route : List ℕ) × ((b : Served ⊤) (r : Served ℕ) → Begins net b → Surveys b.state route r → r.answer ≡ Ok (64 ^ 8)))
