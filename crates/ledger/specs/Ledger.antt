-- The ledger of a list (document 01), kept from the calls' arguments and answers alone. Assumes nothing.
use Rattle.std.specs.Prelude.{Bool, true, false, not, ◌&&◌, List, [], ◌∷◌, ℕ, ◌+◌, eqb}
use Rattle.lists.specs.Count.{one_if}
use Rattle.ledger.specs.Sessions.{Session}
use Rattle.ledger.specs.Calls.{Call, SetUp, Quote, Release, Reply, schedule, freed, refusal, Effect, effect, live_after}

-- a call of the list with the answer that it got
pub data AnsweredCall : Type 0 where
  did : Call → Reply → AnsweredCall

abbrev pub call_of : AnsweredCall → Call
call_of (did call r) = call

abbrev pub effect_of : AnsweredCall → Effect
effect_of (did call r) = effect call r

-- the ledger: "It begins empty"
abbrev pub ledger_from : List Session → List AnsweredCall → List Session
ledger_from ss [] = ss
ledger_from ss (s ∷ steps) = ledger_from (live_after ss (effect_of s)) steps

abbrev pub ledger : List AnsweredCall → List Session
ledger steps = ledger_from [] steps

-- whether an answer is a schedule, and whether it is a refusal
abbrev pub has_schedule : Reply → Bool
has_schedule (schedule held count) = true
has_schedule freed = false
has_schedule (refusal number count) = false

abbrev pub is_refusal : Reply → Bool
is_refusal (schedule held count) = false
is_refusal freed = false
is_refusal (refusal number count) = true

-- "A set-up is accepted when its answer is a schedule"
abbrev pub accepted_set_up : AnsweredCall → Bool
accepted_set_up (did (SetUp n route) r) = has_schedule r
accepted_set_up (did (Quote route) r) = false
accepted_set_up (did (Release n) r) = false

-- "a release when it isn't refused"
abbrev pub accepted_release : AnsweredCall → Bool
accepted_release (did (SetUp n route) r) = false
accepted_release (did (Quote route) r) = false
accepted_release (did (Release n) r) = not (is_refusal r)

-- an accepted release of this number
abbrev pub accepted_release_of : ℕ → AnsweredCall → Bool
accepted_release_of m (did (SetUp n route) r) = false
accepted_release_of m (did (Quote route) r) = false
accepted_release_of m (did (Release n) r) = not (is_refusal r) && eqb m n

-- how many steps of the list pass a test
abbrev pub count_steps : (AnsweredCall → Bool) → List AnsweredCall → ℕ
count_steps p [] = 0
count_steps p (s ∷ steps) = one_if (p s) + count_steps p steps
