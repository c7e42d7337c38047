-- `call_records::read_set_up` meets its contract. Assumes nothing.
use mathlib.Core.Path.{◌∙◌}
use Rattle.ledger.specs.Calls.{SetUp}
use Rattle.call_records.specs.Records.{with_route, set_up_said}
use Rattle.call_records.proofs.read_set_up.Goals as goal

pub returns-in_err-number : goal.returns-in_err-number
unfolding set_up_said
returns-in_err-number c = rw c.from_residual.ensures (c.in_err-number.ensures (λ n. with_route (SetUp n)))

pub returns-in_err-route : goal.returns-in_err-route
unfolding set_up_said
returns-in_err-route c = rw c.from_residual-in_err-route.ensures (c.in_err-route.ensures (SetUp c.in_ok-number.number) ∙ c.in_ok-number.ensures (λ n. with_route (SetUp n)))

pub returns : goal.returns
unfolding set_up_said
returns c = c.in_ok-route.ensures (SetUp c.in_ok-number.number) ∙ c.in_ok-number.ensures (λ n. with_route (SetUp n))
