-- `call_records::read_release` meets its contract. Assumes nothing.
use Rattle.refusals.specs.Refusals.{given}
use Rattle.ledger.specs.Calls.{Release}
use Rattle.call_records.specs.Records.{release_said}
use Rattle.call_records.proofs.read_release.Goals as goal

pub returns-in_err-number : goal.returns-in_err-number
unfolding release_said
returns-in_err-number c = rw c.from_residual.ensures (c.in_err-number.ensures (λ n rest. record { call = given (Release n); rest = rest }))

pub returns : goal.returns
unfolding release_said
returns c = c.in_ok-number.ensures (λ n rest. record { call = given (Release n); rest = rest })
