-- `call_records::split_number` meets its contract. Assumes nothing.
use Rattle.call_records.proofs.Cases.{number_fits, number_short, number_whole}
use native.Mathlib.Omega.{arith}
use Rattle.call_records.proofs.split_number.Goals as goal

pub returns-in_err-after : goal.returns-in_err-after
returns-in_err-after c = λ said. rw c.from_residual.ensures (number_short _ said _ c.in_err-after.ensures.cases)

pub overflow_cast-number : goal.overflow_cast-number
overflow_cast-number c = record { fits = rw c.read_number-number.ensures (number_fits c.args.width 32 c.args.bytes.now (λ i. (c.type_inv.bytes i).fits) (omega arith)) }

pub returns : goal.returns
returns c = λ said. rw (c.read_number-number.ensures, c.in_ok-after.ensures.cases.2) (number_whole c.args.width said c.args.bytes.now c.in_ok-after.ensures.cases.0)
