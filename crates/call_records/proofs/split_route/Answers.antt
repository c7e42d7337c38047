-- `call_records::split_route` meets its contract. Assumes nothing.
use Rattle.call_records.proofs.Cases.{route_none, route_split}
use Rattle.call_records.proofs.split_route.Goals as goal

pub returns-in_err-links : goal.returns-in_err-links
returns-in_err-links c = λ call. rw c.from_residual.ensures (route_none call _ c.in_err-links.ensures.cases)

pub returns : goal.returns
returns c = λ call. route_split call _ _ _ _ c.in_ok-links.ensures.cases.0 c.from.ensures _ c.split_at_checked.ensures.cases
