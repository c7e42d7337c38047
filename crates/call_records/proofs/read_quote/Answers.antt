-- `call_records::read_quote` meets its contract. Assumes nothing.
use Rattle.ledger.specs.Calls.{Quote}
use Rattle.call_records.specs.Records.{quote_said}
use Rattle.call_records.proofs.read_quote.Goals as goal

pub returns-in_err-route : goal.returns-in_err-route
unfolding quote_said
returns-in_err-route c = rw c.from_residual.ensures (c.in_err-route.ensures Quote)

pub returns : goal.returns
unfolding quote_said
returns c = c.in_ok-route.ensures Quote
