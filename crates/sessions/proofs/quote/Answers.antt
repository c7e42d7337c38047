-- `sessions::quote` meets its contract. Assumes nothing.
use Rattle.sessions.proofs.First.{quote_serves}
use Rattle.sessions.proofs.quote.Goals as goal

pub returns : goal.returns
returns c = quote_serves c.args.st _ _ c.answer_quote.ensures
