-- `sessions::number_of_ways` meets its contract. Assumes nothing.
use Rattle.sessions.proofs.Counting.{surveys}
use Rattle.sessions.proofs.number_of_ways.Goals as goal

pub returns : goal.returns
returns c = surveys c.args.st _ _ c.answer_ways.ensures
