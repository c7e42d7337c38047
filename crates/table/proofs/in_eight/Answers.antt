-- `table::in_eight` meets its contract. Assumes nothing.
use Rattle.places.proofs.Firsts.{firsts_filled}
use Rattle.table.proofs.in_eight.Goals as goal

pub returns : goal.returns
returns c = rw c.copy_from_slice.ensures.after (firsts_filled 8 c.args.route.now 0 c.requires)
