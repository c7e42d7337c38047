-- `table::with_place` meets its contract. Assumes nothing.
use Rattle.std.proofs.Common.{◌<◌, length, rules}
use Rattle.table.proofs.Live.{in_set}
use Rattle.table.proofs.with_place.Goals as goal

pub returns : goal.returns
returns c =
    let few : c.args.table.live < length c.args.table.places = search rules in
    in_set _ _ _ few
