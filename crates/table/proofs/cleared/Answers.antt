-- `table::cleared` meets its contract: the eight places of each array are there. Assumes nothing.
use Rattle.std.proofs.Common.{◌≤◌, length, rules}
use Rattle.table.proofs.Eight.{part_filled}
use Rattle.table.proofs.cleared.Goals as goal

pub returns : goal.returns
returns c =
    let held = c.args.held in
    let n = c.args.n in
    let frames : n ≤ length held.frames = search rules in
    let cycles : n ≤ length held.cycles = search rules in
    let colours : n ≤ length held.colours = search rules in
    rw (
      ← part_filled n held.frames _ frames c.in_eight.ensures,
      ← part_filled n held.cycles _ cycles c.in_eight-2.ensures,
      ← part_filled n held.colours _ colours c.in_eight-3.ensures,
    )
