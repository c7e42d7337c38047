use Rattle.std.proofs.Common.{◌≤◌, length, rules}
use Rattle.table.proofs.Live.{in_all, place_within}
use Rattle.table.proofs.Holding.{held_none, held_more}
use Rattle.table.proofs.held_words.Goals as goal

pub loop-place-init : goal.loop-place-init
loop-place-init c = held_none

pub mark-requires : goal.mark-requires
mark-requires c = place_within c.args.table.now c.requires _ c.loop-place-test.true

pub loop-place-preserved : goal.loop-place-preserved
loop-place-preserved c = held_more _ _ _ _ c.loop-place.invariant c.loop-place-test.true c.mark.ensures

pub returns : goal.returns
returns c =
    let few : c.args.table.now.live ≤ length c.args.table.now.places = search rules in
    rw (← in_all _ _ _ few c.loop-place-test.false) c.loop-place.invariant
