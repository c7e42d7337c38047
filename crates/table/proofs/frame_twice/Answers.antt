use Rattle.std.proofs.Common.{◌≤◌, length, take, refl, sym, ap, ◌∙◌, rules}
use Rattle.ledger.specs.Lists.{any_two}
use Rattle.ledger.specs.Sound.{share_slot}
use Rattle.table.proofs.Live.{in_all, in_taken, place_within}
use Rattle.table.proofs.Holding.{held_none, held_more, met_shares, frames_rule}
use Rattle.table.proofs.Twice.{two_found, two_missed}
use Rattle.table.proofs.frame_twice.Goals as goal

pub loop-place-init : goal.loop-place-init
loop-place-init c = (held_none, refl)

pub meets-requires : goal.meets-requires
meets-requires c = place_within c.args.table c.requires _ c.loop-place-test.true

pub mark-requires : goal.mark-requires
mark-requires c = place_within c.args.table c.requires _ c.loop-place-test.true

pub returns-then-meets : goal.returns-then-meets
returns-then-meets c =
    let t = c.args.table in
    let i = c.loop-place.place-index in
    let l = c.loop-place-test.true in
    let few : t.live ≤ length t.places = search rules in
    two_found share_slot _ _ l _ (c.meets.ensures ∙ met_shares (take t.live t.places) i _ c.loop-place.invariant.0 (place_within c.args.table c.requires _ l)) c.if-meets.true
    ∙ ap (any_two share_slot) (sym (in_taken _ _ few))
    ∙ frames_rule _

pub loop-place-preserved : goal.loop-place-preserved
loop-place-preserved c =
    let t = c.args.table in
    let i = c.loop-place.place-index in
    let inv = c.loop-place.invariant in
    let l = c.loop-place-test.true in (
      held_more _ _ _ _ inv.0 l c.mark.ensures,
      two_missed share_slot _ _ l _ (c.meets.ensures ∙ met_shares (take t.live t.places) i _ inv.0 (place_within c.args.table c.requires _ l)) inv.1 c.if-meets.false,
    )

pub returns : goal.returns
returns c =
    let few : c.args.table.live ≤ length c.args.table.places = search rules in
    sym (ap (any_two share_slot) (sym (in_all _ _ _ few c.loop-place-test.false)) ∙ c.loop-place.invariant.1) ∙ frames_rule _
