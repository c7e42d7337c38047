-- `search::colour` meets its contract. Assumes nothing.
use mathlib.Core.Path.{refl}
use Prim.Native.Nat.{ℕ, ◌+◌}
use native.Mathlib.Omega.{arith}
use lib.ListN.{length-replicate}
use Rattle.search.specs.Inner.{low_turn, by_node}
use Rattle.search.proofs.Colouring.{none_near, colour_four, turn_four, begins_lane, colour_set, colours_few}
use Rattle.search.proofs.colour.Goals as goal

pub near_row-requires : goal.near_row-requires
near_row-requires c = let a = c.args in
    let E = c.requires.entering in
    (E.few_before, E.few_colours, colour_four a.t a.before a.hop a.c a.row.now a.next.now a.preds.now a.count c.requires, turn_four a.t a.before a.hop a.c a.row.now a.next.now a.preds.now a.count c.requires, none_near a.before.colours (low_turn a.hop a.c) a.row.now a.before.frames E.few_before)

pub lane-more-requires : goal.lane-more-requires
lane-more-requires c = let a = c.args in
    let N = c.near_row in
    begins_lane a.t a.before a.hop a.c a.row.now a.next.now a.preds.now a.count c.requires N.new.near.cells N.new.near.lanes N.new.near.many N.ensures _ (length-replicate {A = ℕ} 64 0)

pub overflow_add-result : goal.overflow_add-result
overflow_add-result c = let a = c.args in
    let N = c.near_row in
    let L = c.lane-more in
    let set = colour_set a.t a.before a.hop a.c a.row.now a.next.now a.preds.now a.count c.requires N.new.near.cells N.new.near.lanes N.new.near.many N.ensures L.new.near.cells L.new.preds L.result L.ensures c.put_lane.new.next c.put_lane.new.preds c.put_lane.ensures (a.count + L.result) refl in
    let E = c.requires.entering in
    record { fits = omega (arith, set.counted, colours_few a.t a.before a.hop (by_node a.before a.row.now) (a.c + 1) E.few_before E.few_colours E.ready.few_frames, colour_four a.t a.before a.hop a.c a.row.now a.next.now a.preds.now a.count c.requires) }

pub returns : goal.returns
returns c = let a = c.args in
    let N = c.near_row in
    let L = c.lane-more in
    colour_set a.t a.before a.hop a.c a.row.now a.next.now a.preds.now a.count c.requires N.new.near.cells N.new.near.lanes N.new.near.many N.ensures L.new.near.cells L.new.preds L.result L.ensures c.put_lane.new.next c.put_lane.new.preds c.put_lane.ensures (a.count + L.result) refl
