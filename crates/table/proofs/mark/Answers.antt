use mathlib.Core.Path.{◌≡◌}
use native.Mathlib.Omega.{arith}
use Rattle.table.proofs.Marks.{no_hop_lem, one_hop}
use Rattle.table.proofs.mark.Goals as goal

pub loop-j-init : goal.loop-j-init
loop-j-init c = no_hop_lem _ _ _ _ c.requires _

pub loop-j-preserved : goal.loop-j-preserved
loop-j-preserved c = let slot = c.slot-at.ensures in
    one_hop _ _ _ _ c.requires _ _ _ c.loop-j.invariant (omega arith) _ slot.word _ (rw slot.same at c.set_bit.ensures)

pub returns : goal.returns
returns c =
    let last : c.loop-j.j ≡ c.args.place.now.hops = omega arith in
    rw last at c.loop-j.invariant
