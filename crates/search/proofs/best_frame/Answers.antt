use Prim.Native.Nat.{ℕ}
use native.Mathlib.Numerals.{add-one}
use native.Mathlib.Omega.{arith}
use lib.Dec.{ltb}
use lib.ListN.{get_or}
use Rattle.search.proofs.Cells.{way_nobody, end_chosen}
use Rattle.search.proofs.Ends.{few_chosen}
use Rattle.search.proofs.best_frame.Goals as goal

pub loop-f-init : goal.loop-f-init
loop-f-init c = (way_nobody 32768 0 0 (omega arith), omega arith)

pub loop-f-preserved : goal.loop-f-preserved
loop-f-preserved c = let a = c.args in
    let l = c.loop-f in
    let r = c.sooner-end in
    let cell : ℕ = get_or a.lane.now l.f 0 in
    let e = end_chosen l.end.key l.end.place cell l.f r.result.key r.result.place r.ensures.0 r.ensures.1 in (
      rw (add-one l.f) (rw l.invariant.0 at e),
      rw r.ensures.1 (few_chosen (ltb cell l.end.key) l.end.place l.f l.invariant.1 (omega (arith, c.loop-f-test.true, c.requires))),
    )
