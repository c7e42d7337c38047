use mathlib.Core.Path.{refl}
use Prim.Native.Nat.{◌+◌, ◌-◌, ◌<◌}
use native.Mathlib.Omega.{arith}
use lib.ListN.{get_or}
use Rattle.search.proofs.Positions.{chosen_own}
use Rattle.search.proofs.Picking.{trail_part, windows_more, block_more}
use Rattle.search.proofs.Ring.block.Goals as goal

pub loop-j-init : goal.loop-j-init
loop-j-init c = let a = c.args in
    let few = a.self.now.fits.few_frames in (
      windows_more a.self.now.cycle.0 a.self.now.frames a.self.now.keys a.width a.first (a.first + 1) (get_or a.behind.now (a.width - 1) 0) a.preds.now refl (omega arith) c.requires.5
          (trail_part a.self.now.cycle.0 a.self.now.frames a.self.now.keys a.first a.width a.width _ a.behind.now c.requires.0 (omega arith) (omega arith) refl),
      (a.first + a.self.now.frames, omega arith, chosen_own a.self.now.cycle.0 a.self.now.frames a.self.now.keys a.first _ _ (omega arith) c.own-run.ensures.1 c.own-run.ensures.0),
    )

pub loop-j-preserved : goal.loop-j-preserved
loop-j-preserved c = let a = c.args in
    let l = c.loop-j in
    let less : l.j < a.span = c.loop-j-test.true in
    let run = c.sooner-run in
    let own = c.own in
    let more = block_more a.self.now.cycle.0 a.self.now.frames a.self.now.keys a.width a.first a.span a.behind.now c.requires.0 a.self.now.fits.few_frames c.requires.1 c.requires.3 c.requires.4 l.j l.invariant.1.0 l.run.place l.run.key own.result.key _ c.seen.result run.result.place run.result.key c.sooner-pick.result.place c.sooner-pick.result.key l.preds
    (omega arith) less l.invariant.1.1 l.invariant.1.2 own.ensures.0 run.ensures.0 (rw own.ensures.1 at run.ensures.1) refl (rw c.from.ensures at c.seen.ensures) c.sooner-pick.ensures.0 c.sooner-pick.ensures.1 l.invariant.0 in
    (more.0, (a.first + l.j + a.self.now.frames, omega arith, more.1))
