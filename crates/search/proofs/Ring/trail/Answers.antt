use mathlib.Core.Path.{refl}
use Prim.Native.Nat.{◌+◌, ◌-◌}
use native.Mathlib.Omega.{arith}
use borrow.Author.Rules.{rules}
use Rattle.search.specs.Inner.{key_at}
use Rattle.search.proofs.Latest.{chosen_join}
use Rattle.search.proofs.Positions.{chosen_own, chosen_behind}
use Rattle.search.proofs.Picking.{trail_none, trail_more}
use Rattle.search.proofs.Ring.trail.Goals as goal

pub loop-o-init : goal.loop-o-init
loop-o-init c = let a = c.args in
    let k = c.own-kept.result in
    let own = chosen_own a.self.now.cycle.0 a.self.now.frames a.self.now.keys a.end k.place k.key c.requires.0 c.own-kept.ensures.1 c.own-kept.ensures.0 in
    (trail_more a.self.now.cycle.0 a.self.now.frames a.self.now.keys a.end 0 k.place k.key a.behind.now (omega arith) (trail_none a.self.now.cycle.0 a.self.now.frames a.self.now.keys a.end a.behind.now (search rules)) own, own)

pub loop-o-preserved : goal.loop-o-preserved
loop-o-preserved c = let a = c.args in
    let l = c.loop-o in
    let b = c.back in
    let few = a.self.now.fits.few_frames in
    let far = chosen_behind a.self.now.cycle.0 a.self.now.frames a.self.now.keys a.end l.o b.result.place b.result.key c.requires.0 (omega arith) b.ensures.0 b.ensures.1 in
    let next = chosen_join (key_at a.self.now.cycle.0 a.self.now.frames a.self.now.keys) a.self.now.frames (a.end + a.self.now.frames) (a.end + (a.self.now.frames - l.o)) l.o l.o 1 (l.o + 1) l.kept.place l.kept.key b.result.place b.result.key
    c.sooner-kept.result.place c.sooner-kept.result.key (omega arith) (omega arith) (omega arith) refl l.invariant.1 far c.sooner-kept.ensures.0 c.sooner-kept.ensures.1 in
    (trail_more a.self.now.cycle.0 a.self.now.frames a.self.now.keys a.end l.o c.sooner-kept.result.place c.sooner-kept.result.key l.behind (omega arith) l.invariant.0 next, next)
