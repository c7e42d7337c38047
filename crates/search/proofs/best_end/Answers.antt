use mathlib.Core.Path.{◌≡◌, refl, ◌∙◌}
use Prim.Native.Nat.{◌+◌, ◌-◌, ◌*◌}
use native.Mathlib.Omega.{arith}
use Rattle.search.proofs.Ends.{lane_listed, end_more, end_never}
use Rattle.search.specs.Inner.{EndFound}
use Rattle.search.proofs.best_end.Goals as goal

pub loop-c-preserved : goal.loop-c-preserved
loop-c-preserved c = let a = c.args in
    let l = c.loop-c in
    let b = c.best_frame-best in
    let r = c.sooner_end-end in
    end_more a.row.now a.frames l.c l.end.key l.end.place b.result.key b.result.place (64 * l.c + b.result.place) r.result.key r.result.place
    l.invariant (b.ensures.0 ∙ lane_listed a.row.now l.c a.frames (64 * l.c + a.frames - 64 * l.c) (omega arith) (omega (arith, c.loop-c-test.true))) b.ensures.1 refl r.ensures.0 r.ensures.1

pub returns-then-end-lt-NEVER : goal.returns-then-end-lt-NEVER
unfolding EndFound
returns-then-end-lt-NEVER c = let l = c.loop-c in
    let last : l.c ≡ c.args.colours = omega (arith, l.auto, c.loop-c-test.false) in
    (rw last at l.invariant, c.if-end-lt-NEVER.true)

pub returns-else-end-lt-NEVER : goal.returns-else-end-lt-NEVER
unfolding EndFound
returns-else-end-lt-NEVER c = let l = c.loop-c in
    let last : l.c ≡ c.args.colours = omega (arith, l.auto, c.loop-c-test.false) in
    end_never c.args.row.now c.args.frames c.args.colours l.end.key l.end.place (rw last at l.invariant) (omega (arith, c.if-end-lt-NEVER.false))
