use mathlib.Core.Path.{◌≡◌, sym, subst}
use Prim.Native.Nat.{ℕ, ◌+◌, ◌-◌, ◌*◌}
use native.Mathlib.Omega.{arith}
use Rattle.search.specs.Inner.{NearRow}
use Rattle.search.proofs.Colouring.{lane_near, near_many}
use Rattle.search.proofs.near_row.Goals as goal

pub near_lane-requires : goal.near_lane-requires
near_lane-requires c = let a = c.args in
    let l = c.loop-d in
    let t = c.loop-d-test.true in
    let low = c.low_turn-low in
    let high = c.high_turn-high in
    let N = l.invariant.1 a.before.colours (omega (arith, high.ensures)) (rw low.ensures c.requires.4) in
    (omega (arith, t, high.ensures), c.requires.0, λ k m. omega (arith, near_many a.before.colours low.result (l.d - low.result) a.row.now a.before.frames l.near.cells l.near.lanes l.near.many N k m, t, high.ensures))

pub loop-d-preserved : goal.loop-d-preserved
loop-d-preserved c = let a = c.args in
    let l = c.loop-d in
    let t = c.loop-d-test.true in
    let low = c.low_turn-low.result in
    let k = c.near_lane in
    let on : l.d + 1 - low ≡ l.d - low + 1 = omega arith in (
      omega arith,
      λ C h N. subst (λ (x : ℕ). NearRow C low x a.row.now a.before.frames k.new.near.cells k.new.near.lanes k.new.near.many) (sym on)
          (lane_near C low a.row.now a.before.frames c.requires.0 (l.d - low) (64 * l.d) (omega arith) (omega (arith, t, h)) (omega (arith, t, c.high_turn-high.ensures))
          l.near.cells l.near.lanes l.near.many k.new.near.cells k.new.near.lanes k.new.near.many (l.invariant.1 C h N) k.ensures),
    )

pub returns : goal.returns
returns c = let a = c.args in
    let l = c.loop-d in
    let low = c.low_turn-low in
    let high = c.high_turn-high in
    let N = l.invariant.1 a.before.colours (omega (arith, high.ensures)) (rw low.ensures c.requires.4) in
    let e : l.d - low.result ≡ high.result - low.result = omega (arith, l.invariant.0, c.loop-d-test.false) in
    rw (← low.ensures, ← high.ensures, ← e) N
