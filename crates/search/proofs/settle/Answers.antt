use mathlib.Core.Path.{◌≡◌, ◌∙◌, ap}
use mathlib.Core.List.{List}
use Prim.Native.Nat.{ℕ, ◌+◌, ◌<◌, ◌≤◌}
use native.Mathlib.Nat.{le_trans}
use native.Mathlib.Omega.{arith}
use lib.ListN.{get_or}
use Rattle.search.specs.Inner.{cell_if}
use Rattle.search.proofs.Settling.{pick_in, value_waits, settled_on, place_fits}
use Rattle.search.proofs.settle.Goals as goal

pub seen-key-requires : goal.seen-key-requires
seen-key-requires c = let a = c.args in
    let l = c.loop-i in
    let inside = pick_in a.time.0 a.lead.0 a.ring.now.frames a.free c.requires.1.0 a.ring.now.keys a.ring.now.froms a.near.now.lanes a.near.now.cells a.preds.now c.requires.1.1 l.i l.near.cells l.preds (l.invariant.1 c.requires.1.0 c.requires.1.1) c.loop-i-test.true c.from-frame.result c.from-frame.ensures in
    (le_trans inside c.requires.1.1.ring.few_frames, omega (arith, c.requires.1.1.ring.small c.from-frame.result, c.requires.0, c.requires.1.1.ring.short))

pub overflow_sub-cell : goal.overflow_sub-cell
overflow_sub-cell c = let a = c.args in
    let l = c.loop-i in
    omega (arith, value_waits a.time.0 a.lead.0 a.ring.now.frames a.free c.requires.1.0 a.ring.now.keys a.ring.now.froms a.near.now.lanes a.near.now.cells a.preds.now c.requires.1.1 l.i l.near.cells l.preds (l.invariant.1 c.requires.1.0 c.requires.1.1) c.loop-i-test.true c.from-frame.result a.ring.now.cycle.0 c.seen-key.result c.from-frame.ensures c.requires.0 c.seen-key.ensures c.delay_of-wait.result.0 c.delay_of-wait.ensures.product)

pub bounds-ring-frame : goal.bounds-ring-frame
bounds-ring-frame c = let a = c.args in
    let l = c.loop-i in
    le_trans (pick_in a.time.0 a.lead.0 a.ring.now.frames a.free c.requires.1.0 a.ring.now.keys a.ring.now.froms a.near.now.lanes a.near.now.cells a.preds.now c.requires.1.1 l.i l.near.cells l.preds (l.invariant.1 c.requires.1.0 c.requires.1.1) c.loop-i-test.true c.from-frame.result c.from-frame.ensures) c.requires.1.1.ring.few_frames

pub overflow_add-preds : goal.overflow_add-preds
overflow_add-preds c = let frame = c.from-frame.result in
    let from = get_or c.args.ring.now.froms frame 0 in
    let same = ap (λ (lanes : List ℕ). get_or lanes c.from.result 0 + from) c.loop-i.invariant.0 in
    omega (arith, same, ap (λ (x : ℕ). get_or c.args.near.now.lanes x 0 + from) c.from.ensures, place_fits c.args.near.now.lanes from c.requires.1.1.lanes_are (c.requires.1.1.few frame))

pub loop-i-preserved : goal.loop-i-preserved
loop-i-preserved c = let a = c.args in
    let l = c.loop-i in
    let less : l.i < a.ring.now.frames = c.loop-i-test.true in
    let few : a.ring.now.frames ≤ 64 = c.requires.1.1.ring.few_frames in
    let short = c.from-frame in
    let seen = c.seen-key in
    let wait = c.delay_of-wait in
    let free = c.if_free in
    let from = get_or a.ring.now.froms short.result 0 in
    let cell = free.ensures ∙ ap (cell_if a.free l.i) c.min.ensures in
    let place = ap (λ (lanes : List ℕ). get_or lanes c.from.result 0 + from) l.invariant.0 ∙ ap (λ (x : ℕ). get_or a.near.now.lanes x 0 + from) c.from.ensures in (
      l.invariant.0,
      λ w S.
          settled_on a.time.0 a.lead.0 a.ring.now.frames a.free w a.ring.now.keys a.ring.now.froms a.near.now.lanes a.near.now.cells a.preds.now S l.i l.near.cells l.preds (l.invariant.1 w S) less
          short.result a.ring.now.cycle.0 seen.result short.ensures c.requires.0 seen.ensures wait.result.0 free.result
          (get_or l.near.lanes c.from.result 0 + from) wait.ensures.product (omega arith) cell place,
    )

pub returns : goal.returns
returns c = λ w S.
    let e : c.loop-i.i ≡ c.args.ring.now.frames = omega arith in
    rw e at (c.loop-i.invariant.1 w S)
