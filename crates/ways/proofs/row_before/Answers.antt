use Prim.Native.Nat.{◌+◌}
use native.Mathlib.Nat.{mod-lt}
use lib.ListN.{get_or}
use native.Mathlib.Omega.{arith}
use Rattle.forwarding.proofs.Holds.{reference_in, least_range, least_in, choices_in}
use Rattle.ways.specs.Inner.{free_ways}
use Rattle.ways.proofs.Rows.{row_window, one_before}
use Rattle.ways.proofs.row_before.Goals as goal

pub choices-choices-requires : goal.choices-choices-requires
choices-choices-requires c = let r = c.requires.ready in (least_range c.requires.ticks c.args.hop r, omega (arith, r.in_cycle, r.few_frames))

pub overflow_add-first : goal.overflow_add-first
overflow_add-first c = let p = c.requires in
    let a = c.args in
    record {
      fits = omega (
        arith,
        c.reference_frame.ensures,
        reference_in a.before a.hop c.loop-k.k p.ready.some_frame c.loop-k-test.true,
        c.least_hold-least.ensures,
        least_in p.ticks a.hop p.ready,
        p.ready.few_frames,
      );
    }

pub window-requires : goal.window-requires
window-requires c = let p = c.requires in
    let a = c.args in (
      mod-lt (c.reference_frame.result + c.least_hold-least.result) p.ready.some_frame,
      omega (arith, c.choices-choices.ensures, choices_in p.ticks a.hop p.ready),
      p.ready.few_frames,
      (free_ways (get_or a.hop.free 0 0) a.row.now, c.running_sums-sums.ensures),
    )

pub loop-k-preserved : goal.loop-k-preserved
loop-k-preserved c = let p = c.requires in
    let a = c.args in
    let l = c.loop-k in
    let f = free_ways (get_or a.hop.free 0 0) a.row.now in
    rw c.from.ensures (one_before a.before a.hop a.row.now l.k l.ways c.window.result (omega (arith, p.few_before)) l.invariant
    (row_window a.before a.hop a.row.now l.k c.reference_frame.result c.least_hold-least.result c.choices-choices.result c.window.result p c.reference_frame.ensures c.least_hold-least.ensures
    c.choices-choices.ensures (c.window.ensures f c.running_sums-sums.ensures)))
