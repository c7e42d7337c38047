use mathlib.Core.Path.{◌∙◌, ap, ap₂}
use Prim.Native.Nat.{ℕ, ◌+◌, ◌-◌, ◌*◌}
use native.Mathlib.Nat.{le_trans}
use native.Mathlib.Numerals.{add-one}
use native.Mathlib.Omega.{arith}
use lib.ListN.{get_or}
use Rattle.forwarding.proofs.Holds.{reference_in}
use Rattle.forwarding.proofs.Windows.{first_frame}
use Rattle.search.proofs.Gathering.{within_time, few_leave, led_first, one_gathered}
use Rattle.search.proofs.gather.Goals as goal

pub frame_on-i-requires : goal.frame_on-i-requires
frame_on-i-requires c = let a = c.args in
    let l = c.loop-k in (
      omega (arith, c.reference.ensures, reference_in a.before a.hop l.k c.requires.some_frame (omega arith)),
      omega (arith, c.least_hold-least.ensures, c.requires.led),
      c.requires.few_frames,
    )

pub overflow_add-cell : goal.overflow_add-cell
overflow_add-cell c = let a = c.args in
    let l = c.loop-k in
    record { fits = omega (arith, (c.requires.small l.k c.loop-k-test.true).most, c.delay_of-wait.ensures.product, within_time a.time.0 a.hop.frames (a.hop.frames - c.frame_on-i.result) (omega arith) c.requires.in_time) }

pub loop-k-preserved : goal.loop-k-preserved
loop-k-preserved c = let a = c.args in
    let l = c.loop-k in
    let first = c.least_hold-least in
    let less = c.loop-k-test.true in
    let i = c.frame_on-i.result in
    let to = led_first a.before a.hop l.k c.reference.result first.result i c.requires.some_frame c.reference.ensures first.ensures c.frame_on-i.ensures in
    let wait = c.delay_of-wait in
    let some = c.leaving-count.ensures in (
      omega (arith, some, few_leave (get_or a.near.now.many l.k 0) (get_or a.ones.now i 0) (c.requires.few_many l.k less) (c.requires.few_ones i to.1), l.invariant.0),
      one_gathered (first_frame a.before a.hop) a.time.0 a.hop.frames a.near.now.cells c.requires.in_time l.k i (get_or a.near.now.cells l.k 0 + wait.result.0) l.ring.keys l.ring.froms _ _ l.invariant.1 to.0 to.1 c.requires.few_frames
          (ap (λ (x : ℕ). get_or a.near.now.cells l.k 0 + x) wait.ensures.product) (c.requires.small l.k less) (le_trans less c.requires.few_before) c.enter.ensures.0,
      c.enter.ensures.1 ∙ l.invariant.2,
      c.enter.ensures.2 ∙ l.invariant.3,
      rw (add-one l.k) (ap₂ ◌+◌ l.invariant.4 (some ∙ ap (λ (x : ℕ). get_or a.near.now.many l.k 0 * get_or a.ones.now x 0) to.0)),
    )
