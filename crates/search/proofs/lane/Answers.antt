-- `search::lane` meets its contract. Assumes nothing.
use mathlib.Core.Path.{◌∙◌, ap}
use Prim.Native.Nat.{ℕ, ◌*◌}
use lib.ListN.{length-replicate}
use native.Mathlib.Omega.{arith}
use Rattle.forwarding.proofs.Holds.{least_range}
use Rattle.search.proofs.Counting.{opens}
use Rattle.search.proofs.Gathering.{most_same}
use Rattle.search.proofs.Settling.{time_fits, least_time, begins_gathering, begins_settling, lane_set}
use Rattle.search.proofs.lane.Goals as goal

pub delay_of-cycle-requires : goal.delay_of-cycle-requires
delay_of-cycle-requires c = time_fits c.args.t c.args.hop.frames c.frame_time-time.result.0 c.requires.cycle c.frame_time-time.ensures

pub delay_of-lead-requires : goal.delay_of-lead-requires
delay_of-lead-requires c = let a = c.args in
    let time = c.frame_time-time in
    least_time a.t a.before a.hop a.near.now.cells a.near.now.many a.near.now.lanes a.preds.now time.result.0 c.requires time.ensures c.least_hold.result c.least_hold.ensures

pub choices-width-requires : goal.choices-width-requires
choices-width-requires c = let r = c.requires.ready in (least_range c.args.t c.args.hop r, omega (arith, r.in_cycle, r.few_frames))

pub window_ones-requires : goal.window_ones-requires
window_ones-requires c = let O = opens c.args.t c.args.hop c.requires.ready c.choices-width.result c.args.free c.choices-width.ensures in
    (O.some, O.within, c.requires.ready.few_frames, length-replicate {A = ℕ} 64 0)

pub invariant_of-ring : goal.invariant_of-ring
invariant_of-ring c = let ready = c.requires.ready in
    record { fits = record { some_frame = ready.some_frame; few_frames = ready.few_frames; short = omega (arith, c.delay_of-cycle.ensures.product, time_fits c.args.t c.args.hop.frames c.frame_time-time.result.0 c.requires.cycle c.frame_time-time.ensures); small = most_same 64 33728 } }

pub gather-count-requires : goal.gather-count-requires
gather-count-requires c = let a = c.args in
    let time = c.frame_time-time in
    let wide = c.choices-width in
    let O = opens a.t a.hop c.requires.ready wide.result a.free wide.ensures in
    let ones = c.window_ones in
    begins_gathering a.t a.before a.hop a.near.now.cells a.near.now.many a.near.now.lanes a.preds.now time.result.0 c.requires time.ensures wide.result a.free _ ones.new.ones O ones.ensures

pub windows-requires : goal.windows-requires
windows-requires c = let a = c.args in
    let time = c.frame_time-time in
    let wide = c.choices-width in
    let O = opens a.t a.hop c.requires.ready wide.result a.free wide.ensures in
    let ones = c.window_ones in
    let G = c.gather-count in
    rw G.ensures.1 (O.some, O.within)

pub settle-requires : goal.settle-requires
settle-requires c = let a = c.args in
    let time = c.frame_time-time in
    let cycle = c.delay_of-cycle in
    let lead = c.delay_of-lead in
    let led = lead.ensures.product ∙ ap (λ (x : ℕ). x * time.result.0) c.least_hold.ensures in
    let wide = c.choices-width in
    let O = opens a.t a.hop c.requires.ready wide.result a.free wide.ensures in
    let G = c.gather-count in
    let W = c.windows in
    rw (G.ensures.1, G.ensures.2) (cycle.ensures.product, (wide.result, begins_settling a.t a.before a.hop a.near.now.cells a.near.now.many a.near.now.lanes a.preds.now time.result.0 c.requires time.ensures wide.result a.free O G.new.ring.keys G.new.ring.froms G.ensures.0 cycle.result.0 cycle.ensures.product lead.result.0 led W.new.preds (rw (G.ensures.1, G.ensures.2) at W.ensures)))

pub returns : goal.returns
returns c = let a = c.args in
    let time = c.frame_time-time in
    let cycle = c.delay_of-cycle in
    let lead = c.delay_of-lead in
    let led = lead.ensures.product ∙ ap (λ (x : ℕ). x * time.result.0) c.least_hold.ensures in
    let wide = c.choices-width in
    let O = opens a.t a.hop c.requires.ready wide.result a.free wide.ensures in
    let G = c.gather-count in
    let W = c.windows in
    let ones = c.window_ones in
    lane_set a.t a.before a.hop a.near.now.cells a.near.now.many a.near.now.lanes a.preds.now time.result.0 c.requires time.ensures wide.result a.free O G.new.ring.keys G.new.ring.froms G.ensures.0 cycle.result.0 cycle.ensures.product lead.result.0 led W.new.preds (rw (G.ensures.1, G.ensures.2) at W.ensures) _ ones.new.ones G.result c.settle.new.near.cells c.settle.new.preds ones.ensures G.ensures.3 (rw (G.ensures.1) at c.settle.ensures)
