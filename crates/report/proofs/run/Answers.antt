-- `report::run` meets its contract. Assumes nothing.
use mathlib.Core.Path.{sym}
use mathlib.Core.Logic.{inl}
use native.Mathlib.Omega.{arith}
use Rattle.state.proofs.Within.{few_live}
use Rattle.table.proofs.Live.{in_length}
use Rattle.report.proofs.Answering.{unread_turn}
use Rattle.report.proofs.Running.{items_fit, none_run, line_room, one_run, last_room, all_run}
use Rattle.report.proofs.run.Goals as goal

pub loop-i-init-derived : goal.loop-i-init-derived
loop-i-init-derived c = rw (c.into_iter-i-iterator.ensures.into_iter_gives, c.enumerate-i-items.ensures.count, c.enumerate-i-items.ensures.source) ((tt, tt, inl (items_fit c.args.calls.now c.requires.1)), tt)

pub loop-i-init : goal.loop-i-init
loop-i-init c = rw (c.into_iter-i-iterator.ensures.into_iter_gives, c.enumerate-i-items.ensures.count, c.enumerate-i-items.ensures.source) (none_run c.args.calls.now c.args.page.now c.args.first c.requires.0 c.requires.1 c.requires.2)

pub serve-st-requires : goal.serve-st-requires
serve-st-requires c = let loop = c.loop-i in
    let steps = c.in-Some.ensures.steps in
    (loop.invariant.unbroken, rw c.in-Ok.is at (line_room _ loop.invariant _ steps.1 _ _ steps.0))

pub loop-i-preserved-in-Ok : goal.loop-i-preserved-in-Ok
loop-i-preserved-in-Ok c = let loop = c.loop-i in
    let steps = c.in-Some.ensures.steps in
    one_run _ loop.invariant _ steps.1 _ _ steps.0 _ steps.2 _ _ (rw c.in-Ok.is c.serve-st.ensures)

pub put_refused-requires : goal.put_refused-requires
put_refused-requires c = let loop = c.loop-i in
    let steps = c.in-Some.ensures.steps in
    rw c.from.ensures (rw c.in-Err.is at (line_room _ loop.invariant _ steps.1 _ _ steps.0))

pub loop-i-preserved : goal.loop-i-preserved
loop-i-preserved c = let loop = c.loop-i in
    let steps = c.in-Some.ensures.steps in
    one_run _ loop.invariant _ steps.1 _ _ steps.0 _ steps.2 _ _ (rw c.in-Err.is (unread_turn loop.st loop.invariant.unbroken _ _ loop.page _ (rw c.from.ensures at c.put_refused.ensures)))

pub overflow_cast-st : goal.overflow_cast-st
overflow_cast-st c = let f = few_live c.loop-i.st c.loop-i.invariant.unbroken in record { fits = omega (arith, f) }

pub put_live-requires : goal.put_live-requires
put_live-requires c = let loop = c.loop-i in
    last_room loop.invariant c.in-None.ensures.steps.0.0 _ (sym (in_length loop.st.table.live loop.st.table.places))

pub returns : goal.returns
returns c = let loop = c.loop-i in
    all_run loop.invariant c.in-None.ensures.steps.0.0 _ (sym (in_length loop.st.table.live loop.st.table.places)) _ c.put_live.ensures
