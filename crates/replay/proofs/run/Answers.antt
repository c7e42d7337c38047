-- `replay::run` meets its contract. Assumes nothing.
use mathlib.Core.Path.{refl}
use borrow.Author.Rules.{rules}
use Rattle.replay.proofs.Replaying.{none_made, one_run, all_run}
use Rattle.replay.proofs.run.Goals as goal

pub loop-call-init : goal.loop-call-init
loop-call-init c = rw c.into_iter-call-iterator.ensures.into_iter_gives (record { network = refl; unbroken = c.requires; whole = refl })

pub made-st-requires : goal.made-st-requires
made-st-requires c = c.loop-call.invariant.unbroken

pub loop-call-preserved-in-Ok : goal.loop-call-preserved-in-Ok
loop-call-preserved-in-Ok c = one_run c.loop-call.invariant _ _ c.in-Some.ensures.steps _ (rw c.in-Ok.is c.made-st.ensures)

pub loop-call-preserved : goal.loop-call-preserved
loop-call-preserved c = one_run c.loop-call.invariant _ _ c.in-Some.ensures.steps _ (none_made c.loop-call.st c.loop-call.invariant.unbroken c.in-Some.call (search rules))

pub returns : goal.returns
returns c = all_run c.loop-call.invariant c.in-None.ensures.steps.0
