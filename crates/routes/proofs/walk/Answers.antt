use mathlib.Core.Path.{ap, ◌∙◌}
use Rattle.routes.specs.Hops.{walked_delay}
use Rattle.routes.proofs.Walks.{first_unfit, first_along, no_step, step_small, one_step, all_steps}
use Rattle.routes.proofs.walk.Goals as goal

pub returns-then-not-spot_free : goal.returns-then-not-spot_free
returns-then-not-spot_free c = first_unfit _ _ _ _ c.requires _ c.spot_at.ensures _ c.spot_free.ensures c.if-not-spot_free.true

pub loop-j-init : goal.loop-j-init
loop-j-init c = first_along _ _ _ _ c.requires _ c.spot_at.ensures _ c.spot_free.ensures c.if-not-spot_free.false

pub returns-in_err-delay : goal.returns-in_err-delay
returns-in_err-delay c = ap walked_delay c.from_residual.ensures ∙ no_step _ _ _ _ c.requires _ _ _ c.loop-j.invariant c.loop-j-test.true _ c.spot_at-from.ensures _ c.spot_at-to.ensures _ c.step.ensures c.in_err-delay.was

pub sum-total-requires : goal.sum-total-requires
sum-total-requires c = step_small _ _ _ _ c.requires _ _ _ c.loop-j.invariant c.loop-j-test.true _ c.spot_at-from.ensures _ c.spot_at-to.ensures _ c.step.ensures _ c.in_ok-delay.was

pub loop-j-preserved : goal.loop-j-preserved
loop-j-preserved c = one_step _ _ _ _ c.requires _ _ _ c.loop-j.invariant c.loop-j-test.true _ c.spot_at-from.ensures _ c.spot_at-to.ensures _ c.step.ensures _ c.in_ok-delay.was _ c.sum-total.ensures

pub returns : goal.returns
returns c = all_steps _ _ _ _ c.requires _ _ _ c.loop-j.invariant c.loop-j-test.false
