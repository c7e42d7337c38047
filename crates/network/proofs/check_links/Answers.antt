-- `network::check_links` meets its contract. Assumes nothing.
use mathlib.Core.Path.{◌∙◌}
use Rattle.refusals.proofs.Refusals.{passed_on}
use Rattle.network.proofs.Checks.{one_refused, one_passed, all_passed}
use Rattle.network.proofs.check_links.Goals as goal

pub returns-in_err-check_link : goal.returns-in_err-check_link
returns-in_err-check_link c = passed_on _ _ _ c.from_residual.ensures ∙ one_refused _ _ _ c.loop-link.invariant c.loop-link-test.true _ c.check_link.ensures _ c.in_err-check_link.was

pub loop-link-preserved : goal.loop-link-preserved
loop-link-preserved c = one_passed _ _ _ c.loop-link.invariant c.loop-link-test.true _ c.check_link.ensures _ c.in_ok-check_link.was

pub returns : goal.returns
returns c = all_passed _ _ _ c.loop-link.invariant c.loop-link-test.false
