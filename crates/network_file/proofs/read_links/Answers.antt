use mathlib.Core.Path.{◌∙◌}
use native.Mathlib.Omega.{arith}
use Rattle.refusals.proofs.Refusals.{passed_on}
use Rattle.network_file.proofs.Files.{one_refused, used_room, one_gone, bytes_follow, all_gone}
use Rattle.network_file.proofs.read_links.Goals as goal

pub returns-in_err-link : goal.returns-in_err-link
returns-in_err-link c = passed_on _ _ _ c.from_residual.ensures ∙ one_refused _ _ c.args.records.now _ c.loop-i.at _ c.loop-i.invariant c.loop-i-test.true _ c.in_err-link.ensures

pub overflow_add-at : goal.overflow_add-at
overflow_add-at c = omega (arith, used_room _ _ c.args.records.now _ c.loop-i.at _ c.loop-i.invariant c.loop-i-test.true _ _ c.in_ok-link.ensures (λ i. (c.type_inv.records i).fits))

pub loop-i-preserved : goal.loop-i-preserved
loop-i-preserved c = one_gone _ _ c.args.records.now _ c.loop-i.at _ c.loop-i.invariant c.loop-i-test.true _ _ c.in_ok-link.ensures (λ i. (c.type_inv.records i).fits) c.requires

pub returns-then-at-records : goal.returns-then-at-records
returns-then-at-records c = bytes_follow _ _ _ _ _ _ c.loop-i.invariant c.loop-i-test.false c.if-at-records.true

pub returns : goal.returns
returns c = all_gone _ _ _ _ _ _ c.loop-i.invariant c.loop-i-test.false c.if-at-records.false
