-- `network::check_network` meets its contract. Assumes nothing.
use borrow.Author.Rules.{rules}
use Rattle.std.proofs.Common.{arith}
use Rattle.std.proofs.lemmas.Grind.{common_steps}
use Rattle.network.proofs.Checks.{count_refused, count_few, cycle_refused, links_rule}
use Rattle.network.proofs.check_network.Goals as goal

pub returns-then-bad_count : goal.returns-then-bad_count
returns-then-bad_count c = count_refused _ _ c.bad_count.ensures c.if-bad_count.true

pub returns-then-bad_cycle : goal.returns-then-bad_cycle
returns-then-bad_cycle c = cycle_refused _ _ c.bad_count.ensures c.if-bad_count.false _ c.bad_cycle.ensures c.if-bad_cycle.true

pub slice_bounds-links-end : goal.slice_bounds-links-end
slice_bounds-links-end c = let few = count_few c.args.network _ c.bad_count.ensures c.if-bad_count.false in search rules

pub slice_bounds-check_links-end : goal.slice_bounds-check_links-end
slice_bounds-check_links-end c = let few = count_few c.args.network _ c.bad_count.ensures c.if-bad_count.false in grind (arith, common_steps)

pub returns : goal.returns
returns c = links_rule c.args.network _ c.bad_count.ensures c.if-bad_count.false _ c.bad_cycle.ensures c.if-bad_cycle.false (let few = count_few c.args.network _ c.bad_count.ensures c.if-bad_count.false in search rules) _ c.check_links.ensures
