-- `ways::running_sums` meets its contract. The invariant: the sums up to place i are there, and the
-- last is `sum`. Assumes nothing.
use mathlib.Core.Path.{◌≡◌}
use Rattle.lists.specs.Count.{sum_below}
use Rattle.ways.specs.Inner.{free_ways, SumsTo}
use Rattle.ways.proofs.running_sums.Given as goal

abbrev pub invariant-loop-i : goal.invariant-loop-i
invariant-loop-i l = SumsTo (free_ways l.free l.row) l.i l.sums × (l.sum ≡ sum_below l.i (free_ways l.free l.row))
