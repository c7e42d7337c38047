-- At most one call is accepted for each number.
use Rattle.std.proofs.Common.{◌≤◌}
use Rattle.session_calls.proofs.calls.many.Given as goal

abbrev pub invariant-loop-number : goal.invariant-loop-number
invariant-loop-number g l = l.accepted ≤ l.number
