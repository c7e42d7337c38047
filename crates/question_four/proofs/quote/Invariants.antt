-- At most 8 links are read, and there are 8 places for them.
use Rattle.std.proofs.Common.{◌≡◌, ◌≤◌, length}
use Rattle.question_four.proofs.quote.Given as goal

abbrev pub invariant-loop-c : goal.invariant-loop-c
invariant-loop-c l = (l.hops ≤ 8) × (length l.links ≡ 8)
