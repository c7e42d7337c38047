-- `ways::row_before` meets its contract. The invariant: the frames below k have their numbers.
-- Assumes nothing.
use Rattle.ways.specs.Inner.{RowBefore}
use Rattle.ways.proofs.row_before.Given as goal

abbrev pub invariant-loop-k : goal.invariant-loop-k
invariant-loop-k l = RowBefore l.before l.hop l.row l.k l.ways
