-- `table::without` meets its contract. The invariant: the first places have what is left of the sessions before this one. Assumes nothing.
use Rattle.table.proofs.Tables.{Left}
use Rattle.table.proofs.without.Given as goal

abbrev pub invariant-loop-place : goal.invariant-loop-place
invariant-loop-place l = Left l.number l.place-items l.place-index l.kept l.next.places
