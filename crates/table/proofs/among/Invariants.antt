-- `table::among` meets its contract. The invariant: whether the number is one of those before this one. Assumes nothing.
use Rattle.std.proofs.Common.{◌≡◌, eqb, take}
use Rattle.ledger.specs.Lists.{any_of}
use Rattle.table.proofs.among.Given as goal

abbrev pub invariant-loop-x : goal.invariant-loop-x
invariant-loop-x l = l.met ≡ any_of (eqb l.number) (take l.x-index l.numbers)
