-- `table::number_twice` meets its contract. The invariant: the numbers of the first i sessions stand in the first i places, and no two of them are the same. Assumes nothing.
use Rattle.std.proofs.Common.{◌≡◌, false, take}
use Rattle.ledger.specs.Lists.{any_two}
use Rattle.ledger.specs.Sound.{same_number}
use Rattle.table.proofs.Live.{sessions}
use Rattle.table.proofs.Numbers.{Numbered}
use Rattle.table.proofs.number_twice.Given as goal

abbrev pub invariant-loop-i : goal.invariant-loop-i
invariant-loop-i l = Numbered l.place-items l.i l.numbers × (any_two same_number (sessions (take l.i l.place-items)) ≡ false)
