-- `table::frame_twice` meets its contract. The invariant: the words have the frames of the sessions before this one, and no two of those hold one frame. Assumes nothing.
use Rattle.std.proofs.Common.{◌≡◌, false, take}
use Rattle.ledger.specs.Inner.{HeldWords}
use Rattle.ledger.specs.Lists.{any_two}
use Rattle.ledger.specs.Sound.{share_slot}
use Rattle.table.proofs.Live.{sessions}
use Rattle.table.proofs.frame_twice.Given as goal

abbrev pub invariant-loop-place : goal.invariant-loop-place
invariant-loop-place l = let seen = sessions (take l.place-index l.place-items) in HeldWords l.marks seen × (any_two share_slot seen ≡ false)
