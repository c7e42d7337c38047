-- `table::held_words` meets its contract. The invariant: the words have the frames of the sessions before this one. Assumes nothing.
use Rattle.std.proofs.Common.{take}
use Rattle.ledger.specs.Inner.{HeldWords}
use Rattle.table.proofs.Live.{sessions}
use Rattle.table.proofs.held_words.Given as goal

abbrev pub invariant-loop-place : goal.invariant-loop-place
invariant-loop-place l = HeldWords l.words (sessions (take l.place-index l.place-items))
