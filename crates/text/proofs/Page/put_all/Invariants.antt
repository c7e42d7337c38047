-- `text::Page::put_all` meets its contract. The invariant: the numbers from the index on are still to be put. Assumes nothing.
use Rattle.text.proofs.Pieces.{SpacedFrom}
use Rattle.text.proofs.Page.put_all.Given as goal

abbrev pub invariant-loop-n : goal.invariant-loop-n
invariant-loop-n l = SpacedFrom l.ns l.initial.self l.n-index l.self
