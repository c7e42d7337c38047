-- `search::advance` meets its contract. The invariant: the colours below c are entered. Assumes
-- nothing.
use Rattle.search.specs.Inner.{by_node, Coloured}
use Rattle.search.proofs.advance.Given as goal

abbrev pub invariant-loop-c : goal.invariant-loop-c
invariant-loop-c l = Coloured l.t l.before l.hop l.c (by_node l.before l.row) l.next l.preds l.count
