-- `search::apart` meets its contract. Assumes nothing.
-- Invariant: the places below j are taken apart.
use Rattle.search.specs.Inner.{Parts}
use Rattle.search.proofs.apart.Given as goal

abbrev pub invariant-loop-j : goal.invariant-loop-j
invariant-loop-j l = Parts l.j l.places l.frames l.colours
