-- `search::near_lane` meets its contract. The invariant: the frames below k were offered their cells. Assumes nothing.
use mathlib.Core.Path.{◌≡◌}
use Rattle.search.specs.Inner.{NearLane}
use Rattle.search.proofs.near_lane.Given as goal

abbrev pub invariant-loop-k : goal.invariant-loop-k
invariant-loop-k l = (l.first ≡ l.lane) × NearLane l.lane l.row l.k l.initial.near.cells l.initial.near.lanes l.initial.near.many l.near.cells l.near.lanes l.near.many
