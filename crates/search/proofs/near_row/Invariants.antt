-- `search::near_row` meets its contract. The invariant: the lanes of the colours from the first to
-- before d were offered. Assumes nothing.
use Prim.Native.Nat.{ℕ, ◌-◌, ◌≤◌}
use Rattle.search.specs.Inner.{NearRow}
use Rattle.search.proofs.near_row.Given as goal

abbrev pub invariant-loop-d : goal.invariant-loop-d
invariant-loop-d l = (l.d - l.low ≤ l.high - l.low) × ((C : ℕ) → l.high ≤ C → NearRow C l.low 0 l.row l.frames l.initial.near.cells l.initial.near.lanes l.initial.near.many → NearRow C l.low (l.d - l.low) l.row l.frames l.near.cells l.near.lanes l.near.many)
