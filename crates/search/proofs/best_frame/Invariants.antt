-- `search::best_frame` meets its contract. Assumes nothing.
-- Invariant: the choice is the best of the frames below f.
use mathlib.Core.Path.{◌≡◌}
use Prim.Native.Nat.{◌<◌}
use Rattle.trellis.proofs.Survivor.{best_of}
use Rattle.search.specs.Inner.{way_of, end_offers}
use Rattle.search.proofs.best_frame.Given as goal

abbrev pub invariant-loop-f : goal.invariant-loop-f
invariant-loop-f l = (way_of l.end.key 0 l.end.place ≡ best_of (end_offers l.lane) l.f) × (l.end.place < 64)
