-- `search::Ring::windows` meets its contract. The invariant: the windows that end before frame `first` have their picks. Assumes nothing.
use mathlib.Core.Path.{◌≡◌}
use Prim.Native.Nat.{◌-◌, ◌≤◌}
use lib.ListN.{length}
use Rattle.search.specs.Inner.{Windows}
use Rattle.search.proofs.Ring.windows.Given as goal

abbrev pub invariant-loop-first : goal.invariant-loop-first
invariant-loop-first l = (l.first ≤ l.self.frames) × (length l.behind ≡ 64) × Windows l.self.cycle.0 l.self.frames l.self.keys l.width l.first l.preds

abbrev pub decreases-loop-first : goal.decreases-loop-first
decreases-loop-first l = l.self.frames - l.first
