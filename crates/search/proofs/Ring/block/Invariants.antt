-- `search::Ring::block` meets its contract. The invariant: the windows that end before frame first + j have their picks, and the best of the frames from `first` on is kept with its key. Assumes nothing.
use mathlib.Core.Path.{◌≡◌}
use Prim.Native.Nat.{ℕ, ◌+◌}
use Rattle.search.specs.Inner.{key_at, Windows}
use Rattle.search.proofs.Latest.{Chosen}
use Rattle.search.proofs.Ring.block.Given as goal

abbrev pub invariant-loop-j : goal.invariant-loop-j
invariant-loop-j l = Windows l.self.cycle.0 l.self.frames l.self.keys l.width (l.first + l.j) l.preds
    × ((e : ℕ) × (e + 1 ≡ l.first + l.self.frames + l.j) × Chosen (key_at l.self.cycle.0 l.self.frames l.self.keys) l.self.frames e l.j l.run.place l.run.key)
