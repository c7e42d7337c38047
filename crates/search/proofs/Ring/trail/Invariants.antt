-- `search::Ring::trail` meets its contract. The invariant: the windows of up to o frames have their picks, and the last of these is kept with its key. Assumes nothing.
use Prim.Native.Nat.{◌+◌}
use Rattle.search.specs.Inner.{key_at, Trail}
use Rattle.search.proofs.Latest.{Chosen}
use Rattle.search.proofs.Ring.trail.Given as goal

abbrev pub invariant-loop-o : goal.invariant-loop-o
invariant-loop-o l = Trail l.self.cycle.0 l.self.frames l.self.keys l.end l.o l.behind × Chosen (key_at l.self.cycle.0 l.self.frames l.self.keys) l.self.frames (l.end + l.self.frames) l.o l.kept.place l.kept.key
