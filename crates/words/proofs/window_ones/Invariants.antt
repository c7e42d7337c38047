-- `words::window_ones` meets its contract. The invariant: the windows of the frames below a are there, and n is the next. Assumes nothing.
use mathlib.Core.Path.{◌≡◌}
use Rattle.words.specs.Inner.{window_ones, WindowOnes}
use Rattle.words.proofs.window_ones.Given as goal

abbrev pub invariant-loop-a : goal.invariant-loop-a
invariant-loop-a l = WindowOnes l.word l.frames l.width l.a l.initial.ones l.ones × (l.n ≡ window_ones l.word l.frames l.width l.a)
