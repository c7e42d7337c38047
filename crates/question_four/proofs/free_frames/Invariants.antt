-- `question_four::free_frames` ends, and its sums fit. The invariant: the frame that is read is below 64. Assumes nothing.
use Prim.Native.Nat.{◌<◌}
use Rattle.question_four.proofs.free_frames.Given as goal

abbrev pub invariant-loop-c : goal.invariant-loop-c
invariant-loop-c l = l.frame < 64
