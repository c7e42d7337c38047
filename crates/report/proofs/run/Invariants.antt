-- `report::run` meets its contract. The invariant: the lines of the calls so far are put. Assumes nothing.
use Prim.Native.Nat.{◌+◌}
use Rattle.state.specs.State.{view_of}
use Rattle.call_records.specs.Records.{calls_in}
use Rattle.report.specs.Transcript.{lines_of}
use Rattle.report.proofs.Running.{Running}
use Rattle.report.proofs.run.Given as goal

abbrev pub invariant-loop-i : goal.invariant-loop-i
invariant-loop-i l = Running (lines_of 1 (view_of l.initial.st) (calls_in l.calls)) l.initial.page l.st (calls_in l.i-iterator.iter.0.now) (l.i-iterator.count + 1) l.page
