-- `replay::run` meets its contract. The invariant: the calls that are left leave what all of them leave. Assumes nothing.
use Rattle.call_records.specs.Records.{calls_in}
use Rattle.call_records.specs.Served.{view_after_all}
use Rattle.state.specs.State.{view_of}
use Rattle.replay.proofs.Replaying.{Running}
use Rattle.replay.proofs.run.Given as goal

abbrev pub invariant-loop-call : goal.invariant-loop-call
invariant-loop-call l = Running l.initial.st.network (view_after_all (view_of l.initial.st) (calls_in l.calls)) l.st (calls_in l.call-iterator.0.now)
