-- `network::bad_frames` meets its contract. Assumes nothing.
use Rattle.network.proofs.Tests.{no_frames, many_frames, few_frames}
use Rattle.network.proofs.bad_frames.Goals as goal

pub returns-then-frames-eq0 : goal.returns-then-frames-eq0
returns-then-frames-eq0 c = no_frames _ _ c.if-frames-eq0.true

pub returns-then-frames-gt64 : goal.returns-then-frames-gt64
returns-then-frames-gt64 c = many_frames _ _ c.if-frames-eq0.false c.if-frames-gt64.true

pub returns-else-frames-gt64 : goal.returns-else-frames-gt64
returns-else-frames-gt64 c = few_frames _ _ c.if-frames-eq0.false c.if-frames-gt64.false
