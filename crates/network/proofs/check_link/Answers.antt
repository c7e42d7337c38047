-- `network::check_link` meets its contract. Assumes nothing.
use Rattle.network.proofs.Checks.{frames_refused, frames_few, range_refused, least_refused, closed_refused, link_passes}
use Rattle.network.proofs.check_link.Goals as goal

pub returns-then-bad_frames : goal.returns-then-bad_frames
returns-then-bad_frames c = frames_refused _ _ _ c.bad_frames.ensures c.if-bad_frames.true

pub returns-then-bad_range : goal.returns-then-bad_range
returns-then-bad_range c = range_refused _ _ _ c.bad_frames.ensures c.if-bad_frames.false _ c.bad_range.ensures c.if-bad_range.true

pub returns-then-bad_least : goal.returns-then-bad_least
returns-then-bad_least c = least_refused _ _ _ c.bad_frames.ensures c.if-bad_frames.false _ c.bad_range.ensures c.if-bad_range.false _ c.bad_least.ensures c.if-bad_least.true

pub bad_closed-requires : goal.bad_closed-requires
bad_closed-requires c = frames_few _ c.args.link _ c.bad_frames.ensures c.if-bad_frames.false

pub returns-then-bad_closed : goal.returns-then-bad_closed
returns-then-bad_closed c = closed_refused _ _ _ c.bad_frames.ensures c.if-bad_frames.false _ c.bad_range.ensures c.if-bad_range.false _ c.bad_least.ensures c.if-bad_least.false _ c.bad_closed.ensures c.if-bad_closed.true

pub returns : goal.returns
returns c = link_passes _ _ _ c.bad_frames.ensures c.if-bad_frames.false _ c.bad_range.ensures c.if-bad_range.false _ c.bad_least.ensures c.if-bad_least.false _ c.bad_closed.ensures c.if-bad_closed.false
