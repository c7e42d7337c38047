-- `exports::put_session` meets its contract. Assumes nothing.
use Rattle.std.proofs.Common.{rules}
use Rattle.exports.proofs.Numbers.{short_session, long_session}
use Rattle.exports.proofs.put_session.Goals as goal

pub returns-then-out-length : goal.returns-then-out-length
returns-then-out-length c = short_session c.args.shown _ c.if-out-length.true

pub returns : goal.returns
returns c = long_session c.args.shown _ c.if-out-length.false (search rules) (search rules) (search rules) _ c.put_places.ensures _ c.put_places-2.ensures _ c.put_places-3.ensures
