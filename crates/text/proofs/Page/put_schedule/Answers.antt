-- `text::Page::put_schedule` meets its contract. Assumes nothing.
use Rattle.ledger.specs.Held.{holding_of}
use Rattle.text.proofs.Chains.{none_yet, piece_fits, piece_put, all_put}
use Rattle.text.proofs.Lines.{schedule_is}
use Rattle.text.proofs.Page.put_schedule.Goals as goal

pub put_spaced-requires : goal.put_spaced-requires
put_spaced-requires c = rw c.from.ensures (piece_fits (none_yet c.args.self.now (schedule_is (holding_of c.args.hops c.args.held) c.args.count) c.requires.1))

pub put_spaced-requires-2 : goal.put_spaced-requires-2
put_spaced-requires-2 c = piece_fits (piece_put (none_yet c.args.self.now (schedule_is (holding_of c.args.hops c.args.held) c.args.count) c.requires.1) (rw c.from.ensures at c.put_spaced.ensures))

pub put_groups-requires : goal.put_groups-requires
put_groups-requires c = (c.requires.0, piece_fits (piece_put (piece_put (none_yet c.args.self.now (schedule_is (holding_of c.args.hops c.args.held) c.args.count) c.requires.1) (rw c.from.ensures at c.put_spaced.ensures)) c.put_spaced-2.ensures))

pub returns : goal.returns
returns c = all_put (piece_put (piece_put (piece_put (none_yet c.args.self.now (schedule_is (holding_of c.args.hops c.args.held) c.args.count) c.requires.1) (rw c.from.ensures at c.put_spaced.ensures)) c.put_spaced-2.ensures) c.put_groups.ensures)
