-- `text::Page::put_scheduled` meets its contract. Assumes nothing.
use Rattle.ledger.specs.Held.{holding_of}
use Rattle.text.proofs.Chains.{none_yet, piece_fits, piece_put, all_put}
use Rattle.text.proofs.Lines.{scheduled_is}
use Rattle.text.proofs.Page.put_scheduled.Goals as goal

pub put_head-requires : goal.put_head-requires
put_head-requires c = piece_fits (none_yet c.args.self.now (scheduled_is c.args.place c.args.letter (holding_of c.args.hops c.args.held) c.args.count) c.requires.1)

pub put_bytes-requires : goal.put_bytes-requires
put_bytes-requires c = piece_fits (piece_put (none_yet c.args.self.now (scheduled_is c.args.place c.args.letter (holding_of c.args.hops c.args.held) c.args.count) c.requires.1) c.put_head.ensures)

pub put_schedule-requires : goal.put_schedule-requires
put_schedule-requires c = (c.requires.0, piece_fits (piece_put (piece_put (none_yet c.args.self.now (scheduled_is c.args.place c.args.letter (holding_of c.args.hops c.args.held) c.args.count) c.requires.1) c.put_head.ensures) c.put_bytes.ensures))

pub put_byte-requires : goal.put_byte-requires
put_byte-requires c = piece_fits (piece_put (piece_put (piece_put (none_yet c.args.self.now (scheduled_is c.args.place c.args.letter (holding_of c.args.hops c.args.held) c.args.count) c.requires.1) c.put_head.ensures) c.put_bytes.ensures) c.put_schedule.ensures)

pub returns : goal.returns
returns c = all_put (piece_put (piece_put (piece_put (piece_put (none_yet c.args.self.now (scheduled_is c.args.place c.args.letter (holding_of c.args.hops c.args.held) c.args.count) c.requires.1) c.put_head.ensures) c.put_bytes.ensures) c.put_schedule.ensures) c.put_byte.ensures)
