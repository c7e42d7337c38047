-- `text::Page::put_refused` meets its contract. Assumes nothing.
use Rattle.text.proofs.Chains.{none_yet, piece_fits, piece_put, all_put}
use Rattle.text.proofs.Lines.{refused_is}
use Rattle.text.proofs.Page.put_refused.Goals as goal

pub put_head-requires : goal.put_head-requires
put_head-requires c = piece_fits (none_yet c.args.self.now (refused_is c.args.place c.args.letter c.args.number c.args.count) c.requires)

pub put_bytes-requires : goal.put_bytes-requires
put_bytes-requires c = piece_fits (piece_put (none_yet c.args.self.now (refused_is c.args.place c.args.letter c.args.number c.args.count) c.requires) c.put_head.ensures)

pub put_refusal-requires : goal.put_refusal-requires
put_refusal-requires c = piece_fits (piece_put (piece_put (none_yet c.args.self.now (refused_is c.args.place c.args.letter c.args.number c.args.count) c.requires) c.put_head.ensures) c.put_bytes.ensures)

pub put_byte-requires : goal.put_byte-requires
put_byte-requires c = piece_fits (piece_put (piece_put (piece_put (none_yet c.args.self.now (refused_is c.args.place c.args.letter c.args.number c.args.count) c.requires) c.put_head.ensures) c.put_bytes.ensures) c.put_refusal.ensures)

pub returns : goal.returns
returns c = all_put (piece_put (piece_put (piece_put (piece_put (none_yet c.args.self.now (refused_is c.args.place c.args.letter c.args.number c.args.count) c.requires) c.put_head.ensures) c.put_bytes.ensures) c.put_refusal.ensures) c.put_byte.ensures)
