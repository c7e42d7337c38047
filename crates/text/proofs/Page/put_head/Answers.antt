-- `text::Page::put_head` meets its contract. Assumes nothing.
use Rattle.text.proofs.Chains.{none_yet, piece_fits, piece_put, all_put}
use Rattle.text.proofs.Lines.{head_is}
use Rattle.text.proofs.Page.put_head.Goals as goal

pub put_decimal-requires : goal.put_decimal-requires
put_decimal-requires c = piece_fits (none_yet c.args.self.now (head_is c.args.place c.args.letter) c.requires)

pub put_byte-requires : goal.put_byte-requires
put_byte-requires c = piece_fits (piece_put (none_yet c.args.self.now (head_is c.args.place c.args.letter) c.requires) c.put_decimal.ensures)

pub put_byte-requires-2 : goal.put_byte-requires-2
put_byte-requires-2 c = piece_fits (piece_put (piece_put (none_yet c.args.self.now (head_is c.args.place c.args.letter) c.requires) c.put_decimal.ensures) c.put_byte.ensures)

pub returns : goal.returns
returns c = all_put (piece_put (piece_put (piece_put (none_yet c.args.self.now (head_is c.args.place c.args.letter) c.requires) c.put_decimal.ensures) c.put_byte.ensures) c.put_byte-2.ensures)
