-- `text::Page::put_spaced` meets its contract. Assumes nothing.
use Rattle.text.proofs.Chains.{none_yet, piece_fits, piece_put, all_put}
use Rattle.text.proofs.Lines.{spaced_is}
use Rattle.text.proofs.Page.put_spaced.Goals as goal

pub put_byte-requires : goal.put_byte-requires
put_byte-requires c = piece_fits (none_yet c.args.self.now (spaced_is c.args.n) c.requires)

pub put_decimal-requires : goal.put_decimal-requires
put_decimal-requires c = piece_fits (piece_put (none_yet c.args.self.now (spaced_is c.args.n) c.requires) c.put_byte.ensures)

pub returns : goal.returns
returns c = all_put (piece_put (piece_put (none_yet c.args.self.now (spaced_is c.args.n) c.requires) c.put_byte.ensures) c.put_decimal.ensures)
