-- `text::Page::put_freed` meets its contract. Assumes nothing.
use Rattle.text.proofs.Chains.{none_yet, piece_fits, piece_put, all_put}
use Rattle.text.proofs.Lines.{freed_is}
use Rattle.text.proofs.Page.put_freed.Goals as goal

pub put_head-requires : goal.put_head-requires
put_head-requires c = piece_fits (none_yet c.args.self.now (freed_is c.args.place c.args.letter) c.requires)

pub put_bytes-requires : goal.put_bytes-requires
put_bytes-requires c = piece_fits (piece_put (none_yet c.args.self.now (freed_is c.args.place c.args.letter) c.requires) c.put_head.ensures)

pub returns : goal.returns
returns c = all_put (piece_put (piece_put (none_yet c.args.self.now (freed_is c.args.place c.args.letter) c.requires) c.put_head.ensures) c.put_bytes.ensures)
