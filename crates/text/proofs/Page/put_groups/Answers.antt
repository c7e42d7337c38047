-- `text::Page::put_groups` meets its contract. Assumes nothing.
use borrow.Author.Rules.{rules}
use Rattle.text.proofs.Chains.{none_yet, piece_fits, piece_put, all_put}
use Rattle.text.proofs.Lines.{held_is}
use Rattle.text.proofs.Page.put_groups.Goals as goal

pub put_all-requires : goal.put_all-requires
put_all-requires c = piece_fits (none_yet c.args.self.now (held_is c.args.hops c.args.held c.requires.0 (search rules) (search rules)) c.requires.1)

pub put_bytes-requires : goal.put_bytes-requires
put_bytes-requires c = piece_fits (piece_put (none_yet c.args.self.now (held_is c.args.hops c.args.held c.requires.0 (search rules) (search rules)) c.requires.1) c.put_all.ensures)

pub put_all-requires-2 : goal.put_all-requires-2
put_all-requires-2 c = piece_fits (piece_put (piece_put (none_yet c.args.self.now (held_is c.args.hops c.args.held c.requires.0 (search rules) (search rules)) c.requires.1) c.put_all.ensures) c.put_bytes.ensures)

pub returns : goal.returns
returns c = all_put (piece_put (piece_put (piece_put (none_yet c.args.self.now (held_is c.args.hops c.args.held c.requires.0 (search rules) (search rules)) c.requires.1) c.put_all.ensures) c.put_bytes.ensures) c.put_all-2.ensures)
