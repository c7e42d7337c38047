-- `text::Page::put_refusal` meets its contract. Assumes nothing.
use Rattle.text.proofs.Chains.{none_yet, piece_fits, piece_put, all_put}
use Rattle.text.proofs.Lines.{refusal_is}
use Rattle.text.proofs.Page.put_refusal.Goals as goal

pub put_spaced-requires : goal.put_spaced-requires
put_spaced-requires c = rw c.from.ensures (piece_fits (none_yet c.args.self.now (refusal_is c.args.number c.args.count) c.requires))

pub put_count-requires : goal.put_count-requires
put_count-requires c = piece_fits (piece_put (none_yet c.args.self.now (refusal_is c.args.number c.args.count) c.requires) (rw c.from.ensures at c.put_spaced.ensures))

pub returns : goal.returns
returns c = all_put (piece_put (piece_put (none_yet c.args.self.now (refusal_is c.args.number c.args.count) c.requires) (rw c.from.ensures at c.put_spaced.ensures)) c.put_count.ensures)
