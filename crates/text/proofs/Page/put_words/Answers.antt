-- `text::Page::put_words` meets its contract. Assumes nothing.
use Rattle.text.proofs.Chains.{none_yet, piece_fits, piece_put, all_put}
use Rattle.text.proofs.Lines.{words_is}
use Rattle.text.proofs.Page.put_words.Goals as goal

pub put_bytes-requires : goal.put_bytes-requires
put_bytes-requires c = piece_fits (none_yet c.args.self.now (words_is c.args.words.now c.args.number) c.requires)

pub put_spaced-requires : goal.put_spaced-requires
put_spaced-requires c = piece_fits (piece_put (none_yet c.args.self.now (words_is c.args.words.now c.args.number) c.requires) c.put_bytes.ensures)

pub put_byte-requires : goal.put_byte-requires
put_byte-requires c = piece_fits (piece_put (piece_put (none_yet c.args.self.now (words_is c.args.words.now c.args.number) c.requires) c.put_bytes.ensures) c.put_spaced.ensures)

pub returns : goal.returns
returns c = all_put (piece_put (piece_put (piece_put (none_yet c.args.self.now (words_is c.args.words.now c.args.number) c.requires) c.put_bytes.ensures) c.put_spaced.ensures) c.put_byte.ensures)
