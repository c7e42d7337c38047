-- `words::free_word` meets its contract. Assumes nothing.
use borrow.Author.Rules.{rules}
use Rattle.words.proofs.Machine.{free_word_lem}
use Rattle.words.proofs.free_word.Goals as goal

pub returns : goal.returns
returns c = rw c.ones_below.ensures (free_word_lem 64 _ _ _ c.requires.1 (search rules) (search rules))
