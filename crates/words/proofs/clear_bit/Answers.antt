-- `words::clear_bit` meets its contract. Assumes nothing.
use borrow.Author.Rules.{rules}
use Rattle.words.specs.Word.{without_bit}
use Rattle.words.proofs.Machine.{clear_word}
use Rattle.words.proofs.clear_bit.Goals as goal

pub returns : goal.returns
unfolding without_bit
returns c = clear_word 64 _ _ (search rules) c.requires
