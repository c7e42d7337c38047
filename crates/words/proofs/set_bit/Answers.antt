-- `words::set_bit` meets its contract. Assumes nothing.
use borrow.Author.Rules.{rules}
use Rattle.words.specs.Word.{with_bit}
use Rattle.words.proofs.Machine.{set_word}
use Rattle.words.proofs.set_bit.Goals as goal

pub returns : goal.returns
unfolding with_bit
returns c = set_word 64 _ _ (search rules) c.requires
