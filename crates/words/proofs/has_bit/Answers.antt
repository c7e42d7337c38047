-- `words::has_bit` meets its contract. Assumes nothing.
use borrow.Author.Rules.{rules}
use Rattle.words.specs.Word.{bit_of}
use Rattle.words.proofs.has_bit.Goals as goal

pub returns : goal.returns
unfolding bit_of
returns c = search rules
