-- `words::ones_among` meets its contract. Assumes nothing.
use Rattle.words.specs.Word.{bit_of}
use Rattle.words.proofs.Machine.{low_word}
use Rattle.words.proofs.Ones.{count_word}
use Rattle.words.proofs.ones_among.Goals as goal

pub returns : goal.returns
returns c = let a = c.args in
    rw (c.ones_below.ensures, low_word a.n a.word) (count_word a.n (bit_of a.word))
