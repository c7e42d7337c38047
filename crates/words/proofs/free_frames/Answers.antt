-- `words::free_frames` meets its contract. Assumes nothing.
use Rattle.words.specs.Word.{free_word, free_at}
use Rattle.words.proofs.Ones.{count_word}
use Rattle.words.proofs.free_frames.Goals as goal

pub returns : goal.returns
unfolding free_word
returns c = rw c.free_word.ensures (count_word _ (free_at _ _))
