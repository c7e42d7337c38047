-- `words::ones_below` meets its contract. Assumes nothing.
use Rattle.words.proofs.Machine.{ones_shift}
use Rattle.words.proofs.ones_below.Goals as goal

pub returns : goal.returns
returns c = ones_shift 64 _ c.requires.1
