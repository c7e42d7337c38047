-- `text::Page::put_network` meets its contract. Assumes nothing.
use Rattle.text.specs.Lines.{network_line}
use Rattle.text.proofs.Page.put_network.Goals as goal

pub put_words-requires : goal.put_words-requires
unfolding network_line
put_words-requires c = rw c.from.ensures c.requires

pub returns : goal.returns
unfolding network_line
returns c = rw c.from.ensures at c.put_words.ensures
