-- `text::Page::put_live` meets its contract. Assumes nothing.
use Rattle.text.specs.Lines.{live_line}
use Rattle.text.proofs.Page.put_live.Goals as goal

pub put_words-requires : goal.put_words-requires
unfolding live_line
put_words-requires c = c.requires

pub returns : goal.returns
unfolding live_line
returns c = c.put_words.ensures
