-- `text::Page::put_count` meets its contract. Assumes nothing.
use Rattle.text.specs.Lines.{count_text}
use Rattle.text.proofs.Lines.{count_none}
use Rattle.text.proofs.Chains.{adds_none}
use Rattle.text.proofs.Page.put_count.Goals as goal

pub put_spaced-requires : goal.put_spaced-requires
unfolding count_text
put_spaced-requires c = rw c.if-counted.true at c.requires

pub returns-then-counted : goal.returns-then-counted
unfolding count_text
returns-then-counted c = rw c.if-counted.true c.put_spaced.ensures

pub returns-else-counted : goal.returns-else-counted
returns-else-counted c = rw (count_none c.args.number c.args.count c.if-counted.false) (adds_none _)
