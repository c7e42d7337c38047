-- `network::bad_closed` meets its contract. Assumes nothing.
use borrow.Author.Rules.{rules}
use Rattle.network.proofs.Tests.{bits_above, none_above}
use Rattle.network.proofs.bad_closed.Goals as goal

pub returns-then-frames-lt64 : goal.returns-then-frames-lt64
returns-then-frames-lt64 c = bits_above _ _

pub returns-else-frames-lt64 : goal.returns-else-frames-lt64
returns-else-frames-lt64 c = none_above _ _ c.requires c.if-frames-lt64.false (search rules)
