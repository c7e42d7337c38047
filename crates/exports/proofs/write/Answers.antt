-- `exports::write` meets its contract. Assumes nothing.
use mathlib.Core.Path.{ap, ◌∙◌}
use Prim.Native.Nat.{min}
use Rattle.exports.proofs.Values.{too_many, values_written}
use Rattle.exports.proofs.write.Goals as goal

pub returns-then-count-gt32 : goal.returns-then-count-gt32
returns-then-count-gt32 c = too_many _ _ _ _ _ (c.min-count.ensures ∙ ap (min _) (c.min-2.ensures ∙ ap (min _) c.min.ensures)) c.if-count-gt32.true _ _

pub returns : goal.returns
returns c =
    values_written _ _ _ _ _ (c.min-count.ensures ∙ ap (min _) (c.min-2.ensures ∙ ap (min _) c.min.ensures)) c.if-count-gt32.false _ _ c.links_of-links.ensures _ _ _ c.write_network.ensures
