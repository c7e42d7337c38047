use mathlib.Core.Path.{◌≡◌, refl, ◌∙◌}
use mathlib.Core.Bool.{Bool, true, false}
use mir.Val.{bool_byte}
use lib.Dec.{ltb}
use Rattle.lists.specs.Count.{one_if}
use Rattle.trellis.specs.Paths.{reached}
use Rattle.search.specs.Inner.{cell_reach, reach_if}
use Rattle.search.proofs.one_reached.Goals as goal

pub returns : goal.returns
unfolding cell_reach
returns c = c.from.ensures ∙ told (ltb c.args.cell 32768)
  where
    told : (b : Bool) → bool_byte b ≡ one_if (reached (reach_if b c.args.cell))
    told true = refl
    told false = refl
