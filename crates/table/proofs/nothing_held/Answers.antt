-- `table::nothing_held` meets its contract. Assumes nothing.
use mathlib.Core.Path.{refl}
use Rattle.places.specs.Places.{firsts}
use Rattle.table.proofs.nothing_held.Goals as goal

pub returns : goal.returns
unfolding firsts
returns c = refl
