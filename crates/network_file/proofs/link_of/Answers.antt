-- `network_file::link_of` meets its contract. Assumes nothing.
use mathlib.Core.Path.{refl}
use Rattle.network_file.specs.Fields.{link_of}
use Rattle.network_file.proofs.link_of.Goals as goal

pub returns : goal.returns
unfolding link_of
returns c = refl
