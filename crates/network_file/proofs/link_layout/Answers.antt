-- `network_file::link_layout` meets its contract. Assumes nothing.
use mathlib.Core.Path.{refl}
use Rattle.network_file.specs.Fields.{link_layout}
use Rattle.network_file.proofs.Records.{link_laid}
use Rattle.network_file.proofs.link_layout.Goals as goal

pub invariant_of-result : goal.invariant_of-result
unfolding link_layout
invariant_of-result c = record { laid = link_laid }

pub returns : goal.returns
unfolding link_layout
returns c = refl
