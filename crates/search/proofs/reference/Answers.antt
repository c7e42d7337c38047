-- `search::reference` meets its contract. Assumes nothing.
use mathlib.Core.Path.{sym, ◌∙◌, ap}
use Rattle.forwarding.specs.Forwarding.{reference, reference_into}
use Rattle.forwarding.proofs.Rates.{same_rate}
use Rattle.search.proofs.reference.Goals as goal

pub returns-then-before-hop : goal.returns-then-before-hop
unfolding reference_into
returns-then-before-hop c = let a = c.args in
    sym (ap (reference a.k a.hop.frames) c.if-before-hop.true ∙ same_rate a.k a.hop.frames c.requires.2)
