-- `forwarding::choices` meets its contract. Assumes nothing.
use mathlib.Core.Path.{ap}
use Prim.Native.Nat.{ℕ, ◌+◌, ◌-◌}
use Rattle.forwarding.specs.Forwarding.{choices}
use Rattle.forwarding.proofs.choices.Goals as goal

pub returns : goal.returns
unfolding choices
returns c = ap (λ (x : ℕ). c.args.hop.range - x + 1) c.least_hold.ensures
