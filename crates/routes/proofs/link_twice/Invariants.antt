-- `routes::link_twice` meets its contract. The invariant: no link before j stands again after its place. Assumes nothing.
use mathlib.Core.Path.{◌≡◌}
use lib.Dec.{eqb}
use lib.ListN.{drop}
use Rattle.ledger.specs.Lists.{any_two}
use Rattle.routes.proofs.link_twice.Given as goal

abbrev pub invariant-loop-j : goal.invariant-loop-j
invariant-loop-j l = any_two eqb l.route ≡ any_two eqb (drop l.j l.route)
