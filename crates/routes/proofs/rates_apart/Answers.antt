use Prim.Native.Nat.{◌-◌}
use native.Mathlib.Omega.{arith}
use Rattle.routes.proofs.Links.{known_place, at_place}
use Rattle.routes.proofs.rates_apart.Goals as goal

pub bounds-network-from : goal.bounds-network-from
bounds-network-from c = at_place c.args.network _ (known_place c.args.network _ (c.loop-j.j - 1) c.requires.1 (omega arith)) c.requires.0 _ c.from.ensures

pub bounds-network-from-in-loop-j : goal.bounds-network-from-in-loop-j
bounds-network-from-in-loop-j c = at_place c.args.network _ (known_place c.args.network _ c.loop-j.j c.requires.1 c.loop-j-test.true) c.requires.0 _ c.from-in-loop-j.ensures
