-- Words of the contracts of inner functions, no part of what is promised: `sessions` and `search`
-- promise in the words of the other files. Assumes nothing.
use Rattle.std.specs.Prelude.{List, ℕ, suc, get_or}
use Rattle.trellis.specs.Trellis.{Stage}
use Rattle.forwarding.specs.declared.Hop.{Hop}
use Rattle.forwarding.specs.Hops.{no_hop}
use Rattle.forwarding.specs.Route.{stage}

-- hop j of an array, and the stage of the hop after it
abbrev pub hop_at : List Hop → ℕ → Hop
hop_at hops j = get_or hops j no_hop

abbrev pub stage_after : ℕ → List Hop → ℕ → Stage
stage_after T hops j = stage T (hop_at hops j) (hop_at hops (suc j))
