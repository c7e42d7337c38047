-- A route's trellis by the number of its hops, as a loop over the hops builds it. Assumes nothing.
use mathlib.Core.Path.{◌≡◌, refl, ◌∙◌, ap, ap₂}
use mathlib.Core.List.{List, [], ◌∷◌}
use Prim.Native.Nat.{ℕ, zero, suc, ◌<◌, ◌≤◌, suc-le-suc}
use native.Mathlib.Omega.{arith}
use lib.ListN.{get_or, length, take}
use lib.Seq.{get_or-take, length-take-le}
use Rattle.trellis.specs.Trellis.{Stage, Trellis, entry, grow}
use Rattle.trellis.proofs.Ladder.{ladder, between, between_tab, grow_tab, ladder_cong}
use Rattle.forwarding.specs.declared.Hop.{Hop}
use Rattle.forwarding.specs.Hops.{no_hop, HopReady, AllReady}
use Rattle.forwarding.specs.Inner.{hop_at, stage_after}
use Rattle.forwarding.specs.Route.{nodes, starts, stage, stages, route_trellis}

stages_between : (T : ℕ) (h : Hop) (hs : List Hop) → stages T h hs ≡ between (stage T) h hs
stages_between T h [] = refl
stages_between T h (g ∷ gs) = ap (λ (x : List Stage). stage T h g ∷ x) (stages_between T g gs)

pub route_ladder : (T : ℕ) (h : Hop) (hs : List Hop) → route_trellis T (h ∷ hs) ≡ ladder (entry (nodes h) (starts h)) (stage_after T (h ∷ hs)) (length hs)
route_ladder T h hs =
    ap (grow (entry (nodes h) (starts h))) (stages_between T h hs ∙ between_tab (stage T) no_hop h hs)
    ∙ grow_tab (entry (nodes h) (starts h)) (stage_after T (h ∷ hs)) (length hs)

-- the trellis of hops 0 to j is that of the first j + 1 hops
pub first_hops : (T : ℕ) (hops : List Hop) (j : ℕ) → j < length hops
    → route_trellis T (take (suc j) hops) ≡ ladder (entry (nodes (hop_at hops 0)) (starts (hop_at hops 0))) (stage_after T hops) j
first_hops T [] j l = absurd (omega arith)
first_hops T (h ∷ hs) j l = route_ladder T h (take j hs) ∙ ap (ladder start (stage_after T (h ∷ take j hs))) (length-take-le j hs (omega arith)) ∙ ladder_cong start (stage_after T (h ∷ take j hs)) (stage_after T (h ∷ hs)) j same
  where
    start : Trellis
    start = entry (nodes h) (starts h)

    before : (m : ℕ) → m < j → get_or (h ∷ take j hs) m no_hop ≡ get_or (h ∷ hs) m no_hop
    before zero n = refl
    before (suc m) n = get_or-take j hs m no_hop (omega arith)

    same : (m : ℕ) → m < j → stage_after T (h ∷ take j hs) m ≡ stage_after T (h ∷ hs) m
    same m n = ap₂ (stage T) (before m n) (get_or-take j hs m no_hop n)

-- each of the first n hops is ready
pub all_ready : (T : ℕ) (hops : List Hop) (n : ℕ) → n ≤ length hops → ((j : ℕ) → j < n → HopReady T (get_or hops j no_hop)) → AllReady T (take n hops)
all_ready T hops zero l p = tt
all_ready T [] (suc n) l p = absurd (omega arith)
all_ready T (h ∷ hops) (suc n) l p = (p 0 (omega arith), all_ready T hops n (omega arith) (λ j m. p (suc j) (suc-le-suc m)))
