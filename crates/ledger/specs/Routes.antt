-- The checks of a route: 12 to 15 of the refusal list, each over the whole route before the next. Assumes nothing.
use Rattle.std.specs.Prelude.{Bool, false, not, ◌&&◌, ◌||◌, List, [], ◌∷◌, map, ℕ, ◌%◌, length, eqb, ltb}
use Rattle.refusals.specs.Refusals.{Ruling, refuse_if, refused_or}
use Rattle.network.specs.Network.{Topology}
use Rattle.ledger.specs.Lists.{any_of, any_two}
use Rattle.ledger.specs.Sessions.{link_at}

-- 12: "The route is empty or has over 8 links"
unfoldable pub bad_length : ℕ → Bool
bad_length n = eqb n 0 || ltb 8 n

-- 13: "A link number isn't below the number of links"
unfoldable pub unknown : ℕ → ℕ → Bool
unknown count l = not (ltb l count)

unfoldable pub unknown_link : Topology → List ℕ → Bool
unknown_link net route = any_of (unknown (length net.links)) route

-- 14: "A link appears twice in the route"
unfoldable pub link_twice : List ℕ → Bool
link_twice route = any_two eqb route

-- 15: "Of two adjacent links neither K divides the other"
unfoldable pub apart : ℕ → ℕ → Bool
apart K K' = not (eqb (K % K') 0) && not (eqb (K' % K) 0)

unfoldable pub rates_apart : List ℕ → Bool
rates_apart [] = false
rates_apart (K ∷ []) = false
rates_apart (K ∷ K' ∷ Ks) = apart K K' || rates_apart (K' ∷ Ks)

-- the K of the links of a route
abbrev pub rates_of : Topology → List ℕ → List ℕ
rates_of net route = map (λ l. (link_at net l).frames) route

-- 12 to 15; a check of routes that is added later stands here
unfoldable pub route_check : Topology → List ℕ → Ruling
route_check net route =
    refused_or (refuse_if (bad_length (length route)) 12)
    (refused_or (refuse_if (unknown_link net route) 13)
    (refused_or (refuse_if (link_twice route) 14)
    (refuse_if (rates_apart (rates_of net route)) 15)))
