-- A spot and its node determine each other; a sum over the nodes of a hop is one over its frames
-- and its colours. Assumes nothing.
use mathlib.Core.Path.{◌≡◌, refl, ◌∙◌, ap, ap₂}
use mathlib.Core.List.{List, [], ◌∷◌}
use Prim.Native.Nat.{ℕ, ◌<◌}
use Rattle.lists.specs.Count.{sum_below}
use Rattle.lists.proofs.Count.{sum_cong}
use Rattle.lists.proofs.Sums.{sum_pairs}
use Rattle.lists.proofs.Digits.{digit_first, digit_second, digits_back, digits_below, below_first, below_second}
use Rattle.forwarding.specs.declared.Hop.{Hop}
use Rattle.forwarding.specs.Forwarding.{Spot, IsOn}
use Rattle.forwarding.specs.Schedule.{ColoursJoined}
use Rattle.forwarding.specs.Route.{nodes, node_at, spot_at}

pub spot_back : (h : Hop) (x : Spot) → x.colour < h.colours → spot_at h (node_at h x) ≡ x
spot_back h x l = ap₂ (λ (a b : ℕ). record { frame = a; colour = b }) (digit_first h.colours x.frame x.colour l) (digit_second h.colours x.frame x.colour l)

pub node_back : (h : Hop) (n : ℕ) → node_at h (spot_at h n) ≡ n
node_back h n = digits_back h.colours n

pub node_in_lem : (h : Hop) (x : Spot) → IsOn h x → node_at h x < nodes h
node_in_lem h x o = digits_below h.frames h.colours x.frame x.colour o.0 o.1

pub spot_on : (h : Hop) (n : ℕ) → n < nodes h → IsOn h (spot_at h n)
spot_on h n l = (below_first h.frames h.colours n l, below_second h.frames h.colours n l)

-- FRAMES AND COLOURS DETERMINE THE LIST
pub colours_joined : ColoursJoined
colours_joined [] = refl
colours_joined (x ∷ xs) = ap (λ (l : List Spot). x ∷ l) (colours_joined xs)

-- A SUM OVER THE NODES is one over the frames and the colours
pub sum_spots : (h : Hop) (f : Spot → ℕ) → sum_below (nodes h) (λ n. f (spot_at h n)) ≡ sum_below h.frames (λ i. sum_below h.colours (λ c. f (record { frame = i; colour = c })))
sum_spots h f =
    sum_pairs h.frames h.colours (λ n. f (spot_at h n))
    ∙ sum_cong h.frames (λ i. sum_below h.colours (λ c. f (spot_at h (node_at h (record { frame = i; colour = c }))))) (λ i. sum_below h.colours (λ c. f (record { frame = i; colour = c })))
    (λ i l. sum_cong h.colours (λ c. f (spot_at h (node_at h (record { frame = i; colour = c })))) (λ c. f (record { frame = i; colour = c }))
    (λ c m. ap f (spot_back h (record { frame = i; colour = c }) m)))
