-- Survivor search (source document 000): for each stage the least cost to each of its nodes, from
-- that of the stage before. Assumes nothing.
use mathlib.Core.Bool.{Bool, true, false, ◌&&◌, cond}
use mathlib.Core.List.{List, [], ◌∷◌, ◌++◌, reverse}
use Prim.Native.Nat.{ℕ, zero, suc, ◌+◌}
use lib.Dec.{ltb, eqb}
use lib.ListN.{get_or, length}
use Rattle.lists.specs.Count.{sum_below, count_below}
use Rattle.trellis.specs.Trellis.{Reach, never, after, Stage, Trellis, entry, ◌▸◌}
use Rattle.trellis.specs.Paths.{reached}
use Rattle.trellis.specs.Answer.{Answer, found, blocked}

-- the table of f at the numbers below n
abbrev pub tab {ℓ} : {A : Type ℓ} → ℕ → (ℕ → A) → List A
tab zero f = []
tab (suc n) f = tab n f ++ (f n ∷ [])

-- what a node offers: nothing, or a cost and a rank
pub data Offer : Type 0 where
  none : Offer
  offer : (cost rank : ℕ) → Offer

-- the best offer so far, with the node that made it
pub data Best : Type 0 where
  nobody : Best
  best : (cost rank node : ℕ) → Best

-- a later node's offer is taken if its cost is smaller, or the cost is equal and its rank is
-- smaller
abbrev pub better : Best → Offer → ℕ → Best
better b none k = b
better nobody (offer c r) k = best c r k
better (best c₀ r₀ k₀) (offer c r) k =
    cond (ltb c c₀) (best c r k) (cond (eqb c c₀ && ltb r r₀) (best c r k) (best c₀ r₀ k₀))

-- the best of the offers of the nodes below n
abbrev pub best_of : (ℕ → Offer) → ℕ → Best
best_of f zero = nobody
best_of f (suc n) = better (best_of f n) (f n) n

abbrev pub offer_if : Bool → ℕ → ℕ → Offer
offer_if true c r = offer c r
offer_if false c r = none

-- what the node k, come to as `d` says, offers to the node i of the stage
abbrev pub offer_of : Stage → ℕ → Reach → ℕ → Offer
offer_of st i never k = none
offer_of st i (after c) k = offer_if (st.allowed k i) (c + st.cost k i) (st.rank k i)

abbrev pub reach_of : Best → Reach
reach_of nobody = never
reach_of (best c r k) = after c

abbrev pub node_of : Best → ℕ
node_of nobody = 0
node_of (best c r k) = k

-- the best way into node i of a stage after a row of n nodes
abbrev pub into : List Reach → Stage → ℕ → Best
into row st i = best_of (λ k. offer_of st i (get_or row k never) k) (length row)

-- the least cost to each node of the last stage
abbrev pub row : Trellis → List Reach
row (entry n s) = tab n s
row (t ▸ st) = tab st.size (λ i. reach_of (into (row t) st i))

-- the nodes before i on the surviving path to it, the latest first
abbrev pub back : Trellis → ℕ → List ℕ
back (entry n s) i = []
back (t ▸ st) i = let k = node_of (into (row t) st i) in k ∷ back t k

abbrev pub last_offer : Reach → Offer
last_offer never = none
last_offer (after c) = offer c 0

-- the least cost of all, and the smallest node of the last stage that has it
abbrev pub final : Trellis → Best
final t = best_of (λ i. last_offer (get_or (row t) i never)) (length (row t))

-- the allowed steps from a node that some path leads to, for each node in turn
abbrev pub scanned : Trellis → ℕ
scanned (entry n s) = 0
scanned (t ▸ st) = scanned t + sum_below (length (row t)) (λ k. count_below st.size (λ i. reached (get_or (row t) k never) && st.allowed k i))

abbrev pub answer_of : Trellis → ℕ → Best → Answer ℕ
answer_of t n nobody = blocked n
answer_of t n (best c r i) = found c n (reverse (i ∷ back t i))

-- what survivor search answers (`survivor_right`)
abbrev pub survivor : Trellis → Answer ℕ
survivor t = answer_of t (scanned t) (final t)
