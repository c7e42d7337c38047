-- A trellis of stages, its paths and their keys. A route is one: a stage for each hop, a node for
-- each frame in each colour. Assumes nothing.
use Rattle.std.specs.Prelude.{◌≡◌, Bool, true, List, [], ◌∷◌, ℕ, ◌+◌, ◌<◌}
use Rattle.lists.specs.Order.{Precedes}

-- the cost of reaching a node: unreachable, or a cost
pub data Reach : Type 0 where
  never : Reach
  after : (cost : ℕ) → Reach

-- a stage with `size` nodes, numbered from 0, and the steps into it from a node k of the stage
-- before to a node i: whether there is one, what it costs, and its rank among steps of equal cost
pub record Stage : Type 0 where
  pub size : ℕ
  pub allowed : ℕ → ℕ → Bool
  pub cost : ℕ → ℕ → ℕ
  pub rank : ℕ → ℕ → ℕ

-- a trellis: a first stage, with what its nodes cost to begin at, and then stage after stage
infixl 20 ◌▸◌
pub data Trellis : Type 0 where
  entry : (size : ℕ) (start : ℕ → Reach) → Trellis
  ◌▸◌ : Trellis → Stage → Trellis

-- the trellis with more stages, the first of them first
abbrev pub grow : Trellis → List Stage → Trellis
grow t [] = t
grow t (st ∷ sts) = grow (t ▸ st) sts

-- the number of nodes of the last stage
abbrev pub width : Trellis → ℕ
width (entry n s) = n
width (t ▸ st) = st.size

-- p, the nodes before i with the latest first, leads to the node i of the last stage
abbrev pub Leads : Trellis → ℕ → List ℕ → Type 0
Leads (entry n s) i [] = (i < n) × ((c : ℕ) × (s i ≡ after c))
Leads (entry n s) i (k ∷ p) = ⊥
Leads (t ▸ st) i [] = ⊥
Leads (t ▸ st) i (k ∷ p) = (i < st.size) × (st.allowed k i ≡ true) × Leads t k p

abbrev pub cost_of : Reach → ℕ
cost_of never = 0
cost_of (after c) = c

-- the cost of a path: that of its beginning and of its steps
abbrev pub cost_to : Trellis → ℕ → List ℕ → ℕ
cost_to (entry n s) i p = cost_of (s i)
cost_to (t ▸ st) i [] = 0
cost_to (t ▸ st) i (k ∷ p) = cost_to t k p + st.cost k i

-- going back from the last node: the rank of the step into it and the node before, and so on
abbrev pub behind : Trellis → ℕ → List ℕ → List ℕ
behind (entry n s) i p = []
behind (t ▸ st) i [] = []
behind (t ▸ st) i (k ∷ p) = st.rank k i ∷ k ∷ behind t k p

-- the key of a path: the cost, the last node, then going back the rank of the step and the node
-- before
abbrev pub key : Trellis → ℕ → List ℕ → List ℕ
key t i p = cost_to t i p ∷ i ∷ behind t i p

-- a path as the list of all its nodes, the latest first; its cost and its key
abbrev pub IsPath : Trellis → List ℕ → Type 0
IsPath t [] = ⊥
IsPath t (i ∷ p) = Leads t i p

abbrev pub path_cost : Trellis → List ℕ → ℕ
path_cost t [] = 0
path_cost t (i ∷ p) = cost_to t i p

abbrev pub path_key : Trellis → List ℕ → List ℕ
path_key t [] = []
path_key t (i ∷ p) = key t i p

-- the least path: it is one, and no path comes before it
pub record Least (t : Trellis) (p : List ℕ) : Type 0 where
  pub path : IsPath t p
  pub first : (q : List ℕ) → IsPath t q → Precedes (path_key t p) (path_key t q)
