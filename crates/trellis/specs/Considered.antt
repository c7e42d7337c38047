-- The count of steps considered ("transitions considered" of document 01), by its pairs.
-- Assumes nothing.
use Rattle.std.specs.Prelude.{Bool, true, false, ◌&&◌, List, [], ◌∷◌, ℕ, ◌+◌}
use Rattle.lists.specs.Count.{sum_below, count_below}
use Rattle.trellis.specs.Trellis.{Trellis, entry, ◌▸◌, width}
use Rattle.trellis.specs.Paths.{paths_to}

-- whether a list has a member
abbrev pub has_member {ℓ} : {A : Type ℓ} → List A → Bool
has_member [] = false
has_member (x ∷ xs) = true

-- whether some path ends in the node k
abbrev pub ends_path : Trellis → ℕ → Bool
ends_path t k = has_member (paths_to t k)

-- the pairs of a node k in which some path of the stages before ends, and a node i to which a step
-- from k is allowed, over all later stages
abbrev pub considered : Trellis → ℕ
considered (entry n s) = 0
considered (t ▸ st) = considered t + sum_below (width t) (λ k. count_below st.size (λ i. ends_path t k && st.allowed k i))
