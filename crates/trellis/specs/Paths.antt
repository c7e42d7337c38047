-- The list of all paths of a trellis. Assumes nothing.
use Rattle.std.specs.Prelude.{Bool, true, false, ◌&&◌, ◌↔◌, ℕ, zero, suc, ltb}
use mathlib.Core.List.{List, [], ◌∷◌, ◌++◌, map, Memᴰ}
use Rattle.lists.specs.Once.{EachOnce}
use Rattle.trellis.specs.Trellis.{Reach, never, after, Trellis, entry, ◌▸◌, width, IsPath}

-- whether anything leads there
abbrev pub reached : Reach → Bool
reached never = false
reached (after c) = true

-- a list where a test passes, and none where it fails
abbrev pub list_if {ℓ} : {A : Type ℓ} → Bool → List A → List A
list_if true l = l
list_if false l = []

-- the lists of the numbers below n, one after the other
abbrev pub gather {ℓ} : {A : Type ℓ} → ℕ → (ℕ → List A) → List A
gather zero g = []
gather (suc n) g = gather n g ++ g n

-- the paths to the node i, as the nodes before it, the latest first
abbrev pub paths_to : Trellis → ℕ → List (List ℕ)
paths_to (entry n s) i = list_if (ltb i n && reached (s i)) ([] ∷ [])
paths_to (t ▸ st) i = list_if (ltb i st.size) (gather (width t) (λ k. list_if (st.allowed k i) (map (λ p. k ∷ p) (paths_to t k))))

-- all paths, each as the list of its nodes, the latest first
abbrev pub all_paths : Trellis → List (List ℕ)
all_paths t = gather (width t) (λ i. map (λ p. i ∷ p) (paths_to t i))

-- THE LIST OF ALL PATHS has each path, nothing else, and nothing twice
pub record ListsAll (t : Trellis) : Type 0 where
  pub listed : (p : List ℕ) → Memᴰ p (all_paths t) ↔ IsPath t p
  pub once : EachOnce (all_paths t)

abbrev pub AllPathsListed : Type 0
AllPathsListed = (t : Trellis) → ListsAll t
