-- Paths read from the first stage on, as lists of another type: a schedule is a path of its route's
-- trellis. Assumes nothing.
use Rattle.std.specs.Prelude.{◌≡◌, List, reverse, ◌↔◌, ℕ}
use Rattle.lists.specs.Order.{Precedes}
use Rattle.trellis.specs.Trellis.{Trellis, IsPath, path_cost, path_key}

-- the lists with S, a member for each stage, first stage first, are the paths of t: `nodes` gives a
-- list's nodes, `named` the nodes' list; costs are equal, and keys order lists as they order paths
pub record ArePaths (A : Type 0) (t : Trellis) (S : List A → Type 0) (nodes : List A → List ℕ) (named : List ℕ → List A) (cost : List A → ℕ) (key : List A → List ℕ) : Type 0 where
  pub path : (w : List A) → S w → IsPath t (reverse (nodes w))
  pub read : (p : List ℕ) → IsPath t p → S (named (reverse p))
  pub there : (p : List ℕ) → IsPath t p → nodes (named (reverse p)) ≡ reverse p
  pub again : (w : List A) → S w → named (nodes w) ≡ w
  pub costs : (w : List A) → S w → path_cost t (reverse (nodes w)) ≡ cost w
  pub keys : (w v : List A) → S w → S v → Precedes (path_key t (reverse (nodes w))) (path_key t (reverse (nodes v))) ↔ Precedes (key w) (key v)
