-- The answer that the rules ask for: the least of the list of all paths, with no search in it.
-- Assumes nothing.
use Rattle.std.specs.Prelude.{◌≡◌, cond, List, [], ◌∷◌, reverse, ℕ}
use Rattle.lists.specs.Order.{precedes}
use Rattle.trellis.specs.Trellis.{Trellis, IsPath, path_cost, path_key, Least}
use Rattle.trellis.specs.Paths.{all_paths}
use Rattle.trellis.specs.Considered.{considered}

-- a path's cost, the count of steps considered and the path's nodes, first stage first; or no path,
-- and the count
pub data Answer (A : Type 0) : Type 0 where
  found : (cost count : ℕ) (nodes : List A) → Answer A
  blocked : (count : ℕ) → Answer A

-- the nodes of an answer, first stage first
abbrev pub nodes_of : {A : Type 0} → Answer A → List A
nodes_of (found c n nodes) = nodes
nodes_of (blocked n) = []

-- the same answer with its nodes renamed
abbrev pub renamed : {A B : Type 0} → (List A → List B) → Answer A → Answer B
renamed f (found c n nodes) = found c n (f nodes)
renamed f (blocked n) = blocked n

-- the least of x and the members of a list, by their keys
abbrev pub least_by : (List ℕ → List ℕ) → List ℕ → List (List ℕ) → List ℕ
least_by key x [] = x
least_by key x (y ∷ l) = least_by key (cond (precedes (key x) (key y)) x y) l

abbrev pub answer_from : Trellis → List (List ℕ) → Answer ℕ
answer_from t [] = blocked (considered t)
answer_from t (p ∷ l) = let q = least_by (path_key t) p l in found (path_cost t q) (considered t) (reverse q)

-- THE ANSWER: the least of all paths, or blocked where there are none
abbrev pub answer : Trellis → Answer ℕ
answer t = answer_from t (all_paths t)

-- `found c n nodes`: the least path, its cost c; `blocked n`: there is no path; n is the count
abbrev pub IsAnswer : Trellis → Answer ℕ → Type 0
IsAnswer t (found c n nodes) = Least t (reverse nodes) × (path_cost t (reverse nodes) ≡ c) × (n ≡ considered t)
IsAnswer t (blocked n) = ((p : List ℕ) → IsPath t p → ⊥) × (n ≡ considered t)

-- THE ANSWER IS RIGHT, AND THERE IS NO OTHER
abbrev pub AnswerRight : Type 0
AnswerRight = (t : Trellis) → IsAnswer t (answer t)

abbrev pub AnswerOnly : Type 0
AnswerOnly = (t : Trellis) (a b : Answer ℕ) → IsAnswer t a → IsAnswer t b → a ≡ b
