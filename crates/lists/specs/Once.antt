-- Lists in which nothing stands twice. Assumes nothing.
use mathlib.Core.List.{List, [], ◌∷◌, Memᴰ}

-- no member of the list stands in it twice
abbrev pub EachOnce {ℓ} : {A : Type ℓ} → List A → Type ℓ
EachOnce [] = Unit
EachOnce (x ∷ xs) = (Memᴰ x xs → ⊥) × EachOnce xs
