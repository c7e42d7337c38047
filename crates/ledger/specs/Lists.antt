-- Tests over lists. Assumes nothing.
use Rattle.std.specs.Prelude.{Bool, true, false, ◌&&◌, ◌||◌, cond, List, [], ◌∷◌}

module _ {A : Type 0} where
  -- every element passes
  abbrev pub all_of : (A → Bool) → List A → Bool
  all_of p [] = true
  all_of p (x ∷ xs) = p x && all_of p xs

  -- some element passes
  abbrev pub any_of : (A → Bool) → List A → Bool
  any_of p [] = false
  any_of p (x ∷ xs) = p x || any_of p xs

  -- some element and a later one pass together
  abbrev pub any_two : (A → A → Bool) → List A → Bool
  any_two r [] = false
  any_two r (x ∷ xs) = any_of (r x) xs || any_two r xs

  -- the elements that pass, in their order
  abbrev pub keep : (A → Bool) → List A → List A
  keep p [] = []
  keep p (x ∷ xs) = cond (p x) (x ∷ keep p xs) (keep p xs)

  -- two lists that are as long as each other and agree place by place
  abbrev pub same_list : (A → A → Bool) → List A → List A → Bool
  same_list r [] [] = true
  same_list r [] (y ∷ ys) = false
  same_list r (x ∷ xs) [] = false
  same_list r (x ∷ xs) (y ∷ ys) = r x y && same_list r xs ys
