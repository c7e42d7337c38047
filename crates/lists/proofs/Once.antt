-- Lists without repetition that have the same members are equally long; lists without members; and
-- maps that are equal on a list, member by member. Assumes nothing.
use mathlib.Core.Path.{◌≡◌, refl, sym, ap}
use mathlib.Core.List.Memᴰ
use mathlib.Core.List.{List, [], ◌∷◌, ◌++◌, Memᴰ, map, head-eq_of_cons-eq, tail-eq_of_cons-eq}
use mathlib.Core.Logic.{⊎_elim}
use Prim.Native.Nat.{◌≤◌}
use native.Mathlib.Nat.{le_antisymm}
use native.Mathlib.Omega.{arith}
use lib.ListN.{length, length-append}
use Rattle.lists.specs.Once.{EachOnce}

module _ {A : Type 0} where
  -- a list with a member x, cut at it
  record At (x : A) (ys : List A) : Type 0 where
    pub front : List A
    pub back : List A
    pub is : ys ≡ front ++ (x ∷ back)

  at : (x : A) (ys : List A) → Memᴰ x ys → At x ys
  at x [] m = absurd (Memᴰ.not-nil m)
  at x (y ∷ ys) m =
      ⊎_elim (λ e. record { front = []; back = ys; is = ap (λ (z : A). z ∷ ys) (sym e) })
      (λ t. let s = at x ys t in record { front = y ∷ s.front; back = s.back; is = ap (λ (l : List A). y ∷ l) s.is }) (Memᴰ.cases_cons m)

  -- another member of the list is one of what is left without x
  left : (x z : A) (ys : List A) (s : At x ys) → (z ≡ x → ⊥) → Memᴰ z ys → Memᴰ z (s.front ++ s.back)
  left x z ys s n m =
      ⊎_elim (λ l. Memᴰ.append_left s.back l)
      (λ r. ⊎_elim (λ e. absurd (n e)) (λ t. Memᴰ.append_right s.front t) (Memᴰ.cases_cons r))
      (Memᴰ.append_cases s.front (rw s.is at m))

  pub once_length : (xs ys : List A) → EachOnce xs → ((x : A) → Memᴰ x xs → Memᴰ x ys) → length xs ≤ length ys
  once_length [] ys o sub = omega arith
  once_length (x ∷ xs) ys o sub =
      let s : At x ys = at x ys (sub x (Memᴰ.head refl)) in
      let rest : length xs ≤ length (s.front ++ s.back) =
      once_length xs (s.front ++ s.back) o.1 (λ z m. left x z ys s (λ e. o.0 (Memᴰ.cast (sym e) m)) (sub z (Memᴰ.tail m))) in
      omega (arith, rest, length-append s.front s.back, length-append s.front (x ∷ s.back), ap length s.is)

  pub same_members : (xs ys : List A) → EachOnce xs → EachOnce ys → ((x : A) → Memᴰ x xs → Memᴰ x ys) → ((x : A) → Memᴰ x ys → Memᴰ x xs) → length xs ≡ length ys
  same_members xs ys o p f g = le_antisymm (once_length xs ys o f) (once_length ys xs p g)

  -- a list has no member exactly when its length is 0
  pub empty_none : (l : List A) → length l ≡ 0 → (x : A) → Memᴰ x l → ⊥
  empty_none [] e x m = Memᴰ.not-nil m
  empty_none (y ∷ l) e x m = omega arith

  pub none_empty : (l : List A) → ((x : A) → Memᴰ x l → ⊥) → length l ≡ 0
  none_empty [] h = refl
  none_empty (y ∷ l) h = absurd (h y (Memᴰ.head refl))

-- maps that are equal on a list are equal at each of its members
pub map_at : {A X : Type 0} (f g : A → X) (l : List A) → map f l ≡ map g l → (x : A) → Memᴰ x l → f x ≡ g x
map_at f g [] e x m = absurd (Memᴰ.not-nil m)
map_at f g (y ∷ l) e x m = ⊎_elim (λ q. rw q (head-eq_of_cons-eq e)) (map_at f g l (tail-eq_of_cons-eq e) x) (Memᴰ.cases_cons m)
