-- Sessions left out of a table. Assumes nothing.
use mathlib.Core.Path.{◌≡◌, refl, sym, ap, ap₂, ◌∙◌}
use mathlib.Core.Bool.{Bool, true, false, not, cond}
use mathlib.Core.List.{List, [], ◌∷◌, ◌++◌, append-nil}
use Prim.Native.Nat.{ℕ, ◌+◌, ◌<◌, ◌≤◌}
use native.Mathlib.Omega.{arith}
use lib.ListN.{length, get_or, take, set, length-set}
use borrow.Author.Tests.{eq-eqb, ne_eqb}
use Rattle.places.specs.Places.{firsts}
use Rattle.ledger.specs.Lists.{keep}
use Rattle.ledger.specs.Sessions.{Session}
use Rattle.ledger.specs.Calls.{other_than}
use Rattle.table.specs.declared.Place.{Place}
use Rattle.table.specs.Table.{session_of, no_place, in_places}
use Rattle.table.proofs.Live.{sessions, one_more, in_set}

keep_snoc : {A : Type 0} (p : A → Bool) (xs : List A) (x : A) → keep p (xs ++ (x ∷ [])) ≡ keep p xs ++ cond (p x) (x ∷ []) []
keep_snoc p [] x = refl
keep_snoc {A} p (y ∷ ys) x = go (p y) (keep_snoc p ys x)
  where
    go : (b : Bool) → keep p (ys ++ (x ∷ [])) ≡ keep p ys ++ cond (p x) (x ∷ []) []
        → cond b (y ∷ keep p (ys ++ (x ∷ []))) (keep p (ys ++ (x ∷ []))) ≡ cond b (y ∷ keep p ys) (keep p ys) ++ cond (p x) (x ∷ []) []
    go true ih = ap (λ (l : List A). y ∷ l) ih
    go false ih = ih

-- the first places have what is left of the first i sessions without a number
module _ (number : ℕ) (xs : List Place) where
  pub record Left (i kept : ℕ) (next : List Place) : Type 0 where
    pub fewer : kept ≤ i
    pub long : length next ≡ 96
    pub same : in_places kept next ≡ keep (other_than number) (sessions (take i xs))

  pub none_left : (places : List Place) → length places ≡ 96 → Left 0 0 places
  unfolding firsts
  none_left places e = record { fewer = omega arith; long = e; same = refl }

  module _ (i kept : ℕ) (next : List Place) (f : Left i kept next) (h : i < length xs) where
    grown : (b : Bool) → other_than number (session_of (get_or xs i no_place)) ≡ b
        → keep (other_than number) (sessions (take (i + 1) xs)) ≡ in_places kept next ++ cond b (session_of (get_or xs i no_place) ∷ []) []
    grown b e =
        ap (keep (other_than number)) (one_more xs i h)
        ∙ keep_snoc (other_than number) (sessions (take i xs)) (session_of (get_or xs i no_place))
        ∙ ap₂ (λ (l : List Session) (c : Bool). l ++ cond c (session_of (get_or xs i no_place) ∷ []) []) (sym f.same) e

    pub kept_one : length xs ≤ 96 → ((get_or xs i no_place).number ≡ number → ⊥) → Left (i + 1) (kept + 1) (set next kept (get_or xs i no_place))
    kept_one few e =
        record {
          fewer = omega (arith, f.fewer);
          long = length-set next kept (get_or xs i no_place) ∙ f.long;
          same = in_set kept next (get_or xs i no_place) (omega (arith, f.long, f.fewer)) ∙ sym (grown true (ap not (ne_eqb _ _ e)));
        }

    pub left_one : (get_or xs i no_place).number ≡ number → Left (i + 1) kept next
    left_one e =
        record {
          fewer = omega (arith, f.fewer);
          long = f.long;
          same = sym (grown false (ap not (eq-eqb _ _ e)) ∙ append-nil (in_places kept next));
        }
