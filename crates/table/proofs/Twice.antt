-- Two of a list that pass a test together, found one after the other. Assumes nothing.
use mathlib.Core.Path.{◌≡◌, refl, sym, ap, ap₂, ◌∙◌}
use mathlib.Core.Bool.{Bool, true, false, ◌||◌, or_assoc, or-true}
use mathlib.Core.List.{List, [], ◌∷◌, ◌++◌, map-append}
use Prim.Native.Nat.{ℕ, ◌+◌, ◌<◌}
use lib.ListN.{length, get_or, take, drop, take-append-drop}
use Rattle.ledger.specs.Lists.{any_of, any_two}
use Rattle.ledger.specs.Sessions.{Session}
use Rattle.ledger.proofs.Lists.{any_two_snoc}
use Rattle.table.specs.declared.Place.{Place}
use Rattle.table.specs.Table.{session_of, no_place}
use Rattle.table.proofs.Live.{sessions, one_more}

any_append : {A : Type 0} (p : A → Bool) (xs ys : List A) → any_of p (xs ++ ys) ≡ (any_of p xs || any_of p ys)
any_append p [] ys = refl
any_append p (x ∷ xs) ys = ap (λ (b : Bool). p x || b) (any_append p xs ys) ∙ sym (or_assoc (p x) (any_of p xs) (any_of p ys))

two_append : {A : Type 0} (r : A → A → Bool) (xs ys : List A) → any_two r xs ≡ true → any_two r (xs ++ ys) ≡ true
two_append r [] ys h = cc
two_append r (x ∷ xs) ys h = rw (any_append (r x) xs ys) (go (any_of (r x) xs) (any_two r xs) h (two_append r xs ys))
  where
    go : (a b : Bool) → (a || b) ≡ true → (b ≡ true → any_two r (xs ++ ys) ≡ true) → ((a || any_of (r x) ys) || any_two r (xs ++ ys)) ≡ true
    go true b e ih = refl
    go false b e ih = rw (ih e) (or-true (any_of (r x) ys))

module _ (r : Session → Session → Bool) (xs : List Place) (i : ℕ) (l : i < length xs) (b : Bool) (e : b ≡ any_of (λ s. r s (session_of (get_or xs i no_place))) (sessions (take i xs))) where
  two_next : any_two r (sessions (take (i + 1) xs)) ≡ (any_two r (sessions (take i xs)) || b)
  two_next = ap (any_two r) (one_more xs i l) ∙ any_two_snoc r (sessions (take i xs)) (session_of (get_or xs i no_place)) ∙ ap (λ (x : Bool). any_two r (sessions (take i xs)) || x) (sym e)

  -- two of the first i + 1 sessions pass
  pub two_found : b ≡ true → true ≡ any_two r (sessions xs)
  two_found t =
      let early : any_two r (sessions (take (i + 1) xs)) ≡ true = two_next ∙ ap (λ (x : Bool). any_two r (sessions (take i xs)) || x) t ∙ or-true (any_two r (sessions (take i xs))) in
      sym (ap (λ (l : List Place). any_two r (sessions l)) (sym (take-append-drop (i + 1) xs)) ∙ rw map-append (two_append r (sessions (take (i + 1) xs)) (sessions (drop (i + 1) xs)) early))

  -- no two of them do
  pub two_missed : any_two r (sessions (take i xs)) ≡ false → b ≡ false → any_two r (sessions (take (i + 1) xs)) ≡ false
  two_missed none f = two_next ∙ ap₂ (λ (x y : Bool). x || y) none f
