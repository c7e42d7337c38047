-- What the place of a number says: whether it is live, and what a lookup gives. Assumes nothing.
use Rattle.std.proofs.Common.{◌≡◌, ℕ, zero, suc, ◌+◌, ◌<◌, ◌≤◌, Bool, true, false, not, ◌||◌, cond, List, [], ◌∷◌, length, get_or, map, take, refl, sym, ap, ◌∙◌, Option, None, Some, eqb, nat_lt, arith}
use Rattle.std.specs.List.{position, prefix_len}
use Rattle.std.specs.Option.{is_some}
use Rattle.std.proofs.lemmas.List.Quantifiers.{position-Some}
use Rattle.std.proofs.Math.ListN.{length-map}
use borrow.Author.Tests.{ltb-false}
use Rattle.places.proofs.Firsts.{firsts_take}
use Rattle.refusals.specs.Refusals.{given, refused}
use Rattle.ledger.specs.Lists.{any_of}
use Rattle.ledger.specs.Sessions.{Session, is_live}
use Rattle.ledger.specs.Calls.{look_in}
use Rattle.ledger.proofs.Shown.{not_shown_lem}
use Rattle.table.specs.declared.Place.{Place}
use Rattle.table.specs.Table.{session_of, no_place, in_places, place_of}

-- a position among mapped elements
prefix_map : {A B : Type 0} (p : B → Bool) (f : A → B) (xs : List A) → prefix_len p (map f xs) ≡ prefix_len (λ x. p (f x)) xs
prefix_map p f [] = refl
prefix_map p f (x ∷ xs) = ap (λ n. cond (p (f x)) (1 + n) 0) (prefix_map p f xs)

position_map : {A B : Type 0} (p : B → Bool) (f : A → B) (xs : List A) → position p (map f xs) ≡ position (λ x. p (f x)) xs
position_map p f xs = rw (prefix_map (λ b. not (p b)) f xs, length-map xs f)

-- the place of a number, by the stored places
pub stored_place : (n live : ℕ) (places : List Place) → live ≤ length places → position (λ (p : Place). eqb p.number n) (take live places) ≡ place_of n (in_places live places)
stored_place n live places h = sym (position_map (λ (s : Session). eqb s.number n) session_of (take live places)) ∙ ap (λ l. place_of n (map session_of l)) (sym (firsts_take live places no_place h))

-- no element passes where none has a position
none_passes : {A : Type 0} (p : A → Bool) (xs : List A) → length xs ≤ prefix_len (λ x. not (p x)) xs → any_of p xs ≡ false
none_passes p [] h = refl
none_passes p (x ∷ xs) h = go (p x) h (none_passes p xs)
  where
    go : (b : Bool) → suc (length xs) ≤ cond (not b) (1 + prefix_len (λ y. not (p y)) xs) 0 → (length xs ≤ prefix_len (λ y. not (p y)) xs → any_of p xs ≡ false) → (b || any_of p xs) ≡ false
    go true l ih = absurd (omega arith)
    go false l ih = ih (omega arith)

no_position : {A : Type 0} (p : A → Bool) (xs : List A) → position p xs ≡ None → any_of p xs ≡ false
no_position {A} p xs e = go (nat_lt (prefix_len (λ x. not (p x)) xs) (length xs)) refl e
  where
    go : (b : Bool) → nat_lt (prefix_len (λ x. not (p x)) xs) (length xs) ≡ b → cond b (Some (prefix_len (λ x. not (p x)) xs)) None ≡ None → any_of p xs ≡ false
    go true t q = cc
    go false t q = none_passes p xs (ltb-false _ _ t)

-- an element that passes
some_passes : {A : Type 0} (p : A → Bool) (xs : List A) (i : ℕ) (d : A) → i < length xs → p (get_or xs i d) ≡ true → any_of p xs ≡ true
some_passes p [] i d h e = absurd (omega arith)
some_passes p (x ∷ xs) zero d h e = rw e
some_passes p (x ∷ xs) (suc i) d h e = go (p x) (some_passes p xs i d (omega arith) e)
  where
    go : (b : Bool) → any_of p xs ≡ true → (b || any_of p xs) ≡ true
    go true t = refl
    go false t = t

-- the first session of a number is the one that lookup gives
first_shown : (n : ℕ) (ss : List Session) (i : ℕ) (d : Session) → i < length ss → eqb (get_or ss i d).number n ≡ true → ((k : ℕ) → k < i → eqb (get_or ss k d).number n ≡ false) → look_in n ss ≡ given (get_or ss i d)
first_shown n [] i d h e before = absurd (omega arith)
first_shown n (s ∷ ss) zero d h e before = rw e
first_shown n (s ∷ ss) (suc i) d h e before =
    let b : eqb s.number n ≡ false = before 0 (omega arith) in
    rw b (first_shown n ss i d (omega arith) e (λ k l. before (suc k) (omega arith)))

module _ (n i : ℕ) (ss : List Session) (e : place_of n ss ≡ Some i) where
  told : (d : Session) → (i < length ss) × (eqb (get_or ss i d).number n ≡ true) × ((k : ℕ) → k < i → eqb (get_or ss k d).number n ≡ false)
  told d = position-Some (λ (s : Session). eqb s.number n) ss i d e

  -- a place is one of the list
  pub stands_in : i < length ss
  stands_in = (told (session_of no_place)).0

  -- a number that has a place is live, and lookup gives the session there
  pub stands_live : is_live n ss ≡ true
  stands_live = let d = session_of no_place in some_passes (λ (s : Session). eqb s.number n) ss i d (told d).0 (told d).1

  pub stands_shown : (d : Session) → look_in n ss ≡ given (get_or ss i d)
  stands_shown d = let p = told d in first_shown n ss i d p.0 p.1 p.2

module _ (n : ℕ) (ss : List Session) (e : place_of n ss ≡ None) where
  -- a number without a place is not live, and lookup refuses it
  pub gone_live : is_live n ss ≡ false
  gone_live = no_position (λ (s : Session). eqb s.number n) ss e

  pub gone_refused : look_in n ss ≡ refused 19
  gone_refused = not_shown_lem n ss gone_live

-- a number is live where it has a place
pub placed_live : (n : ℕ) (ss : List Session) → is_some (place_of n ss) ≡ is_live n ss
placed_live n ss = go (place_of n ss) refl
  where
    go : (o : Option ℕ) → place_of n ss ≡ o → is_some o ≡ is_live n ss
    go None e = sym (gone_live n ss e)
    go (Some i) e = sym (stands_live n i ss e)
