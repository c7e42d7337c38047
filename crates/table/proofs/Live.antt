-- The sessions in the first places of a table. Assumes nothing.
use mathlib.Core.Path.{◌≡◌, sym, ap, ◌∙◌}
use mathlib.Core.List.{List, [], ◌∷◌, ◌++◌, map, map-append}
use Prim.Native.Nat.{ℕ, ◌+◌, ◌<◌, ◌≤◌}
use native.Mathlib.Omega.{arith}
use lib.ListN.{length, get_or, take, set, length-map}
use lib.Seq.{get_or-set_same, take_all}
use Rattle.std.proofs.lemmas.List.{map_more, get_or-take, length-take}
use Rattle.places.specs.Places.{firsts}
use Rattle.places.proofs.Firsts.{length_firsts, firsts_snoc, firsts_past, firsts_take}
use Rattle.ledger.specs.Sessions.{Session}
use Rattle.table.specs.declared.Place.{Place}
use Rattle.table.specs.declared.Table.{Table}
use Rattle.table.specs.Table.{session_of, no_place, in_places}
use Rattle.table.specs.Inner.{PlaceWithin, AllWithin}

-- the length of a list, by what it is mapped to
pub mapped_length : {A B : Type 0} (n : ℕ) (f : A → B) (xs : List A) → length (map f xs) ≡ n → length xs ≡ n
mapped_length n f xs e = sym (length-map xs f) ∙ e

-- the sessions of some places
abbrev pub sessions : List Place → List Session
sessions xs = map session_of xs

-- one place more
pub one_more : (xs : List Place) (i : ℕ) → i < length xs → sessions (take (i + 1) xs) ≡ sessions (take i xs) ++ (session_of (get_or xs i no_place) ∷ [])
one_more xs i h = map_more session_of xs i no_place h

module _ (n : ℕ) (places : List Place) where
  pub in_length : length (in_places n places) ≡ n
  in_length = length-map (firsts n places no_place) session_of ∙ length_firsts n places no_place

  -- places that are all there
  pub in_taken : n ≤ length places → in_places n places ≡ sessions (take n places)
  in_taken h = ap sessions (firsts_take n places no_place h)

  -- and the places before the end of those
  pub in_all : (i : ℕ) → n ≤ length places → length (take n places) ≤ i → sessions (take i (take n places)) ≡ in_places n places
  in_all i h l = ap sessions (take_all i (take n places) l) ∙ sym (in_taken h)

  -- a session stored after the first n
  pub in_set : (place : Place) → n < length places → in_places (n + 1) (set places n place) ≡ in_places n places ++ (session_of place ∷ [])
  in_set place h =
      ap (map session_of)
      (firsts_snoc n (set places n place) no_place
      ∙ ap (λ (t : List Place). t ++ (get_or (set places n place) n no_place ∷ [])) (firsts_past n n places place no_place (omega arith))
      ∙ ap (λ (p : Place). firsts n places no_place ++ (p ∷ [])) (get_or-set_same places n place no_place h))
      ∙ rw map-append

-- a live place keeps within the arrays
pub place_within : (t : Table) → AllWithin t → (i : ℕ) → i < length (take t.live t.places) → PlaceWithin (get_or (take t.live t.places) i no_place)
place_within t w i h = let l : i < t.live = omega (arith, length-take t.live t.places) in rw get_or-take (w.each i l)
