-- The turns of a loop that puts a number after a space a turn. Assumes nothing.
use mathlib.Core.Path.{◌≡◌, sym}
use mathlib.Core.List.{List, [], ◌∷◌, append-nil}
use Prim.Native.Nat.{ℕ, ◌+◌, ◌<◌, ◌≤◌}
use native.Mathlib.Numerals.{add-one}
use lib.ListN.{length, get_or, drop, drop_of_length-le}
use lib.Seq.{drop-cons}
use Rattle.text.specs.declared.Page.{Page}
use Rattle.text.specs.Digits.{spaced, spaced_all}
use Rattle.text.specs.Inner.{HasRoom, Adds}
use Rattle.text.proofs.Chains.{joined, Upto, none_yet, two_parts, adds_none}

-- the numbers from number i on are still to be put, each after a space
abbrev pub SpacedFrom : List ℕ → Page → ℕ → Page → Type 0
SpacedFrom ns o i p = Upto (spaced_all ns) o (spaced_all (drop i ns) ∷ []) p

module _ (ns : List ℕ) (o : Page) where
  pub none_spaced : HasRoom (spaced_all ns) o → SpacedFrom ns o 0 o
  unfolding joined
  none_spaced h = none_yet o (sym (append-nil (spaced_all ns))) h

  -- the first of them is a piece
  pub one_spaced : (i : ℕ) (p : Page) → i < length ns → SpacedFrom ns o i p → Upto (spaced_all ns) o (spaced (get_or ns i 0) ∷ spaced_all (drop (i + 1) ns) ∷ []) p
  unfolding spaced_all
  one_spaced i p h u =
      let e : drop i ns ≡ get_or ns i 0 ∷ drop (i + 1) ns = rw (add-one i) (drop-cons ns i 0 h) in
      two_parts (rw e at u)

  pub all_spaced : (i : ℕ) (p : Page) → length ns ≤ i → SpacedFrom ns o i p → Adds (spaced_all ns) o p
  unfolding joined spaced_all
  all_spaced i p h u = u.ends p (rw (drop_of_length-le ns {i = i} h) (adds_none p))
