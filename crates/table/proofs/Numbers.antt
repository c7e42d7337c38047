-- The numbers of the sessions in the first places, one after the other. Assumes nothing.
use mathlib.Core.Path.{◌≡◌, refl, sym, ap, ◌∙◌}
use mathlib.Core.Bool.{Bool, ◌||◌}
use mathlib.Core.List.{List, [], ◌∷◌, ◌++◌, map-append}
use Prim.Native.Nat.{ℕ, ◌+◌, ◌<◌}
use native.Mathlib.Omega.{arith}
use lib.ListN.{length, get_or, take, set, replicate, length-set}
use lib.Dec.{eqb}
use Rattle.std.proofs.lemmas.List.{take_more_set}
use Rattle.ledger.specs.Lists.{any_of, any_two}
use Rattle.ledger.specs.Sessions.{Session}
use Rattle.ledger.specs.Sound.{same_number, number_twice}
use Rattle.ledger.proofs.Shown.{numbers_of}
use Rattle.table.specs.declared.Place.{Place}
use Rattle.table.specs.Table.{session_of, no_place}
use Rattle.table.proofs.Live.{sessions, one_more}

-- ---- the numbers of the first i sessions
pub record Numbered (xs : List Place) (i : ℕ) (numbers : List ℕ) : Type 0 where
  pub long : length numbers ≡ 96
  pub same : take i numbers ≡ numbers_of (sessions (take i xs))

module _ (xs : List Place) where
  pub none_numbered : Numbered xs 0 (replicate 96 0)
  none_numbered = record { long = refl; same = refl }

  module _ (i : ℕ) (numbers : List ℕ) (h : Numbered xs i numbers) where
    pub one_numbered : i < 96 → i < length xs → Numbered xs (i + 1) (set numbers i (get_or xs i no_place).number)
    one_numbered l m =
        let n : ℕ = (get_or xs i no_place).number in
        let room : i < length numbers = omega (arith, h.long) in
        record {
          long = length-set numbers i n ∙ h.long;
          same =
              take_more_set numbers i n room
              ∙ ap (λ (ns : List ℕ). ns ++ (n ∷ [])) h.same
              ∙ sym (ap numbers_of (one_more xs i m) ∙ rw map-append);
        }

    -- one of them is that of the next session
    pub number_met : (b : Bool) → b ≡ any_of (eqb (get_or xs i no_place).number) (take i numbers)
        → b ≡ any_of (λ s. same_number s (session_of (get_or xs i no_place))) (sessions (take i xs))
    number_met b e = e ∙ ap (any_of (eqb (get_or xs i no_place).number)) h.same ∙ any_map (eqb (get_or xs i no_place).number) (sessions (take i xs))
      where
        any_map : (p : ℕ → Bool) (ss : List Session) → any_of p (numbers_of ss) ≡ any_of (λ s. p s.number) ss
        any_map p [] = refl
        any_map p (s ∷ ss) = ap (λ (x : Bool). p s.number || x) (any_map p ss)

-- "a number is live twice", by twos
pub numbers_rule : (ss : List Session) → any_two same_number ss ≡ number_twice ss
unfolding number_twice
numbers_rule ss = refl
