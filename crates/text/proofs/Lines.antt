-- Each text as the pieces that are put for it. Assumes nothing.
use mathlib.Core.Path.{◌≡◌, refl}
use mathlib.Core.List.{List, [], ◌∷◌, ◌++◌, append-nil}
use Prim.Native.Nat.{ℕ, ◌≤◌}
use native.Mathlib.Omega.{arith}
use lib.ListN.{length, take}
use borrow.Author.Tests.{eq-eqb, ne_eqb}
use Rattle.places.specs.Places.{firsts}
use Rattle.places.proofs.Firsts.{firsts_take}
use Rattle.forwarding.specs.declared.Held.{Held}
use Rattle.ledger.specs.Held.{Holding, holding_of}
use Rattle.ledger.specs.Calls.{schedule, freed, refusal}
use Rattle.text.specs.Characters.{space, newline, slash, ok_word, no_word}
use Rattle.text.specs.Digits.{dec, spaced, spaced_all}
use Rattle.text.specs.Lines.{count_text, groups_of, more_groups, groups_text, schedule_text, line_head, line}
use Rattle.text.proofs.Chains.{joined}

pub spaced_is : (n : ℕ) → spaced n ≡ joined ((space ∷ []) ∷ dec n ∷ [])
unfolding spaced joined
spaced_is n = rw (append-nil (dec n))

pub head_is : (place letter : ℕ) → line_head place letter ≡ joined (dec place ∷ (space ∷ []) ∷ (letter ∷ []) ∷ [])
unfolding line_head joined
head_is place letter = refl

-- ---- each group is a piece, and so is the mark before each but the first
abbrev pub more_pieces : List (List ℕ) → List (List ℕ)
more_pieces [] = []
more_pieces (g ∷ gs) = (space ∷ slash ∷ []) ∷ spaced_all g ∷ more_pieces gs

abbrev pub group_pieces : List (List ℕ) → List (List ℕ)
group_pieces [] = []
group_pieces (g ∷ gs) = spaced_all g ∷ more_pieces gs

more_is : (gs : List (List ℕ)) → more_groups gs ≡ joined (more_pieces gs)
unfolding more_groups joined
more_is [] = refl
more_is (g ∷ gs) = rw (more_is gs)

pub groups_is : (gs : List (List ℕ)) → groups_text gs ≡ joined (group_pieces gs)
unfolding groups_text joined
groups_is [] = refl
groups_is (g ∷ gs) = rw (more_is gs)

-- those of a stored schedule, as parts of its places
pub held_is : (hops : ℕ) (held : Held) → hops ≤ 8 → length held.frames ≡ 8 → length held.cycles ≡ 8
    → groups_text (groups_of (holding_of hops held)) ≡ joined (spaced_all (take hops held.frames) ∷ (space ∷ slash ∷ []) ∷ spaced_all (take hops held.cycles) ∷ [])
held_is hops held h f c =
    let q : firsts hops held.frames 0 ≡ take hops held.frames = firsts_take hops held.frames 0 (omega arith) in
    let r : firsts hops held.cycles 0 ≡ take hops held.cycles = firsts_take hops held.cycles 0 (omega arith) in
    rw (← q, ← r) (groups_is (groups_of (holding_of hops held)))

pub schedule_is : (held : Holding) (count : ℕ) → schedule_text held count ≡ joined (spaced held.delay ∷ spaced count ∷ groups_text (groups_of held) ∷ [])
unfolding schedule_text joined
schedule_is held count = rw (append-nil (groups_text (groups_of held)))

pub refusal_is : (number count : ℕ) → spaced number ++ count_text number count ≡ joined (spaced number ∷ count_text number count ∷ [])
unfolding joined
refusal_is number count = rw (append-nil (count_text number count))

-- the count of a refusal: none but with 18
pub count_none : (number count : ℕ) → (number ≡ 18 → ⊥) → count_text number count ≡ []
unfolding count_text
count_none number count h = rw (ne_eqb number 18 h)

pub count_some : (number count : ℕ) → number ≡ 18 → count_text number count ≡ spaced count
unfolding count_text
count_some number count h = rw (eq-eqb number 18 h)

-- ---- the lines
pub scheduled_is : (place letter : ℕ) (held : Holding) (count : ℕ) → line place letter (schedule held count) ≡ joined (line_head place letter ∷ (space ∷ ok_word) ∷ schedule_text held count ∷ (newline ∷ []) ∷ [])
unfolding line joined
scheduled_is place letter held count = refl

pub freed_is : (place letter : ℕ) → line place letter freed ≡ joined (line_head place letter ∷ ((space ∷ ok_word) ++ (newline ∷ [])) ∷ [])
unfolding line joined
freed_is place letter = refl

pub refused_is : (place letter number count : ℕ) → line place letter (refusal number count) ≡ joined (line_head place letter ∷ (space ∷ no_word) ∷ (spaced number ++ count_text number count) ∷ (newline ∷ []) ∷ [])
unfolding line joined
refused_is place letter number count = refl

-- words and a number
pub words_is : (words : List ℕ) (n : ℕ) → words ++ (spaced n ++ (newline ∷ [])) ≡ joined (words ∷ spaced n ∷ (newline ∷ []) ∷ [])
unfolding joined
words_is words n = refl
