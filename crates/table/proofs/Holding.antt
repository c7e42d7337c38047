-- The words of held frames of the sessions in the first places. Assumes nothing.
use mathlib.Core.Path.{◌≡◌, refl, sym, ap, ap₂, ◌∙◌}
use mathlib.Core.Bool.{◌||◌}
use mathlib.Core.List.{List, []}
use Prim.Native.Nat.{ℕ, ◌+◌, ◌<◌}
use lib.ListN.{length, get_or, take, replicate}
use Rattle.words.specs.Bank.{most_colours, bank_size, bank_at, bank_link, bank_colour}
use Rattle.words.proofs.Banks.{bank_in, bank_link_lem, bank_colour_lem}
use Rattle.ledger.specs.Lists.{any_of, any_two}
use Rattle.ledger.specs.Sessions.{Session, Slot, slot, slots_of, holds, held_in}
use Rattle.ledger.specs.Inner.{HeldWords}
use Rattle.ledger.specs.Sound.{share_slot, frame_twice}
use Rattle.ledger.proofs.Lists.{any_snoc, any_swap}
use Rattle.table.specs.declared.Place.{Place}
use Rattle.table.specs.Table.{session_of, no_place}
use Rattle.table.specs.Inner.{PlaceWithin, Within, Marked, marked_in}
use Rattle.table.proofs.Live.{sessions, one_more}
use Rattle.table.proofs.Banks.{words_bit, words_same, words_none}
use Rattle.table.proofs.Marks.{first_slots, any_same}

-- bit k of word a of a bank
abbrev of : ℕ → ℕ → Slot
of a k = slot (bank_link a) k (bank_colour a)

-- ---- the words of the first sessions
pub held_none : HeldWords (replicate bank_size 0) []
held_none = words_none bank_size

module _ (xs : List Place) (i : ℕ) where
  pub held_more : (old new : List ℕ) → HeldWords old (sessions (take i xs)) → i < length xs → Marked (slots_of (session_of (get_or xs i no_place))) old new
      → HeldWords new (sessions (take (i + 1) xs))
  held_more old new w l m =
      words_same bank_size new (λ a k. held_in (sessions (take i xs)) (of a k) || holds (of a k) (session_of (get_or xs i no_place))) (λ a k. held_in (sessions (take (i + 1) xs)) (of a k))
      (λ a k h g. sym (ap (any_of (holds (of a k))) (one_more xs i l) ∙ any_snoc (holds (of a k)) (sessions (take i xs)) (session_of (get_or xs i no_place))))
      (m (λ a k. held_in (sessions (take i xs)) (of a k)) w)

-- ---- what the words of the first sessions say of the next one
met_held : (ss : List Session) (words : List ℕ) → HeldWords words ss → (n : ℕ) (route frames colours : List ℕ) → Within n route frames colours
    → any_of (marked_in words) (first_slots route frames colours n) ≡ any_of (held_in ss) (first_slots route frames colours n)
met_held ss words w n route frames colours h =
    any_same route frames colours (marked_in words) (held_in ss) n
    (λ j g.
    let l : ℕ = get_or route j 0 in
    let c : ℕ = get_or colours j 0 in
    let few : c < most_colours = h.colour j g in
    words_bit bank_size words (λ a k. held_in ss (of a k)) w (bank_at l c) (get_or frames j 0) (bank_in l c (h.link j g) few) (h.frame j g)
    ∙ ap₂ (λ (x y : ℕ). held_in ss (slot x (get_or frames j 0) y)) (bank_link_lem l c few) (bank_colour_lem l c few))

pub met_shares : (xs : List Place) (i : ℕ) (words : List ℕ) → HeldWords words (sessions (take i xs)) → PlaceWithin (get_or xs i no_place)
    → any_of (marked_in words) (slots_of (session_of (get_or xs i no_place))) ≡ any_of (λ s. share_slot s (session_of (get_or xs i no_place))) (sessions (take i xs))
met_shares xs i words w h = met_held (sessions (take i xs)) words w _ _ _ _ h ∙ any_swap holds (slots_of (session_of (get_or xs i no_place))) (sessions (take i xs))

-- "two sessions hold one frame", by twos
pub frames_rule : (ss : List Session) → any_two share_slot ss ≡ frame_twice ss
unfolding frame_twice
frames_rule ss = refl
