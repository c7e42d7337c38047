-- Words of the contracts of inner functions, and of what callers show before a call. They are no part of what is promised. Assumes nothing.
use Rattle.std.specs.Prelude.{◌≡◌, Bool, ◌||◌, List, ℕ, ◌<◌, ◌≤◌, get_or}
use Rattle.words.specs.Word.{bit_of, Words}
use Rattle.words.specs.Bank.{most_colours, bank_size, bank_at, bank_link, bank_colour}
use Rattle.ledger.specs.Lists.{any_of}
use Rattle.ledger.specs.Sessions.{Slot, slot, same_slot}
use Rattle.table.specs.declared.Place.{Place}
use Rattle.table.specs.declared.Table.{Table}
use Rattle.table.specs.Table.{no_place}

-- hops that keep within the arrays: at most 8, their links below 32, their frames below 64 and
-- their colours below 4
pub record Within (hops : ℕ) (route frames colours : List ℕ) : Type 0 where
  pub few : hops ≤ 8
  pub link : (j : ℕ) → j < hops → get_or route j 0 < 32
  pub frame : (j : ℕ) → j < hops → get_or frames j 0 < 64
  pub colour : (j : ℕ) → j < hops → get_or colours j 0 < most_colours

-- a session that does
abbrev pub PlaceWithin : Place → Type 0
PlaceWithin p = Within p.hops p.route p.held.frames p.held.colours

-- a table whose live sessions do
pub record AllWithin (t : Table) : Type 0 where
  pub few : t.live ≤ 96
  pub each : (i : ℕ) → i < t.live → PlaceWithin (get_or t.places i no_place)

-- the place of the word of a session's hop, and the hop's frame
pub record IsSlot (p : Place) (j at frame : ℕ) : Type 0 where
  pub word : at ≡ bank_at (get_or p.route j 0) (get_or p.held.colours j 0)
  pub inside : at < bank_size
  pub same : frame ≡ get_or p.held.frames j 0
  pub small : frame < 64

-- a bank gains some frames, whatever it had
abbrev pub Marked : List Slot → List ℕ → List ℕ → Type 0
Marked slots old new = (p : ℕ → ℕ → Bool) → Words bank_size old p → Words bank_size new (λ a i. p a i || any_of (same_slot (slot (bank_link a) i (bank_colour a))) slots)

-- a frame is marked in a bank
abbrev pub marked_in : List ℕ → Slot → Bool
marked_in words x = bit_of (get_or words (bank_at x.link x.colour) 0) x.frame
