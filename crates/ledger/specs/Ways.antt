-- W-203 on what a state shows: how many ways a route has in the frames now free. Assumes nothing.
use Rattle.std.specs.Prelude.{◌≡◌, false, ◌↔◌, ℕ, ◌<◌}
use mathlib.Core.List.{List, Memᴰ}
use Rattle.refusals.specs.Refusals.{Outcome, given, refused, refused_or}
use Rattle.words.specs.Word.{bit_of}
use Rattle.forwarding.specs.Ways.{route_ways}
use Rattle.ledger.specs.Sessions.{View, slot, held_in, link_at, link_colours, hops_of}
use Rattle.ledger.specs.Calls.{Quote, refusal, checks_of, reply}

-- THE NUMBER OF WAYS on a state that shows v: "The call makes the quote's route checks", after 0 as the quote does, and gives "the exact number of schedules over
-- a route in the frames now free"
unfoldable pub ways_of : View → List ℕ → Outcome ℕ
ways_of v route = refused_or (checks_of v (Quote route)) (given (route_ways (hops_of v.network v.live route)))

-- "The count is 0 exactly when a quote is refused as blocked"
abbrev pub WaysZero : Type 0
WaysZero = (v : View) (route : List ℕ) → (ways_of v route ≡ given 0) ↔ ((n : ℕ) × (reply v (Quote route) ≡ refusal 18 n))

-- A CHECK REFUSES IT EXACTLY WHERE IT REFUSES A QUOTE, with the same number; 18 is no check
abbrev pub WaysRefused : Type 0
WaysRefused = (v : View) (route : List ℕ) (k : ℕ) → (ways_of v route ≡ refused k) ↔ ((reply v (Quote route) ≡ refusal k 0) × (k ≡ 18 → ⊥))

-- "no frame on it is closed or held": no frame of its links, in none of their colours
abbrev pub NoneTaken : View → List ℕ → Type 0
NoneTaken v route = (l i c : ℕ) → Memᴰ l route → i < (link_at v.network l).frames → c < link_colours (link_at v.network l)
    → (bit_of (link_at v.network l).closed i ≡ false) × (held_in v.live (slot l i c) ≡ false)
