-- The calls on sessions: what each answers and what it leaves (document 01, "Calls on sessions"). Assumes nothing.
use Rattle.std.specs.Prelude.{◌≡◌, Bool, true, not, ◌&&◌, cond, List, [], ◌∷◌, ◌++◌, ℕ, length, eqb, leb}
use Rattle.trellis.specs.Answer.{found, blocked}
use Rattle.trellis.specs.Answer as trellis
use Rattle.refusals.specs.Refusals.{Ruling, Outcome, given, refused, refuse_if, refused_or}
use Rattle.words.specs.Word.{free_frames}
use Rattle.network.specs.Network.{Topology}
use Rattle.forwarding.specs.declared.Hop.{Hop}
use Rattle.forwarding.specs.Forwarding.{Spot}
use Rattle.forwarding.specs.Route.{route_answer}
use Rattle.ledger.specs.Lists.{keep}
use Rattle.ledger.specs.Held.{Holding, held_over}
use Rattle.ledger.specs.Sessions.{Session, View, Slot, holds, held_in, is_live, link_at, free_of, hops_of}
use Rattle.ledger.specs.Routes.{unknown, route_check}
use Rattle.ledger.specs.Sound.{intact, broken_check}

-- the calls of a list: "Set-up (number, route)", "Quote (route)", "Release (number)"
pub data Call : Type 0 where
  SetUp : (number : ℕ) (route : List ℕ) → Call
  Quote : (route : List ℕ) → Call
  Release : (number : ℕ) → Call

-- the links of a call; a release has none
abbrev pub links_of : Call → List ℕ
links_of (SetUp n route) = route
links_of (Quote route) = route
links_of (Release n) = []

-- a call's answer: a schedule with the count of transitions considered; that a session's frames are freed; or "A refusal returns its
-- number, 18 also the count" (0 with any other)
pub data Reply : Type 0 where
  schedule : (held : Holding) (count : ℕ) → Reply
  freed : Reply
  refusal : (number count : ℕ) → Reply

-- the answer of "Least-delay schedule" over hops; 18: "No schedule exists"
abbrev pub reply_of : List Hop → trellis.Answer Spot → Reply
reply_of hops (found delay count xs) = schedule (held_over hops delay xs) count
reply_of hops (blocked count) = refusal 18 count

abbrev pub answer_over : ℕ → List Hop → Reply
answer_over T hops = reply_of hops (route_answer T hops)

-- the first check that refuses, or else the answer
abbrev pub unless : Ruling → Reply → Reply
unless (given p) r = r
unless (refused n) r = refusal n 0

-- 17: "96 sessions are live"
unfoldable pub full : List Session → Bool
full ss = leb 96 (length ss)

-- the checks of a call after 0, over the live sessions ss, in the order of the list: 12 to 15, "16. Set-up: the number is live", 17, and
-- "19. Release or lookup: the number isn't live"
unfoldable pub call_check : Topology → List Session → Call → Ruling
call_check net ss (SetUp n route) = refused_or (route_check net route) (refused_or (refuse_if (is_live n ss) 16) (refuse_if (full ss) 17))
call_check net ss (Quote route) = route_check net route
call_check net ss (Release n) = refuse_if (not (is_live n ss)) 19

-- what a call that no check refused answers: the answer over the frames then free, or that the session's frames are freed
unfoldable pub granted : Topology → List Session → Call → Reply
granted net ss (SetUp n route) = answer_over net.ticks (hops_of net ss route)
granted net ss (Quote route) = answer_over net.ticks (hops_of net ss route)
granted net ss (Release n) = freed

-- "Each call makes, in this order, the checks whose matter it has": 0, and those after it
abbrev pub checks_of : View → Call → Ruling
checks_of v call = refused_or (broken_check v) (call_check v.network v.live call)

-- THE ANSWER OF A CALL on a state that shows v, whatever state it is
unfoldable pub reply : View → Call → Reply
reply v call = unless (checks_of v call) (granted v.network v.live call)

-- A QUOTE: "Where 0 and 13 don't refuse, it depends on T, the route and those links' K, Z and free frames alone", and "a quote may depend on Y" (W-206), which are its hops
abbrev pub QuoteDepends : Type 0
QuoteDepends = (v w : View) (route : List ℕ) → (reply v (Quote route) ≡ refusal 0 0 → ⊥) → (reply w (Quote route) ≡ refusal 0 0 → ⊥)
    → (reply v (Quote route) ≡ refusal 13 0 → ⊥) → (reply w (Quote route) ≡ refusal 13 0 → ⊥) → v.network.ticks ≡ w.network.ticks
    → hops_of v.network v.live route ≡ hops_of w.network w.live route → reply v (Quote route) ≡ reply w (Quote route)

-- what a call with its answer does to sessions and ledger: "An accepted set-up enters its number, its route and its answer's frames and delay" (with their
-- cycles). "An accepted release strikes out what stands under its number. A quote or a refused call leaves the ledger as it is"
pub data Effect : Type 0 where
  enters : Session → Effect
  strikes : (number : ℕ) → Effect
  leaves : Effect

-- "A set-up is accepted when its answer is a schedule, a release when it isn't refused"
abbrev pub effect : Call → Reply → Effect
effect (SetUp n route) (schedule held count) = enters record { number = n; route = route; held = held }
effect (SetUp n route) freed = leaves
effect (SetUp n route) (refusal k count) = leaves
effect (Quote route) r = leaves
effect (Release n) (schedule held count) = strikes n
effect (Release n) freed = strikes n
effect (Release n) (refusal k count) = leaves

abbrev pub other_than : ℕ → Session → Bool
other_than n s = not (eqb s.number n)

-- the sessions after an effect: a new one stands last, and the others keep their order
abbrev pub live_after : List Session → Effect → List Session
live_after ss (enters s) = ss ++ (s ∷ [])
live_after ss (strikes n) = keep (other_than n) ss
live_after ss leaves = ss

-- what an effect leaves of a view: the one place that makes a view from a view
unfoldable pub left : View → Effect → View
left v f = record { network = v.network; live = live_after v.live f }

-- WHAT A CALL LEAVES of a state that shows v
unfoldable pub next : View → Call → View
next v call = left v (effect call (reply v call))

-- EVERY CALL KEEPS A STATE FROM BEING BROKEN: "0 can only meet a caller that builds a state by hand"
abbrev pub NextIntact : Type 0
NextIntact = (v : View) (call : Call) → intact v ≡ true → intact (next v call) ≡ true

-- Lookup (number): "the live session's route, frames and delay" with the cycles, or 19
abbrev pub look_in : ℕ → List Session → Outcome Session
look_in n [] = refused 19
look_in n (s ∷ ss) = cond (eqb s.number n) (given s) (look_in n ss)

unfoldable pub lookup : View → ℕ → Outcome Session
lookup v n = refused_or (broken_check v) (look_in n v.live)

-- A RELEASE "frees exactly that session's frames": a frame is held after it exactly when it was held before and isn't that session's
abbrev pub ReleaseFrees : Type 0
ReleaseFrees = (v : View) (n : ℕ) (s : Session) → lookup v n ≡ given s → (x : Slot) → held_in (next v (Release n)).live x ≡ (held_in v.live x && not (holds x s))

-- free frames of a link: "a call on the stored state gives their number (refusal 13 for a link that isn't there)"
unfoldable pub free_count : View → ℕ → Outcome ℕ
free_count v l =
    refused_or (broken_check v)
    (refused_or (refuse_if (unknown (length v.network.links) l) 13)
    (given (free_frames (link_at v.network l).frames (free_of v.network v.live l 0))))
