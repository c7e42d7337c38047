-- Refusal 0: when a stored state is broken, by what it shows. Assumes nothing.
use Rattle.std.specs.Prelude.{Bool, true, false, not, ◌&&◌, List, [], ℕ, length, eqb, leb}
use Rattle.refusals.specs.Refusals.{Ruling, given, refused, refuse_if}
use Rattle.network.specs.Network.{Topology}
use Rattle.network.specs.Checks.{network_check}
use Rattle.forwarding.specs.declared.Hop.{Hop}
use Rattle.forwarding.specs.Schedule.{is_schedule, schedule_delay}
use Rattle.ledger.specs.Lists.{all_of, any_of, any_two}
use Rattle.ledger.specs.Held.{Holding, held_over, spots_in, same_held}
use Rattle.ledger.specs.Sessions.{Session, View, holds, slots_of, hops_of}
use Rattle.ledger.specs.Routes.{route_check}

-- whether a check passes
abbrev pub passes : Ruling → Bool
passes (given p) = true
passes (refused n) = false

-- "its network fails 2, 3, 7, 8 or 9", and "0 takes in every link check ... added later": 21 (W-206)
unfoldable pub good_network : Topology → Bool
good_network net = passes (network_check net)

-- "over 96 sessions are live"
unfoldable pub few_sessions : List Session → Bool
few_sessions ss = leb (length ss) 96

-- "a number is live twice"
abbrev pub same_number : Session → Session → Bool
same_number s u = eqb u.number s.number

unfoldable pub number_twice : List Session → Bool
number_twice ss = any_two same_number ss

-- "its frames are no schedule over unclosed frames, the stored delay isn't theirs"; and "every stored field added later, by the rule that gives it":
-- what is stored is what that schedule holds
unfoldable pub good_held : ℕ → List Hop → Holding → Bool
good_held T hops held =
    is_schedule hops (spots_in held) && same_held held (held_over hops (schedule_delay T hops (spots_in held)) (spots_in held))

-- "a route fails 12 to 15", and what is held
unfoldable pub good_session : Topology → Session → Bool
good_session net s = passes (route_check net s.route) && good_held net.ticks (hops_of net [] s.route) s.held

-- "two sessions hold one frame"
abbrev pub share_slot : Session → Session → Bool
share_slot s u = any_of (λ x. holds x s) (slots_of u)

unfoldable pub frame_twice : List Session → Bool
frame_twice ss = any_two share_slot ss

-- what a state shows keeps the rules
unfoldable pub sound : View → Bool
sound v =
    good_network v.network
    && (few_sessions v.live
    && (not (number_twice v.live)
    && (all_of (good_session v.network) v.live
    && not (frame_twice v.live))))

-- "0 takes in ... every stored field added later, by the rule that gives it": no field of a view follows from its others
abbrev pub derived : View → Bool
derived v = true

-- a state that isn't broken
unfoldable pub intact : View → Bool
intact v = sound v && derived v

-- 0: "The stored state handed to a call is broken"
abbrev pub broken_check : View → Ruling
broken_check v = refuse_if (not (intact v)) 0
