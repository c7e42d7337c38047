-- What the calls of call records answer, and what they leave of a state. Assumes nothing.
use Rattle.std.specs.Prelude.{List, [], ◌∷◌}
use Rattle.refusals.specs.Refusals.{Outcome, given, refused}
use Rattle.ledger.specs.Sessions.{View}
use Rattle.ledger.specs.Calls.{Call, Reply, refusal, reply, next}

-- what a record's call answers; one that can't be read is refused with 11
abbrev pub answer_to : View → Outcome Call → Reply
answer_to v (given call) = reply v call
answer_to v (refused n) = refusal n 0

-- what a record's call leaves; one that can't be read makes no call
abbrev pub view_after : View → Outcome Call → View
view_after v (given call) = next v call
view_after v (refused n) = v

-- WHAT A LIST OF THEM LEAVES: each call is made on the state that the one before it left
unfoldable pub view_after_all : View → List (Outcome Call) → View
view_after_all v [] = v
view_after_all v (o ∷ os) = view_after_all (view_after v o) os
