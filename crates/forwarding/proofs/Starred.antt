-- The starred cases of question four hold of the rules: one table, one statement. Assumes nothing.
use mathlib.Core.Path.{◌≡◌, refl}
use mathlib.Core.List.{map}
use Rattle.lists.proofs.Once.{map_at}
use Rattle.trellis.specs.Answer.{nodes_of}
use Rattle.words.specs.Word.{bit_of, word_of}
use Rattle.forwarding.specs.Forwarding.{reference, reference_into, least_hold, gap, hold, hold_into, may_hold, may_turn, is_free, delay}
use Rattle.forwarding.specs.Schedule.{frames_of}
use Rattle.forwarding.specs.Route.{route_answer}
use Rattle.forwarding.specs.Cycles.{next_cycle, schedule_cycles}
use Rattle.forwarding.specs.QuestionFour.{Case, starred, StarredRight}

-- the whole table is computed by the rule
table_computed : map (λ (c : Case). route_answer 48 c.route) starred ≡ map (λ (c : Case). c.expected) starred
unfolding route_answer starred reference reference_into least_hold gap hold hold_into may_hold may_turn is_free delay bit_of word_of
table_computed = refl

cycles_computed : map (λ (c : Case). schedule_cycles c.route (frames_of (nodes_of c.expected))) starred ≡ map (λ (c : Case). c.cycles) starred
unfolding starred reference reference_into least_hold gap hold hold_into next_cycle
cycles_computed = refl

-- THE STARRED CASES: each answer of the table is the rule's, and so are the cycles of its frames
pub starred_right : StarredRight
starred_right c m = (
  map_at (λ c. route_answer 48 c.route) (λ c. c.expected) starred table_computed c m,
  map_at (λ c. schedule_cycles c.route (frames_of (nodes_of c.expected))) (λ c. c.cycles) starred cycles_computed c m,
)
