-- The table of W-211 holds of the rules: one table, one statement. Assumes nothing.
use mathlib.Core.Path.{◌≡◌, refl}
use mathlib.Core.List.{map}
use Rattle.lists.proofs.Once.{map_at}
use Rattle.words.specs.Word.{bit_of}
use Rattle.forwarding.specs.Forwarding.{reference, reference_into, least_hold, gap, hold, hold_into, may_hold, may_turn, is_free, choices, turn_choices, delay}
use Rattle.forwarding.specs.Schedule.{transition_bound}
use Rattle.forwarding.specs.Route.{route_answer}
use Rattle.forwarding.specs.Coloured.{Coloured, coloured, ColouredRight}

-- the whole table is computed by the rule
answers_computed : map (λ (c : Coloured). route_answer 48 c.route) coloured ≡ map (λ (c : Coloured). c.expected) coloured
unfolding route_answer coloured reference reference_into least_hold gap hold hold_into may_hold may_turn is_free delay bit_of
answers_computed = refl

bounds_computed : map (λ (c : Coloured). transition_bound c.route) coloured ≡ map (λ (c : Coloured). c.bound) coloured
unfolding coloured least_hold choices turn_choices
bounds_computed = refl

-- EACH ANSWER OF THE TABLE IS THE RULE'S, and so is each bound
pub coloured_right : ColouredRight
coloured_right c m = (
  map_at (λ c. route_answer 48 c.route) (λ c. c.expected) coloured answers_computed c m,
  map_at (λ c. transition_bound c.route) (λ c. c.bound) coloured bounds_computed c m,
)
