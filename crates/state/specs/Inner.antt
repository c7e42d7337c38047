-- Words of the contracts of inner functions. They are no part of what is promised. Assumes nothing.
use Rattle.std.specs.Prelude.{List, ℕ}
use Rattle.places.specs.Places.{firsts}
use Rattle.forwarding.specs.declared.Hop.{Hop}
use Rattle.forwarding.specs.declared.Held.{Held}
use Rattle.forwarding.specs.Cycles.{schedule_cycles}
use Rattle.search.specs.declared.Schedule.{Schedule}
use Rattle.state.specs.declared.Quoted.{Quoted}

-- a schedule that a search found over n hops, in eight places: its frames with their cycles and colours, and the delay
abbrev pub found_places : List Hop → ℕ → Schedule → Held
found_places hops n s = record { frames = s.frames; cycles = firsts 8 (schedule_cycles hops (firsts n s.frames 0)) 0; delay = s.delay; colours = s.colours }

-- the answer that gives it, with the count of transitions considered
abbrev pub found_quoted : List Hop → ℕ → Schedule → ℕ → Quoted
found_quoted hops n s count = record { count = count; held = found_places hops n s }
