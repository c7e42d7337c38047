-- Words of the contracts of inner functions. They are no part of what is promised: `report` promises in the words of `specs/Reports`. Assumes nothing.
use Rattle.std.specs.Prelude.{◌≡◌, true, Result, Ok, Err, ℕ, ◌≤◌}
use Rattle.refusals.specs.Refusals.{Outcome}
use Rattle.refusals.specs.declared.Refusal.{Refusal}
use Rattle.ledger.specs.Sound.{intact}
use Rattle.ledger.specs.Calls.{Call}
use Rattle.state.specs.declared.State.{State}
use Rattle.state.specs.declared.Quoted.{Quoted}
use Rattle.state.specs.State.{view_of}
use Rattle.call_records.specs.Served.{view_after}
use Rattle.text.specs.declared.Page.{Page}
use Rattle.text.specs.Inner.{Adds}
use Rattle.report.specs.Transcript.{line_of}

-- what an answer over as many links holds stands in its eight places
abbrev pub InPlaces : Result Quoted Refusal → ℕ → Type 0
InPlaces (Ok q) hops = hops ≤ 8
InPlaces (Err r) hops = Unit {0}

-- a call's line is put, and the state after it isn't broken
pub record Turns (st : State) (o : Outcome Call) (place : ℕ) (before after : Page) (r : State) : Type 0 where
  pub put : Adds (line_of place (view_of st) o) before after
  pub view : view_of r ≡ view_after (view_of st) o
  pub unbroken : intact (view_of r) ≡ true
