-- The lines of a run as the answers of a list of calls, to which demand 3 applies. Assumes nothing.
use Rattle.std.specs.Prelude.{◌≡◌, List, [], ◌∷◌, ◌++◌, map, ℕ, suc, length}
use Rattle.refusals.specs.Refusals.{Outcome, given, refused}
use Rattle.numbers.specs.Numbers.{IsBytes}
use Rattle.network.specs.Network.{Topology}
use Rattle.network_file.specs.Reading.{read_network}
use Rattle.ledger.specs.Sessions.{View}
use Rattle.ledger.specs.Calls.{Call, refusal}
use Rattle.ledger.specs.Ledger.{AnsweredCall, did, call_of}
use Rattle.ledger.specs.Demand.{fresh, Demand3}
use Rattle.call_records.specs.Records.{calls_in, counted}
use Rattle.call_records.specs.Served.{view_after_all}
use Rattle.text.specs.Characters.{question_mark}
use Rattle.text.specs.Lines.{letter_of, line, live_line}
use Rattle.report.specs.Transcript.{transcript}

-- the lines of calls with their answers
abbrev pub step_lines : ℕ → List AnsweredCall → List ℕ
step_lines place [] = []
step_lines place (did call r ∷ steps) = line place (letter_of call) r ++ step_lines (suc place) steps

-- the calls of the records that can be read
abbrev pub made_in : List (Outcome Call) → List Call
made_in [] = []
made_in (given call ∷ os) = call ∷ made_in os
made_in (refused n ∷ os) = made_in os

-- the line of a record that can't be read
abbrev pub unread_line : ℕ → List (Outcome Call) → List ℕ
unread_line place [] = []
unread_line place (given call ∷ os) = unread_line (suc place) os
unread_line place (refused n ∷ os) = line place question_mark (refusal n 0)

-- THE TEXT ON A FILE THAT SAYS `net` IS DEMAND 3'S LIST, LINE BY LINE: the calls that the records say, each with its answer, then 11 where a record
-- can't be read, and the number of sessions that are live after the list
pub record Transcribed (file calls : List ℕ) (net : Topology) : Type 0 where
  pub steps : List AnsweredCall
  pub last : View
  pub made : map call_of steps ≡ made_in (calls_in (counted calls))
  pub text : transcript file calls ≡ step_lines 1 steps ++ (unread_line 1 (calls_in (counted calls)) ++ live_line (length last.live))
  pub after : last ≡ view_after_all (fresh net) (calls_in (counted calls))
  pub demand : Demand3 net last steps

-- THE TEXT OF A RUN SHOWS THE ANSWERS OF A LIST OF CALLS THAT KEEPS DEMAND 3
abbrev pub TranscriptDemand3 : Type 0
TranscriptDemand3 = (file calls : List ℕ) (net : Topology) → IsBytes file → read_network file ≡ given net → Transcribed file calls net
