-- All that the program frames writes, from the bytes of net.bin and of standard input (document 01, "The program frames"). Assumes nothing.
use Rattle.std.specs.Prelude.{List, [], ◌∷◌, ◌++◌, ℕ, suc, length}
use Rattle.refusals.specs.Refusals.{Outcome, given, refused}
use Rattle.network.specs.Network.{Topology}
use Rattle.network_file.specs.Reading.{read_network}
use Rattle.ledger.specs.Sessions.{View}
use Rattle.ledger.specs.Calls.{Call, refusal, reply}
use Rattle.ledger.specs.Demand.{fresh}
use Rattle.call_records.specs.Records.{calls_in, counted}
use Rattle.call_records.specs.Served.{view_after}
use Rattle.text.specs.Characters.{question_mark}
use Rattle.text.specs.Lines.{letter_of, line, live_line, network_line}

-- the line of a call: what it answers; "Refusal 11 prints ? for the letter"
abbrev pub line_of : ℕ → View → Outcome Call → List ℕ
line_of place v (given call) = line place (letter_of call) (reply v call)
line_of place v (refused n) = line place question_mark (refusal n 0)

-- a line for each call, by its place, and the last line
unfoldable pub lines_of : ℕ → View → List (Outcome Call) → List ℕ
lines_of place v [] = live_line (length v.live)
lines_of place v (o ∷ os) = line_of place v o ++ lines_of (suc place) (view_after v o) os

-- the lines on what net.bin says: "the call's place from 1", from a fresh network; or its single line
abbrev pub text_on : Outcome Topology → List ℕ → List ℕ
text_on (given net) calls = lines_of 1 (fresh net) (calls_in (counted calls))
text_on (refused n) calls = network_line n

-- ALL THAT THE PROGRAM WRITES
unfoldable pub transcript : List ℕ → List ℕ → List ℕ
transcript file calls = text_on (read_network file) calls
