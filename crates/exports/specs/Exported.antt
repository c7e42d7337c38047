-- What the functions for other languages answer and leave in the buffers that they are lent. Assumes nothing.
use Rattle.std.specs.Prelude.{◌≡◌, true, List, [], ◌∷◌, ◌++◌, map, ℕ, ◌+◌, ◌^◌, ◌≤◌, length, get_or}
use Rattle.refusals.specs.Refusals.{Outcome, given, refused, on_given}
use Rattle.numbers.specs.Numbers.{IsBytes}
use Rattle.network.specs.Network.{Topology}
use Rattle.network.specs.declared.Link.{Link}
use Rattle.network_file.specs.Reading.{read_network}
use Rattle.network_file.specs.Lent.{in_room, length_of, buffer_after}
use Rattle.network_file.specs.Writing.{write_network}
use Rattle.ledger.specs.Sessions.{Session, View}
use Rattle.ledger.specs.Sound.{intact}
use Rattle.ledger.specs.Calls.{lookup, free_count}
use Rattle.ledger.specs.Ways.{ways_of}
use Rattle.ledger.specs.Ledger.{AnsweredCall, call_of}
use Rattle.ledger.specs.Demand.{fresh, Demand3}
use Rattle.call_records.specs.Records.{calls_in, counted}
use Rattle.call_records.specs.Served.{view_after_all}
use Rattle.report.specs.Transcript.{transcript}
use Rattle.report.specs.Reports.{reported}
use Rattle.report.specs.Transcribed.{made_in}

-- an answer as one number: a length or a count, or 1,000,000 and the refusal; no length or count is as large (`AnswersSized`, `ValuesSized`)
abbrev pub as_number : Outcome ℕ → ℕ
as_number (given n) = n
as_number (refused n) = 1000000 + n

-- what is to be written into a lent buffer, or its refusal: the answer and the buffer after it
pub record Exports (o : Outcome (List ℕ)) (before after : List ℕ) (r : ℕ) : Type 0 where
  pub answer : r ≡ as_number (length_of o)
  pub buffer : after ≡ buffer_after o before

-- THE STATE AFTER A LIST OF CALL RECORDS, as it shows, on the fresh network that a file says; or the refusal of the file
unfoldable pub state_after : List ℕ → List ℕ → Outcome View
state_after file calls = on_given (read_network file) (λ net. given (view_after_all (fresh net) (calls_in (counted calls))))

-- IT IS NEVER BROKEN, so that no call on it is refused with 0: "0 can only meet a caller that builds a state by hand"
abbrev pub AfterIntact : Type 0
AfterIntact = (file calls : List ℕ) → IsBytes file → (v : View) → state_after file calls ≡ given v → intact v ≡ true

-- it is that of a list of calls: those that the records say, each with its answer, which keep demand 3
pub record Replayed (calls : List ℕ) (net : Topology) (v : View) : Type 0 where
  pub steps : List AnsweredCall
  pub made : map call_of steps ≡ made_in (calls_in (counted calls))
  pub demand : Demand3 net v steps

-- THE STATE AFTER CALL RECORDS KEEPS DEMAND 3: what lookup shows of it are the entries of the ledger, and a frame is held exactly when one of them has it
abbrev pub AfterDemand3 : Type 0
AfterDemand3 = (file calls : List ℕ) (net : Topology) (v : View) → IsBytes file → read_network file ≡ given net → state_after file calls ≡ given v → Replayed calls net v

-- a session as numbers: how many hops it has, its delay, the links of the hops, their frames and their cycles
abbrev pub session_numbers : Session → List ℕ
session_numbers s = length s.route ∷ s.held.delay ∷ (s.route ++ (s.held.frames ++ s.held.cycles))

-- LOOKUP on the state after call records, into a buffer of so many numbers
unfoldable pub lookup_after : List ℕ → List ℕ → ℕ → ℕ → Outcome (List ℕ)
lookup_after file calls number room =
    on_given (state_after file calls) (λ v. on_given (lookup v number) (λ s. in_room (length (session_numbers s)) room (session_numbers s)))

-- FREE FRAMES of a link on the state after call records
unfoldable pub free_after : List ℕ → List ℕ → ℕ → Outcome ℕ
free_after file calls link = on_given (state_after file calls) (λ v. free_count v link)

-- THE NUMBER OF WAYS of a route on the state after call records, into a buffer of so many numbers; it is one number, and can be larger than a refusal's answer
unfoldable pub ways_after : List ℕ → List ℕ → List ℕ → ℕ → Outcome (List ℕ)
ways_after file calls route room = on_given (state_after file calls) (λ v. on_given (ways_of v route) (λ n. in_room 1 room (n ∷ [])))

-- WHAT A FILE SAYS, WRITTEN AGAIN into a buffer of so many bytes: the refusal of the file, or what the writer writes
unfoldable pub written_again : List ℕ → ℕ → Outcome (List ℕ)
written_again file room = on_given (read_network file) (λ t. write_network t room)

-- the links with these K, Z, closed frames and Y; there are as many as the shortest list has
unfoldable pub links_from : List ℕ → List ℕ → List ℕ → List ℕ → List Link
links_from [] zs cs ys = []
links_from (k ∷ ks) [] cs ys = []
links_from (k ∷ ks) (z ∷ zs) [] ys = []
links_from (k ∷ ks) (z ∷ zs) (c ∷ cs) [] = []
links_from (k ∷ ks) (z ∷ zs) (c ∷ cs) (y ∷ ys) = record { frames = k; range = z; least = y; closed = c } ∷ links_from ks zs cs ys

-- A NETWORK GIVEN AS VALUES, WRITTEN into a buffer of so many bytes
unfoldable pub written_of : ℕ → List ℕ → List ℕ → List ℕ → List ℕ → ℕ → Outcome (List ℕ)
written_of T ks zs cs ys room = write_network (record { ticks = T; links = links_from ks zs cs ys }) room

-- how long what is written on a file and call bytes is at most, and how large a count or a number; and how many places always serve
pub record AnswerSizes (file calls : List ℕ) : Type 0 where
  pub text : (room : ℕ) (x : List ℕ) → reported file calls room ≡ given x → length x ≤ 720918
  pub text_served : (room : ℕ) → 720918 ≤ room → reported file calls room ≡ given (transcript file calls)
  pub session : (number room : ℕ) (x : List ℕ) → lookup_after file calls number room ≡ given x → length x ≤ 26
  pub session_served : (number room : ℕ) → 26 ≤ room → lookup_after file calls number room ≡ refused 20 → ⊥
  pub free : (link n : ℕ) → free_after file calls link ≡ given n → n ≤ 64
  pub ways : (route : List ℕ) (room : ℕ) (x : List ℕ) → ways_after file calls route room ≡ given x → (length x ≡ 1) × (get_or x 0 0 ≤ 64 ^ 8)
  pub ways_served : (route : List ℕ) (room : ℕ) → 1 ≤ room → ways_after file calls route room ≡ refused 20 → ⊥
  pub again : (room : ℕ) (x : List ℕ) → written_again file room ≡ given x → length x ≤ 387
  pub again_served : (room : ℕ) → 387 ≤ room → written_again file room ≡ refused 20 → ⊥

-- EVERY ANSWER BELOW 1,000,000 IS A LENGTH OR A COUNT, and every other a refusal; and 720,918 bytes, 26 numbers, one number and 387 bytes always serve
abbrev pub AnswersSized : Type 0
AnswersSized = (file calls : List ℕ) → IsBytes file → AnswerSizes file calls

-- the same of a network given as values
abbrev pub ValuesSized : Type 0
ValuesSized = (T : ℕ) (ks zs cs ys : List ℕ) (room : ℕ) → ((x : List ℕ) → written_of T ks zs cs ys room ≡ given x → length x ≤ 387) × (387 ≤ room → written_of T ks zs cs ys room ≡ refused 20 → ⊥)
