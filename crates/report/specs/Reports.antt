-- What the run of the program frames writes into the buffer that it is lent. Assumes nothing.
use Rattle.std.specs.Prelude.{Result, List, ℕ, ◌+◌, ◌*◌, ◌≤◌, min, length}
use Rattle.refusals.specs.Refusals.{Outcome}
use Rattle.numbers.specs.Numbers.{IsBytes}
use Rattle.refusals.specs.declared.Refusal.{Refusal}
use Rattle.network_file.specs.Lent.{in_room, Writes}
use Rattle.report.specs.Transcript.{transcript}

-- as many bytes serve for every text on n call bytes, of which the first 65,536 count
unfoldable pub text_bound : ℕ → ℕ
text_bound n = 22 + 11 * min n 65536

-- AS MANY BYTES SERVE FOR EVERY TEXT
abbrev pub TextWithin : Type 0
TextWithin = (file calls : List ℕ) → IsBytes file → length (transcript file calls) ≤ text_bound (length calls)

-- and so do 720,918, however many call bytes there are
abbrev pub BoundMost : Type 0
BoundMost = (n : ℕ) → text_bound n ≤ 720918

-- WHAT THE RUN WRITES into a buffer of so many bytes: all its text, or 20 where the buffer is below the bound, which is known before any call is made
unfoldable pub reported : List ℕ → List ℕ → ℕ → Outcome (List ℕ)
reported file calls room = in_room (text_bound (length calls)) room (transcript file calls)

-- the run, and that its text is within the bound
pub record Reports (file calls before after : List ℕ) (r : Result ℕ Refusal) : Type 0 where
  pub written : Writes (reported file calls (length before)) before after r
  pub within : length (transcript file calls) ≤ text_bound (length calls)
