-- Writing into a lent buffer: what it answers and what it leaves, of an image, a text and whatever else is written. Assumes nothing.
use Rattle.std.specs.Prelude.{◌≡◌, Result, List, ◌++◌, ℕ, ltb, length, drop}
use Rattle.refusals.specs.declared.Refusal.{Refusal}
use Rattle.refusals.specs.Refusals.{Outcome, given, refused, refuse_if, refused_or, answered}

-- x is to be written into a buffer of `room` places; 20: "the buffer is shorter than what is to be written", for which `least` places are asked
abbrev pub in_room : ℕ → ℕ → List ℕ → Outcome (List ℕ)
in_room least room x = refused_or (refuse_if (ltb room least) 20) (given x)

-- the answer: the length of what is written, or the refusal
abbrev pub length_of : Outcome (List ℕ) → Outcome ℕ
length_of (given x) = given (length x)
length_of (refused n) = refused n

-- the buffer after it: what is written stands at its start, and "the rest of the buffer is untouched"; where the call is refused, "lent bytes are then the same as before the call"
abbrev pub buffer_after : Outcome (List ℕ) → List ℕ → List ℕ
buffer_after (given x) buffer = x ++ drop (length x) buffer
buffer_after (refused n) buffer = buffer

-- the program's answer in these words
abbrev pub length_read : Result ℕ Refusal → Outcome ℕ
length_read r = answered (λ n. n) r

-- WRITING INTO A LENT BUFFER what is to be written, or its refusal
pub record Writes (o : Outcome (List ℕ)) (before after : List ℕ) (r : Result ℕ Refusal) : Type 0 where
  pub answer : length_read r ≡ length_of o
  pub buffer : after ≡ buffer_after o before
