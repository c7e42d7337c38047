-- Words of the contracts of inner functions. They are no part of what is promised: `read_record` promises what its record says in the words of `specs/Reading`. Assumes nothing.
use Rattle.std.specs.Prelude.{◌≡◌, List, ℕ, Option, Some, None}
use Rattle.std.specs.Borrow.{Bor}
use Rattle.refusals.specs.Refusals.{given}
use Rattle.ledger.specs.Calls as calls
use Rattle.call_records.specs.declared.Record.{Record}
use Rattle.call_records.specs.Records.{CallSaid, unreadable, with_number, with_route}
use Rattle.call_records.specs.Reading.{call_of}

-- what a record says, where one was read
abbrev pub told : Option Record → CallSaid
told (Some r) = record { call = given (call_of r.call); rest = r.rest.now }
told None = unreadable

-- what is said with a number and the bytes after it, and with a route and the bytes after it, where they were read
abbrev pub told_with : (ℕ → List ℕ → CallSaid) → Option (ℕ × Bor (List ℕ)) → CallSaid
told_with said (Some r) = said r.0 r.1.now
told_with said None = unreadable

abbrev pub told_over : (List ℕ → calls.Call) → Option (Bor (List ℕ) × Bor (List ℕ)) → CallSaid
told_over call (Some r) = record { call = given (call r.0.now); rest = r.1.now }
told_over call None = unreadable

-- a number in so many bytes and the bytes after it, and a route after its length and the bytes after it: whatever is said with them
abbrev pub Numbered : ℕ → List ℕ → Option (ℕ × Bor (List ℕ)) → Type 0
Numbered width s r = (said : ℕ → List ℕ → CallSaid) → told_with said r ≡ with_number width said s

abbrev pub Routed : List ℕ → Option (Bor (List ℕ) × Bor (List ℕ)) → Type 0
Routed s r = (call : List ℕ → calls.Call) → told_over call r ≡ with_route call s
