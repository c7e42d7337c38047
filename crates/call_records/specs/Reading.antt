-- What the reader's record of a call says. Assumes nothing.
use Rattle.std.specs.Prelude.{◌≡◌, List, [], ℕ, Result, Ok, Err}
use Rattle.refusals.specs.Refusals.{given, refused, refusal_number}
use Rattle.refusals.specs.declared.Refusal.{Refusal}
use Rattle.refusals.specs.declared.Refusal.TheVariants.{UnreadableCall}
use Rattle.ledger.specs.Calls as calls
use Rattle.call_records.specs.declared.Call.{Call}
use Rattle.call_records.specs.declared.Call.TheVariants.{SetUp, Quote, Release}
use Rattle.call_records.specs.declared.Record.{Record}
use Rattle.call_records.specs.Records.{CallSaid, first_call}

-- the call that the reader gives, its route the bytes that it lends
abbrev pub call_of : Call → calls.Call
call_of (SetUp n route) = calls.SetUp n route.now
call_of (Quote route) = calls.Quote route.now
call_of (Release n) = calls.Release n

-- what it says of a record: a call and the bytes after the record, or a refusal, which ends the calls
abbrev pub said_by : Result Record Refusal → CallSaid
said_by (Ok r) = record { call = given (call_of r.call); rest = r.rest.now }
said_by (Err x) = record { call = refused (refusal_number x); rest = [] }

-- THE READER'S RECORD SAYS WHAT THE BYTES SAY, and gives the bytes where they go on; one that can't be read has one shape, whatever is wrong with it
pub record Reads (s : List ℕ) (r : Result Record Refusal) : Type 0 where
  pub says : said_by r ≡ first_call s
  pub shape : (x : Refusal) → r ≡ Err x → x ≡ UnreadableCall
