-- Call records (document 01, "The program frames", and W-205 of document 02): what their bytes say. Assumes nothing.
use Rattle.std.specs.Prelude.{◌≡◌, cond, List, [], ◌∷◌, ℕ, zero, suc, ◌≤◌, min, length, take, drop, eqb, ltb}
use Rattle.refusals.specs.Refusals.{Outcome, given, refused}
use Rattle.numbers.specs.Numbers.{number_in}
use Rattle.ledger.specs.Calls.{Call, SetUp, Quote, Release}

-- what the record at the start of some bytes says, and the bytes after it
pub record CallSaid : Type 0 where
  pub call : Outcome Call
  pub rest : List ℕ

-- 11: "A call record's kind isn't 1 to 3, or the record runs past the end", W-205: "now admits kinds 1 to 5"; it "ends the calls"
abbrev pub unreadable : CallSaid
unreadable = record { call = refused 11; rest = [] }

-- "number in two bytes low first", W-205: "in four bytes, low first": the number in so many bytes, and then what the bytes after it say with it
unfoldable pub with_number : ℕ → (ℕ → List ℕ → CallSaid) → List ℕ → CallSaid
with_number width said s = cond (ltb (length s) width) unreadable (said (number_in width s) (drop width s))

-- "route length, route": so many links, and the bytes after them
unfoldable pub with_route : (List ℕ → Call) → List ℕ → CallSaid
with_route call [] = unreadable
with_route call (n ∷ s) = cond (ltb (length s) n) unreadable (record { call = given (call (take n s)); rest = drop n s })

-- "set-up (number in two bytes low first, route length, route)", from the number on, for a number in so many bytes
unfoldable pub set_up_said : ℕ → List ℕ → CallSaid
set_up_said width s = with_number width (λ n. with_route (SetUp n)) s

-- "quote (route length, route)", from the route's length on
unfoldable pub quote_said : List ℕ → CallSaid
quote_said s = with_route Quote s

-- "release (number)", from the number on, for a number in so many bytes
unfoldable pub release_said : ℕ → List ℕ → CallSaid
release_said width s = with_number width (λ n rest. record { call = given (Release n); rest = rest }) s

-- WHAT THE RECORD AT THE START OF SOME CALL BYTES SAYS, by its kind: "01 set-up", "02 quote", "03 release"; W-205: "Call kinds 04 and 05 are set-up and release with
-- the number in four bytes, low first; 01 and 03 remain"; a kind that is added later stands here
unfoldable pub first_call : List ℕ → CallSaid
first_call [] = unreadable
first_call (kind ∷ s) =
    cond (eqb kind 1) (set_up_said 2 s)
    (cond (eqb kind 2) (quote_said s)
    (cond (eqb kind 3) (release_said 2 s)
    (cond (eqb kind 4) (set_up_said 4 s)
    (cond (eqb kind 5) (release_said 4 s)
    unreadable))))

-- the calls of some call bytes, in their order; f is at least the number of bytes, and only says that the definition ends
unfoldable pub calls_by : ℕ → List ℕ → List (Outcome Call)
calls_by zero s = []
calls_by (suc f) [] = []
calls_by (suc f) (b ∷ s) = (first_call (b ∷ s)).call ∷ calls_by f (first_call (b ∷ s)).rest

-- THE CALLS OF SOME CALL BYTES; the last is 11 where a record can't be read
unfoldable pub calls_in : List ℕ → List (Outcome Call)
calls_in s = calls_by (length s) s

-- NO BYTES ARE NO CALLS
abbrev pub NoCalls : Type 0
NoCalls = calls_in [] ≡ []

-- THE CALLS OF SOME BYTES ARE THE FIRST CALL AND THE CALLS OF THE REST
abbrev pub FirstThenRest : Type 0
FirstThenRest = (b : ℕ) (s : List ℕ) → calls_in (b ∷ s) ≡ (first_call (b ∷ s)).call ∷ calls_in (first_call (b ∷ s)).rest

-- "the first 65,536 bytes of call records from standard input; what follows them is ignored"
unfoldable pub counted : List ℕ → List ℕ
counted s = take 65536 s

-- THE BYTES THAT COUNT are as many of the first as there are, up to 65,536
abbrev pub CountedPart : Type 0
CountedPart = (s : List ℕ) (n : ℕ) → n ≡ min (length s) 65536 → (take n s ≡ counted s) × (length (take n s) ≤ 65536)
