-- Session numbers in two bytes and in four (document 02, W-205): what a record says goes by its number and not by the number's width. Assumes nothing.
use Rattle.std.specs.Prelude.{◌≡◌, true, ℕ, ◌*◌, ◌^◌, ◌<◌, ◌≤◌, length}
use mathlib.Core.List.{List, ◌∷◌, ◌++◌, Memᴰ}
use Rattle.refusals.specs.Refusals.{Outcome, given, refused}
use Rattle.numbers.specs.Numbers.{bytes_of, IsBytes}
use Rattle.ledger.specs.Sessions.{Session, View}
use Rattle.ledger.specs.Calls.{Call, SetUp, Quote, Release, freed, lookup}
use Rattle.ledger.specs.Ledger.{has_schedule}
use Rattle.call_records.specs.Records.{first_call, calls_in}
use Rattle.call_records.specs.Served.{answer_to, view_after}

-- "number in two bytes"; W-205: "in four bytes"
pub data Width : Type 0 where
  short : Width
  long : Width

abbrev pub bytes_for : Width → ℕ
bytes_for short = 2
bytes_for long = 4

-- a number that so many bytes have room for: below 65,536, or below 2^32
abbrev pub Fits : Width → ℕ → Type 0
Fits w n = n < 2 ^ (8 * bytes_for w)

-- "01 set-up"; W-205: "Call kinds 04 and 05 are set-up and release"
abbrev pub set_up_kind : Width → ℕ
set_up_kind short = 1
set_up_kind long = 4

-- "03 release"; W-205: 05
abbrev pub release_kind : Width → ℕ
release_kind short = 3
release_kind long = 5

-- the bytes of a set-up over a route of up to 255 links: its kind, "number ..., route length, route"
abbrev pub set_up_record : Width → ℕ → List ℕ → List ℕ
set_up_record w n route = set_up_kind w ∷ (bytes_of (bytes_for w) n ++ (length route ∷ route))

-- those of a release: its kind, "(number)"
abbrev pub release_record : Width → ℕ → List ℕ
release_record w n = release_kind w ∷ bytes_of (bytes_for w) n

-- WHAT A RECORD OF EITHER WIDTH SAYS, whatever bytes follow it: the call with its number and its route
abbrev pub RecordsSay : Type 0
RecordsSay = (w : Width) (n : ℕ) (route rest : List ℕ) → Fits w n
    → (first_call (set_up_record w n route ++ rest) ≡ record { call = given (SetUp n route); rest = rest })
    × (first_call (release_record w n ++ rest) ≡ record { call = given (Release n); rest = rest })

-- "an old 16-bit number is the 32-bit number of equal size": KINDS 01 AND 04 WITH THE SAME NUMBER SAY THE SAME CALL, AND SO DO 03 AND 05, whatever bytes follow the number: a whole
-- route, or one that runs past the end
abbrev pub SameCall : Type 0
SameCall = (n : ℕ) (s : List ℕ) → n < 65536
    → (first_call (1 ∷ (bytes_of 2 n ++ s)) ≡ first_call (4 ∷ (bytes_of 4 n ++ s)))
    × (first_call (3 ∷ (bytes_of 2 n ++ s)) ≡ first_call (5 ∷ (bytes_of 4 n ++ s)))

-- the number of a call, where it has one, fits a width
abbrev pub NumberFits : Width → Outcome Call → Type 0
NumberFits w (given (SetUp n route)) = Fits w n
NumberFits w (given (Quote route)) = Unit {0}
NumberFits w (given (Release n)) = Fits w n
NumberFits w (refused k) = Unit {0}

-- EVERY NUMBER THAT CALL BYTES SAY IS BELOW 2^32, and that of a record of kind 01 or 03 below 65,536
abbrev pub NumbersFit : Type 0
NumbersFit = (s : List ℕ) → IsBytes s
    → ((o : Outcome Call) → Memᴰ o (calls_in s) → NumberFits long o)
    × NumberFits short (first_call (1 ∷ s)).call
    × NumberFits short (first_call (3 ∷ s)).call

-- the bytes of a set-up, of the release of its number, and others
abbrev pub set_up_then_release : Width → Width → ℕ → List ℕ → List ℕ → List ℕ
set_up_then_release w u n route rest = set_up_record w n route ++ (release_record u n ++ rest)

-- "A session set up by one kind can be released by the other, by 03 if its number is below 65,536": WHERE THE SET-UP OF EITHER WIDTH IS ACCEPTED, THE RELEASE OF EITHER WIDTH AFTER IT IS
-- ACCEPTED; what a release frees is `ReleaseFrees`
abbrev pub EitherReleases : Type 0
EitherReleases = (v : View) (w u : Width) (n : ℕ) (route rest : List ℕ) → Fits w n → Fits u n
    → has_schedule (answer_to v (first_call (set_up_then_release w u n route rest)).call) ≡ true
    → answer_to (view_after v (first_call (set_up_then_release w u n route rest)).call) (first_call (first_call (set_up_then_release w u n route rest)).rest).call ≡ freed

-- EVERY SESSION THAT LOOKUP GIVES, whichever kind set it up and whatever calls were made since, IS RELEASED BY EITHER WIDTH
abbrev pub LiveReleased : Type 0
LiveReleased = (v : View) (u : Width) (n : ℕ) (s : Session) (rest : List ℕ) → Fits u n → lookup v n ≡ given s → answer_to v (first_call (release_record u n ++ rest)).call ≡ freed

-- AND 03 LEAVES EVERY SESSION ALONE WHOSE NUMBER IS 65,536 OR ABOVE, whatever bytes follow it
abbrev pub ShortSpares : Type 0
ShortSpares = (v : View) (n : ℕ) (s : List ℕ) → IsBytes s → 65536 ≤ n → lookup (view_after v (first_call (3 ∷ s)).call) n ≡ lookup v n
