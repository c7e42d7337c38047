-- The lines of the program frames (document 01, "The program frames"). Assumes nothing.
use Rattle.std.specs.Prelude.{◌≡◌, cond, List, [], ◌∷◌, ◌++◌, ℕ, ◌+◌, ◌*◌, ◌<◌, ◌≤◌, length, get_or, eqb}
use Rattle.ledger.specs.Held.{Holding}
use Rattle.ledger.specs.Calls.{Call, SetUp, Quote, Release, Reply, schedule, freed, refusal}
use Rattle.text.specs.Characters.{space, newline, slash, letter_s, letter_q, letter_r, ok_word, no_word, live_word, net_no_words}
use Rattle.text.specs.Digits.{dec, spaced, spaced_all}

-- "S, Q or R"
abbrev pub letter_of : Call → ℕ
letter_of (SetUp number route) = letter_s
letter_of (Quote route) = letter_q
letter_of (Release number) = letter_r

-- "for 18 also the count"
unfoldable pub count_text : ℕ → ℕ → List ℕ
count_text number count = cond (eqb number 18) (spaced count) []

-- the groups of numbers of a schedule after its delay and count: its frames; W-202: "A program line that gives frames gains " / " and the cycles"; a group
-- that is added later stands here
abbrev pub groups_of : Holding → List (List ℕ)
groups_of held = held.frames ∷ held.cycles ∷ []

-- the groups after the first, each after a slash
unfoldable pub more_groups : List (List ℕ) → List ℕ
more_groups [] = []
more_groups (g ∷ gs) = (space ∷ slash ∷ []) ++ (spaced_all g ++ more_groups gs)

-- the groups one after the other, parted by a slash
unfoldable pub groups_text : List (List ℕ) → List ℕ
groups_text [] = []
groups_text (g ∷ gs) = spaced_all g ++ more_groups gs

-- "ok with delay, count and frames", and the cycles: "the first line of the example ends 7 0 / 0 1"
unfoldable pub schedule_text : Holding → ℕ → List ℕ
schedule_text held count = spaced held.delay ++ (spaced count ++ groups_text (groups_of held))

-- "then ok with delay, count and frames (ok alone for R), or no with the refusal, for 18 also the count"; the cycles stand after the frames
abbrev pub reply_text : Reply → List ℕ
reply_text (schedule held count) = (space ∷ ok_word) ++ schedule_text held count
reply_text freed = space ∷ ok_word
reply_text (refusal number count) = (space ∷ no_word) ++ (spaced number ++ count_text number count)

-- "A line has the call's place from 1; S, Q or R"
unfoldable pub line_head : ℕ → ℕ → List ℕ
line_head place letter = dec place ++ (space ∷ letter ∷ [])

-- A LINE: its place, its letter and what it answers
unfoldable pub line : ℕ → ℕ → Reply → List ℕ
line place letter r = line_head place letter ++ (reply_text r ++ (newline ∷ []))

-- "The last line is the word live and the number of live sessions"
unfoldable pub live_line : ℕ → List ℕ
live_line n = live_word ++ (spaced n ++ (newline ∷ []))

-- "A refused net.bin gives the single line "net no" and the number"
unfoldable pub network_line : ℕ → List ℕ
network_line n = net_no_words ++ (spaced n ++ (newline ∷ []))

-- ---- how long a line is at most, for a place of at most five digits
-- a schedule: a delay of four digits, a count of five, frames of two and cycles of one
abbrev pub ScheduledLong : Type 0
ScheduledLong = (place letter : ℕ) (held : Holding) (count : ℕ) → place < 100000 → held.delay < 10000 → count < 100000 → ((i : ℕ) → i < length held.frames → get_or held.frames i 0 < 100)
    → ((i : ℕ) → i < length held.cycles → get_or held.cycles i 0 < 10) → length (line place letter (schedule held count)) ≤ 24 + 3 * length held.frames + 2 * length held.cycles

-- a release
abbrev pub FreedLong : Type 0
FreedLong = (place letter : ℕ) → place < 100000 → length (line place letter freed) ≤ 11

-- a refusal other than 18, and 18 with a count of five digits
abbrev pub RefusedLong : Type 0
RefusedLong = (place letter number count : ℕ) → place < 100000 → number < 100 → (number ≡ 18 → ⊥) → length (line place letter (refusal number count)) ≤ 14

abbrev pub BlockedLong : Type 0
BlockedLong = (place letter count : ℕ) → place < 100000 → count < 100000 → length (line place letter (refusal 18 count)) ≤ 20

-- the last line, and that of a refused net.bin
abbrev pub LiveLong : Type 0
LiveLong = (n : ℕ) → n < 100 → length (live_line n) ≤ 8

abbrev pub NetworkLong : Type 0
NetworkLong = (n : ℕ) → n < 100 → length (network_line n) ≤ 10
