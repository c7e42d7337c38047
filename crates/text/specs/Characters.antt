-- The characters of the program's text (document 01, "The program frames"), in ASCII. Assumes nothing.
use Rattle.std.specs.Prelude.{List, [], ◌∷◌, ℕ}

-- "One space parts the fields"
abbrev pub space : ℕ
space = 32

-- the end of a line
abbrev pub newline : ℕ
newline = 10

-- parts the groups of numbers of a schedule, of which there is one
abbrev pub slash : ℕ
slash = 47

-- the digit 0, which the other digits follow
abbrev pub digit0 : ℕ
digit0 = 48

-- "S, Q or R": S for a set-up
abbrev pub letter_s : ℕ
letter_s = 83

-- Q for a quote
abbrev pub letter_q : ℕ
letter_q = 81

-- R for a release
abbrev pub letter_r : ℕ
letter_r = 82

-- "Refusal 11 prints ? for the letter"
abbrev pub question_mark : ℕ
question_mark = 63

-- "ok with delay, count and frames (ok alone for R)"
abbrev pub ok_word : List ℕ
ok_word = 111 ∷ 107 ∷ []

-- "no with the refusal"
abbrev pub no_word : List ℕ
no_word = 110 ∷ 111 ∷ []

-- "the word live"
abbrev pub live_word : List ℕ
live_word = 108 ∷ 105 ∷ 118 ∷ 101 ∷ []

-- "net no"
abbrev pub net_no_words : List ℕ
net_no_words = 110 ∷ 101 ∷ 116 ∷ space ∷ no_word
