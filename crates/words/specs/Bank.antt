-- A bank of words: a word for each link and each colour that a link may have. Assumes nothing.
use Rattle.std.specs.Prelude.{ℕ, ◌+◌, ◌*◌, ◌/◌, ◌%◌}

-- the most colours of a link: "C channels, 1 to 4" (W-211)
abbrev pub most_colours : ℕ
most_colours = 4

-- the words of a bank, for 32 links
abbrev pub bank_size : ℕ
bank_size = 32 * most_colours

-- the place of the word of a link in a colour
abbrev pub bank_at : ℕ → ℕ → ℕ
bank_at l c = most_colours * l + c

-- and back: the link and the colour of a place
abbrev pub bank_link : ℕ → ℕ
bank_link a = a / most_colours

abbrev pub bank_colour : ℕ → ℕ
bank_colour a = a % most_colours
