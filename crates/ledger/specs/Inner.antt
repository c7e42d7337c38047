-- Words of the contracts of inner functions. They are no part of what is promised. Assumes nothing.
use Rattle.std.specs.Prelude.{List, ℕ}
use Rattle.words.specs.Word.{Words}
use Rattle.words.specs.Bank.{bank_size, bank_link, bank_colour}
use Rattle.ledger.specs.Sessions.{Session, slot, held_in}

-- the bank of held frames: bit i of the word of link l in colour c is set where a session holds
-- frame i of link l in colour c
abbrev pub HeldWords : List ℕ → List Session → Type 0
HeldWords words ss = Words bank_size words (λ a i. held_in ss (slot (bank_link a) i (bank_colour a)))
