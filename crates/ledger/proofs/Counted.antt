-- The free frames of a link in a colour, counted one by one. Assumes nothing.
use mathlib.Core.Path.{sym, ◌∙◌}
use mathlib.Core.Bool.{Bool, not, ◌&&◌}
use Prim.Native.Nat.{ℕ}
use Rattle.words.specs.Word.{bit_of, word_of}
use Rattle.words.proofs.Words.{word_lt}
use Rattle.words.proofs.Ones.{count_word, count_ones}
use Rattle.ledger.specs.Sessions.{slot, held_in, link_at, free_of, FreeCounted}

-- THE COUNT OF A LINK'S FREE FRAMES IN A COLOUR IS THAT OF ITS FRAMES NEITHER CLOSED NOR HELD
pub free_counted : FreeCounted
unfolding free_of
free_counted net ss l c =
    let K : ℕ = (link_at net l).frames in
    let free : ℕ → Bool = λ i. not (bit_of (link_at net l).closed i) && not (held_in ss (slot l i c)) in
    sym (count_ones K (word_of K free) (word_lt K free)) ∙ count_word K free
