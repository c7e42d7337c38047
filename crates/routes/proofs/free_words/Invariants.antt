-- `routes::free_words` meets its contract. The invariant: the words of the colours before c are stored. Assumes nothing.
use mathlib.Core.Path.{◌≡◌}
use Rattle.ledger.specs.Sessions.{by_colour}
use Rattle.routes.specs.Hops.{free_in}
use Rattle.routes.proofs.free_words.Given as goal

abbrev pub invariant-loop-c : goal.invariant-loop-c
invariant-loop-c l = l.free ≡ by_colour l.c (free_in l.link l.l l.held)
