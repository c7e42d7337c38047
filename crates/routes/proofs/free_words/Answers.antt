use native.Mathlib.Omega.{arith}
use Rattle.routes.proofs.Hops.{none_filled, colour_in, one_filled}
use Rattle.routes.proofs.free_words.Goals as goal

pub loop-c-init : goal.loop-c-init
loop-c-init c = none_filled c.args.link _ _

pub overflow_cast-c : goal.overflow_cast-c
overflow_cast-c c = omega (arith, colour_in c.args.link _ _ c.colours_of-c-end.ensures c.loop-c-test.true)

pub bank-at-requires : goal.bank-at-requires
bank-at-requires c = (c.requires.2, colour_in c.args.link _ _ c.colours_of-c-end.ensures c.loop-c-test.true)

pub bounds-held-at : goal.bounds-held-at
bounds-held-at c = omega (arith, c.bank-at.ensures, c.requires.2, colour_in c.args.link _ _ c.colours_of-c-end.ensures c.loop-c-test.true)

pub bounds-free-from : goal.bounds-free-from
bounds-free-from c = omega (arith, colour_in c.args.link _ _ c.colours_of-c-end.ensures c.loop-c-test.true)

pub loop-c-preserved : goal.loop-c-preserved
loop-c-preserved c = rw c.from.ensures (one_filled c.args.link _ _ _ _ c.loop-c.invariant (colour_in c.args.link _ _ c.colours_of-c-end.ensures c.loop-c-test.true) _ _ c.bank-at.ensures c.free_word.ensures)
