use native.Mathlib.Omega.{arith}
use Rattle.table.proofs.Marks.{met, unmet, unmet_all, marked_told}
use Rattle.table.proofs.meets.Goals as goal

pub returns-then-has_bit : goal.returns-then-has_bit
returns-then-has_bit c = let slot = c.slot-at.ensures in
    met _ _ _ _ _ _ c.loop-j.invariant (omega arith) _ (marked_told _ _ _ _ _ _ slot.word (rw slot.same at c.has_bit.ensures)) c.if-has_bit.true

pub loop-j-preserved : goal.loop-j-preserved
loop-j-preserved c = let slot = c.slot-at.ensures in
    unmet _ _ _ _ _ _ c.loop-j.invariant (omega arith) _ (marked_told _ _ _ _ _ _ slot.word (rw slot.same at c.has_bit.ensures)) c.if-has_bit.false

pub returns : goal.returns
returns c = unmet_all _ _ _ _ _ _ c.loop-j.invariant (omega arith)
