use mathlib.Core.Path.{◌∙◌, ap}
use Prim.Native.Nat.{ℕ}
use native.Mathlib.Omega.{arith}
use Rattle.lists.specs.Count.{one_if}
use Rattle.lists.proofs.Count.{one_le}
use Rattle.words.specs.Word.{bit_of}
use Rattle.words.proofs.Sliding.{window_first, window_next, window_few, no_windows, one_window}
use Rattle.words.proofs.window_ones.Goals as goal

pub loop-a-init : goal.loop-a-init
loop-a-init c = let a = c.args in
    (no_windows a.word a.frames a.width a.ones.now c.requires.3, c.ones_among-n.ensures ∙ window_first a.word a.frames a.width c.requires.1)

pub overflow_cast-ones : goal.overflow_cast-ones
overflow_cast-ones c = let a = c.args in
    omega (arith, c.loop-a.invariant.1, window_few a.word a.frames a.width c.loop-a.a)

pub overflow_add-n : goal.overflow_add-n
overflow_add-n c = let a = c.args in
    let l = c.loop-a in
    record { fits = omega (arith, l.invariant.1, window_few a.word a.frames a.width l.a, c.one_at.ensures, one_le (bit_of a.word c.frame_on.result)) }

pub overflow_sub-n : goal.overflow_sub-n
overflow_sub-n c = let a = c.args in
    let l = c.loop-a in
    let there = c.one_at.ensures ∙ ap (λ (x : ℕ). one_if (bit_of a.word x)) c.frame_on.ensures in
    omega (arith, window_next a.word a.frames a.width l.a l.n c.one_at-in-loop-a.result c.one_at.result (omega arith) l.invariant.1 c.one_at-in-loop-a.ensures there)

pub loop-a-preserved : goal.loop-a-preserved
loop-a-preserved c = let a = c.args in
    let l = c.loop-a in
    let there = c.one_at.ensures ∙ ap (λ (x : ℕ). one_if (bit_of a.word x)) c.frame_on.ensures in
    let next = window_next a.word a.frames a.width l.a l.n c.one_at-in-loop-a.result c.one_at.result (omega arith) l.invariant.1 c.one_at-in-loop-a.ensures there in
    (rw c.from.ensures (one_window a.word a.frames a.width l.a a.ones.now l.ones l.n (omega arith) l.invariant.0 l.invariant.1), omega (arith, next))
