-- `ways::window` meets its contract. Assumes nothing.
use Prim.Native.Nat.{◌+◌, ◌-◌}
use native.Mathlib.Omega.{arith}
use Rattle.ways.proofs.Running.{rising, window_within, window_across}
use Rattle.ways.proofs.window.Goals as goal

pub overflow_sub-result : goal.overflow_sub-result
overflow_sub-result c = let a = c.args in
    let s = c.requires.3 in
    rw (c.from.ensures, c.from-then-end-frames.ensures) (rising s.0 a.frames a.sums.now s.1 a.first (a.first + a.count) (omega arith) (omega arith)).0

pub returns-then-end-frames : goal.returns-then-end-frames
returns-then-end-frames c = λ f s.
    let a = c.args in
    rw (c.from.ensures, c.from-then-end-frames.ensures) (window_within f a.frames a.sums.now s a.first a.count (omega arith))

pub overflow_add-result : goal.overflow_add-result
overflow_add-result c = let a = c.args in
    let s = c.requires.3 in
    let to = rising s.0 a.frames a.sums.now s.1 in
    rw (c.from-2.ensures, c.from-3.ensures) record { fits = omega (arith, to 0 a.frames (omega arith) (omega arith), to 0 (a.first + a.count - a.frames) (omega arith) (omega arith)) }

pub overflow_sub-result-2 : goal.overflow_sub-result-2
overflow_sub-result-2 c = let a = c.args in
    let s = c.requires.3 in
    rw (c.from.ensures, c.from-2.ensures) (omega (arith, (rising s.0 a.frames a.sums.now s.1 a.first a.frames (omega arith) (omega arith)).0))

pub returns : goal.returns
returns c = λ f s.
    let a = c.args in
    rw (c.from.ensures, c.from-2.ensures, c.from-3.ensures) (window_across f a.frames a.sums.now s a.first a.count c.requires.0 (omega arith) c.requires.1)
