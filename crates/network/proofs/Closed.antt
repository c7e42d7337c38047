-- Check 9 in the words of frames: it passes exactly where no closed bit stands at K or above. Assumes nothing.
use mathlib.Core.Path.{◌≡◌}
use mathlib.Core.Bool.{false}
use Prim.Native.Nat.{ℕ, ◌*◌, ◌+◌, ◌/◌, ◌%◌, ◌^◌, ◌<◌}
use native.Mathlib.Omega.{arith}
use native.Mathlib.Nat.{mod-lt, div-eq_of_lt, div-add-mod'}
use borrow.Author.Tests.{eq-eqb, eqb-true, not-false}
use lib.Pow.{pow_pos}
use lib.Dec.{eqb}
use Rattle.words.proofs.Bits.{bit_high}
use Rattle.words.proofs.Words.{word_below}
use Rattle.network.specs.Checks.{bad_closed, PassedNoneClosed, NoneClosedPassed}

pub closed_below : (K closed : ℕ) → bad_closed K closed ≡ false → closed < 2 ^ K
unfolding bad_closed
closed_below K closed e =
    let q : closed / 2 ^ K ≡ 0 = eqb-true (closed / 2 ^ K) 0 (not-false (eqb (closed / 2 ^ K) 0) e) in
    let d : closed / 2 ^ K * 2 ^ K + closed % 2 ^ K ≡ closed = div-add-mod' closed (2 ^ K) in
    let z : 0 * 2 ^ K + closed % 2 ^ K ≡ closed = rw q at d in
    let l : closed % 2 ^ K < 2 ^ K = mod-lt closed (pow_pos K) in
    omega arith

-- NO CLOSED BIT STANDS AT K OR ABOVE WHERE CHECK 9 PASSES
pub passed_none_closed : PassedNoneClosed
passed_none_closed K closed e i h = bit_high K closed i (closed_below K closed e) h

-- AND CHECK 9 PASSES WHERE NONE STANDS THERE
pub none_closed_passed : NoneClosedPassed
unfolding bad_closed
none_closed_passed K closed w k h =
    let q : closed / 2 ^ K ≡ 0 = div-eq_of_lt (word_below 64 K closed w k h) in
    rw (eq-eqb (closed / 2 ^ K) 0 q)
