-- `text::Page::put_decimal` meets its contract. Assumes nothing.
use native.Mathlib.Omega.{arith}
use mathlib.Core.Logic.{inl, inr}
use Rattle.text.proofs.Digits.{Tens, room_tens, room_last, put_last}
use Rattle.text.proofs.Page.+put_decimal.Goals.{then-n-ge10, else-n-ge10}
use Rattle.text.proofs.Page.+put_decimal.Goals as goal

pub put_decimal-requires : goal.put_decimal-requires
put_decimal-requires t c = (omega (arith, c.if-n-ge10.true), room_tens c.args.n c.args.self.now c.requires c.if-n-ge10.true)

pub put_byte-requires : goal.put_byte-requires
put_byte-requires t c = let w : Tens c.args.n c.args.self.now c.if-n-ge10.self = elim c.if-n-ge10.branch [ then-n-ge10 w ↦ inl (w.if-n-ge10.true, rw w.self-is w.put_decimal.ensures) | else-n-ge10 w ↦ inr (w.if-n-ge10.false, w.self-is) ] in
    room_last c.args.n c.args.self.now c.requires c.if-n-ge10.self w

pub returns : goal.returns
returns t c = let w : Tens c.args.n c.args.self.now c.if-n-ge10.self = elim c.if-n-ge10.branch [ then-n-ge10 w ↦ inl (w.if-n-ge10.true, rw w.self-is w.put_decimal.ensures) | else-n-ge10 w ↦ inr (w.if-n-ge10.false, w.self-is) ] in
    put_last c.args.n c.args.self.now c.requires c.if-n-ge10.self w _ c.put_byte.ensures
