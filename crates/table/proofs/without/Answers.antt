use mathlib.Core.Path.{◌≡◌, sym, subst₂}
use Prim.Native.Nat.{ℕ, ◌+◌, ◌≤◌}
use borrow.Author.Rules.{rules}
use native.Mathlib.Omega.{arith}
use lib.ListN.{length, take}
use Rattle.std.proofs.lemmas.List.{length-take}
use Rattle.table.specs.declared.Table.{Table}
use Rattle.table.proofs.Live.{in_all}
use Rattle.table.proofs.Tables.{Left, none_left, kept_one, left_one}
use Rattle.table.proofs.without.Goals as goal
use Rattle.table.proofs.without.Goals.{then-place-number, else-place-number}

pub loop-place-init : goal.loop-place-init
loop-place-init c = let long : length c.args.table.places ≡ 96 = search rules in none_left _ _ _ long

pub offset_bounds-next-kept : goal.offset_bounds-next-kept
offset_bounds-next-kept c = omega (arith, length-take c.args.table.live c.args.table.places)

pub loop-place-preserved : goal.loop-place-preserved
loop-place-preserved c =
    let t = c.args.table in
    let inv = c.loop-place.invariant in
    let l = c.loop-place-test.true in
    let few : length (take t.live t.places) ≤ 96 = omega (arith, length-take t.live t.places) in
    let move : (x : Table) (y : ℕ) → Type 0 = λ x y. Left c.args.number (take t.live t.places) (c.loop-place.place-index + 1) y x.places in
    elim c.if-place-number.branch [
      | then-place-number w ↦ subst₂ move (sym w.next-is) (sym w.kept-is) (kept_one _ _ _ _ _ inv l few w.if-place-number.true)
      | else-place-number w ↦ subst₂ move (sym w.next-is) (sym w.kept-is) (left_one _ _ _ _ _ inv l w.if-place-number.false)
    ]

pub returns : goal.returns
returns c =
    let few : c.args.table.live ≤ length c.args.table.places = search rules in
    rw (← in_all _ _ _ few c.loop-place-test.false) c.loop-place.invariant.same
