use Rattle.std.proofs.Common.{◌≤◌, length, take, refl, sym, ap, ◌∙◌, rules, arith}
use Rattle.std.proofs.lemmas.List.{length-take}
use Rattle.ledger.specs.Lists.{any_two}
use Rattle.ledger.specs.Sound.{same_number}
use Rattle.table.proofs.Live.{in_all, in_taken}
use Rattle.table.proofs.Twice.{two_found, two_missed}
use Rattle.table.proofs.Numbers.{none_numbered, one_numbered, number_met, numbers_rule}
use Rattle.table.proofs.number_twice.Goals as goal

pub loop-i-init : goal.loop-i-init
loop-i-init c = (none_numbered _, refl)

pub returns-then-among : goal.returns-then-among
returns-then-among c =
    let t = c.args.table in
    let few : t.live ≤ length t.places = search rules in
    two_found same_number _ _ c.loop-i-test.true _ (number_met (take t.live t.places) c.loop-i.i _ c.loop-i.invariant.0 _ c.among.ensures) c.if-among.true
    ∙ ap (any_two same_number) (sym (in_taken _ _ few))
    ∙ numbers_rule _

pub loop-i-preserved : goal.loop-i-preserved
loop-i-preserved c =
    let t = c.args.table in
    let i = c.loop-i.i in
    let inv = c.loop-i.invariant in
    let l = c.loop-i-test.true in (
      one_numbered _ _ _ inv.0 (omega (arith, length-take t.live t.places)) l,
      two_missed same_number _ _ l _ (number_met (take t.live t.places) i _ inv.0 _ c.among.ensures) inv.1 c.if-among.false,
    )

pub returns : goal.returns
returns c =
    let few : c.args.table.live ≤ length c.args.table.places = search rules in
    sym (ap (any_two same_number) (sym (in_all _ _ _ few c.loop-i-test.false)) ∙ c.loop-i.invariant.1) ∙ numbers_rule _
