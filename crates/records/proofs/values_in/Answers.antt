use mathlib.Core.List.{[]}
use native.Mathlib.Omega.{arith}
use Rattle.places.proofs.Firsts.{firsts_filled}
use Rattle.records.proofs.Turns.{none_taken, at_room, part_room, one_taken, all_taken}
use Rattle.records.proofs.Layouts.{laid_at}
use Rattle.records.proofs.values_in.Goals as goal

pub loop-j-init : goal.loop-j-init
loop-j-init g c = none_taken _ _ _ _ _ (firsts_filled _ [] 0 (omega arith))

pub value_in-requires : goal.value_in-requires
value_in-requires g c = let a = laid_at c.args.fields.now c.loop-j.j c.requires.0 (omega arith) in
    (a.low, a.small, part_room c.args.fields.now _ c.args.map c.args.rest.now c.loop-j.values c.loop-j.at c.loop-j.j c.loop-j.invariant (omega arith) c.requires.2)

pub size_in-at-requires : goal.size_in-at-requires
size_in-at-requires g c = (laid_at c.args.fields.now c.loop-j.j c.requires.0 (omega arith)).low

pub overflow_add-at : goal.overflow_add-at
overflow_add-at g c = omega (arith, c.size_in-at.ensures, at_room c.args.fields.now _ _ _ _ _ _ c.loop-j.invariant (omega arith) c.requires.2)

pub loop-j-preserved : goal.loop-j-preserved
loop-j-preserved g c = one_taken c.args.fields.now _ _ _ _ _ c.loop-j.j c.loop-j.invariant (omega arith) c.requires.2 c.requires.1 _ _ c.value_in.ensures c.size_in-at.ensures

pub returns : goal.returns
returns g c = all_taken c.args.fields.now _ _ _ _ _ c.loop-j.j c.loop-j.invariant (omega arith)
