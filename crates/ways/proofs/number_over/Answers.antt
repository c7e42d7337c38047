use mathlib.Core.Path.{◌≡◌}
use Prim.Native.Nat.{◌-◌}
use native.Mathlib.Omega.{arith}
use lib.ListN.{length}
use Rattle.ways.proofs.Hops.{counts_small, last_counts, counts_entered, counts_before, counts_all}
use Rattle.ways.proofs.number_over.Goals as goal

pub loop-j-init : goal.loop-j-init
loop-j-init c = let r = c.requires.0.1 in
    last_counts c.args.hops.now c.requires.0.0 r (length c.args.hops.now - 1) (omega (arith, r.some_hop))

pub row_before-row-requires : goal.row_before-row-requires
row_before-row-requires c = let l = c.loop-j in
    counts_entered c.args.hops.now c.requires.0.0 c.requires.0.1 (l.j - 1) l.row (omega arith) l.invariant

pub loop-j-preserved : goal.loop-j-preserved
loop-j-preserved c = let a = c.args in
    let l = c.loop-j in
    counts_before a.hops.now (l.j - 1) l.row c.row_before-row.result (omega arith) (omega arith) (c.requires.1 (l.j - 1) (omega arith)) l.invariant c.row_before-row.ensures

pub running_sums-sums-requires : goal.running_sums-sums-requires
running_sums-sums-requires c = let l = c.loop-j in
    let e : l.j - 1 ≡ 0 = omega arith in (
      (c.requires.0.1.each 0 c.requires.0.1.some_hop).few_frames,
      counts_small c.args.hops.now c.requires.0.0 c.requires.0.1 0 l.row (rw e at l.invariant),
    )

pub returns : goal.returns
returns c = let l = c.loop-j in
    let e : l.j - 1 ≡ 0 = omega arith in
    rw c.from.ensures (counts_all c.args.hops.now l.row c.running_sums-sums.result c.requires.0.1.some_hop (c.requires.1 0 c.requires.0.1.some_hop) (rw e at l.invariant) c.running_sums-sums.ensures)
