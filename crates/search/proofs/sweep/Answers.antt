use mathlib.Core.Path.{refl}
use Prim.Native.Nat.{ℕ, ◌+◌, ◌-◌, ◌*◌, ◌<◌}
use native.Mathlib.Omega.{arith}
use borrow.Author.Rules.{rules}
use lib.ListN.{length, length-replicate}
use Rattle.forwarding.specs.Inner.{hop_at}
use Rattle.search.specs.Inner.{by_node}
use Rattle.search.proofs.Joining.{all_colours}
use Rattle.search.proofs.Sweeping.{cells_small, swept_none, swept_more, layer_count}
use Rattle.search.proofs.sweep.Goals as goal

pub loop-j-init : goal.loop-j-init
loop-j-init c = let a = c.args in
    (omega arith, swept_none a.t a.hops.now (length a.hops.now - 1) a.row.now a.preds.now c.requires.1, length-replicate {A = ℕ} 256 32768)

pub advance-count-requires : goal.advance-count-requires
advance-count-requires c = let a = c.args in
    let l = c.loop-j in
    let less : l.j < length c.args.hops.now - 1 = c.loop-j-test.true in
    let r = c.requires.1.ready in
    record {
      cycle = r.cycle;
      some_before = (r.each l.j (omega (arith, less))).some_colour;
      few_before = (r.each l.j (omega (arith, less))).few_frames;
      few_colours = (r.each l.j (omega (arith, less))).few_colours;
      ready = r.each (l.j + 1) (omega (arith, less));
      small = cells_small a.t a.hops.now (length a.hops.now - 1) a.row.now a.preds.now c.requires.1 l.j l.row l.preds l.count (omega (arith, less)) l.invariant.1;
      long = let few : l.j < 7 = omega (arith, less, r.few_hops) in search (rules, l.invariant.1.wide.each);
    }

pub overflow_add-count : goal.overflow_add-count
overflow_add-count c = let l = c.loop-j in
    let less : l.j < length c.args.hops.now - 1 = c.loop-j-test.true in
    let r = c.requires.1.ready in
    let n = layer_count c.advance-count.ensures (r.each l.j (omega (arith, less))) (r.each (l.j + 1) (omega (arith, less))) in
    record { fits = omega (arith, n, r.few_hops) }

pub loop-j-preserved : goal.loop-j-preserved
loop-j-preserved c = let a = c.args in
    let l = c.loop-j in
    let less : l.j < length c.args.hops.now - 1 = c.loop-j-test.true in
    let v = c.advance-count in
    let k = c.keep in
    let r = c.requires.1.ready in
    let h = r.each (l.j + 1) (omega (arith, less)) in
    let n = layer_count v.ensures (r.each l.j (omega (arith, less))) h in
    let next = v.new.next in
    let preds = v.new.preds in
    let row = k.new.row in
    let before = hop_at a.hops.now l.j in
    let hop = hop_at a.hops.now (l.j + 1) in
    let d = all_colours a.t before hop (by_node before l.row) h next preds row v.result (64 * hop.colours) refl v.ensures k.ensures in (
      omega (arith, n, l.invariant.0),
      swept_more a.t a.hops.now (length a.hops.now - 1) a.row.now a.preds.now c.requires.1 l.j l.row row l.preds preds l.count v.result (omega (arith, less)) l.invariant.1 k.ensures.long d,
      v.ensures.next_long,
    )
