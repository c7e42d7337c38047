-- `search::search` meets its contract. Assumes nothing.
use mathlib.Core.Path.{◌≡◌}
use mathlib.Core.List.{reverse}
use Prim.Native.Nat.{◌+◌, ◌-◌, ◌<◌}
use native.Mathlib.Omega.{arith}
use lib.ListN.{length}
use Rattle.std.specs.Prelude.{Some}
use Rattle.forwarding.specs.Inner.{hop_at}
use Rattle.search.specs.Inner.{EndFound, chain_of}
use Rattle.search.proofs.Ending.{blank_preds, blank_wide, node_chain, begun_sweeps, ends_blocked, ends_found, chain_ready, chain_placed, chain_long, nodes_long}
use Rattle.search.proofs.Recovering.{first_parted}
use Rattle.search.proofs.Findings.{finds_blocked, finds_schedule}
use Rattle.search.proofs.search.Goals as goal

pub sweep-count-requires : goal.sweep-count-requires
sweep-count-requires c = let a = c.args in
    let f = c.first_row in
    let e : length a.hops.now - 1 + 1 ≡ length a.hops.now = omega (arith, c.requires.some_hop) in
    (c.requires.some_hop, begun_sweeps a.t a.hops.now (length a.hops.now - 1) f.new.cells _ (rw e c.requires) f.ensures blank_wide)

pub returns-in_default : goal.returns-in_default
unfolding EndFound
returns-in_default c = let a = c.args in
    let f = c.first_row in
    let w = c.sweep-count in
    let e : length a.hops.now - 1 + 1 ≡ length a.hops.now = omega (arith, c.requires.some_hop) in
    let begun = f.new.cells in
    let z = begun_sweeps a.t a.hops.now (length a.hops.now - 1) begun blank_preds (rw e c.requires) f.ensures blank_wide in
    let l : length a.hops.now - 1 < length a.hops.now = omega (arith, c.requires.some_hop, c.requires.few_hops) in
    let row = w.new.row in
    let preds = w.new.preds in
    finds_blocked a.t a.hops.now (length a.hops.now) c.requires (omega arith) w.result
    (rw e at (ends_blocked a.t a.hops.now (length a.hops.now - 1) begun blank_preds z row preds w.result w.ensures 32768 0 (rw c.in_default.is at c.best_end.ensures) l f.ensures (omega arith)))

pub recover-requires : goal.recover-requires
unfolding EndFound
recover-requires c = let a = c.args in
    let f = c.first_row in
    let w = c.sweep-count in
    let end = c.in-Some.end in
    let found : EndFound c.sweep-count.new.row (hop_at a.hops.now (length a.hops.now - 1)).frames (hop_at a.hops.now (length a.hops.now - 1)).colours (Some end) = rw c.in-Some.is at c.best_end.ensures in
    let e : length a.hops.now - 1 + 1 ≡ length a.hops.now = omega (arith, c.requires.some_hop) in
    let begun = f.new.cells in
    let z = begun_sweeps a.t a.hops.now (length a.hops.now - 1) begun blank_preds (rw e c.requires) f.ensures blank_wide in
    let l : length a.hops.now - 1 < length a.hops.now = omega (arith, c.requires.some_hop, c.requires.few_hops) in
    let row = w.new.row in
    let preds = w.new.preds in (
      omega (arith, c.requires.few_hops, c.requires.some_hop),
      chain_ready a.t a.hops.now (length a.hops.now - 1) begun blank_preds z row preds w.result w.ensures end.key end.place found.0 l f.ensures found.1,
    )

pub returns : goal.returns
unfolding EndFound
returns c = let a = c.args in
    let f = c.first_row in
    let w = c.sweep-count in
    let end = c.in-Some.end in
    let found : EndFound c.sweep-count.new.row (hop_at a.hops.now (length a.hops.now - 1)).frames (hop_at a.hops.now (length a.hops.now - 1)).colours (Some end) = rw c.in-Some.is at c.best_end.ensures in
    let e : length a.hops.now - 1 + 1 ≡ length a.hops.now = omega (arith, c.requires.some_hop) in
    let begun = f.new.cells in
    let z = begun_sweeps a.t a.hops.now (length a.hops.now - 1) begun blank_preds (rw e c.requires) f.ensures blank_wide in
    let l : length a.hops.now - 1 < length a.hops.now = omega (arith, c.requires.some_hop, c.requires.few_hops) in
    let row = w.new.row in
    let preds = w.new.preds in
    let low = found.1 in
    let r = c.recover in
    let parts = c.apart in
    finds_schedule a.t a.hops.now (length a.hops.now) c.requires (omega arith) (reverse (node_chain a.hops.now preds (length a.hops.now - 1) end.place)) (reverse (chain_of preds (length a.hops.now - 1) end.place))
    r.new.out parts.result
    (rw e at (nodes_long a.t a.hops.now (length a.hops.now - 1) begun blank_preds z row preds w.result w.ensures end.key end.place found.0 l f.ensures))
    (rw e at (chain_long a.t a.hops.now (length a.hops.now - 1) begun blank_preds z row preds w.result w.ensures end.key end.place found.0 l f.ensures))
    (rw e at (chain_placed a.t a.hops.now (length a.hops.now - 1) begun blank_preds z row preds w.result w.ensures end.key end.place found.0 l f.ensures low))
    (rw e at r.ensures)
    (first_parted (length a.hops.now) r.new.out parts.result.frames parts.result.colours (omega (arith, c.recover.array_long, c.requires.few_hops)) parts.ensures.1)
    w.result
    (rw parts.ensures.0 (rw e at (ends_found a.t a.hops.now (length a.hops.now - 1) begun blank_preds z row preds w.result w.ensures end.key end.place found.0 l f.ensures low)))
