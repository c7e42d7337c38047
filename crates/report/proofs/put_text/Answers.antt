-- `report::put_text` meets its contract. Assumes nothing.
use Rattle.network_file.proofs.RoundTrip.{loaded_passes}
use Rattle.report.proofs.Whole.{refused_text, read_text, read_room}
use Rattle.report.proofs.put_text.Goals as goal

pub fresh_state-first-requires : goal.fresh_state-first-requires
fresh_state-first-requires c = loaded_passes c.args.file.now _ (λ i. (c.type_inv.file i).fits) c.read_network.ensures _ c.in-Ok.is

pub run-requires : goal.run-requires
run-requires c = read_room c.args.file.now c.args.calls.now _ c.read_network.ensures (λ i. (c.type_inv.file i).fits) _ c.in-Ok.is _ c.fresh_state-first.ensures _ c.counted-n.ensures c.args.page.now c.requires

pub put_network-requires : goal.put_network-requires
put_network-requires c = rw c.from.ensures (rw (refused_text c.args.file.now c.args.calls.now _ c.read_network.ensures _ c.in-Err.is) at c.requires)

pub returns-in-Ok : goal.returns-in-Ok
returns-in-Ok c = rw (read_text c.args.file.now c.args.calls.now _ c.read_network.ensures (λ i. (c.type_inv.file i).fits) _ c.in-Ok.is _ c.fresh_state-first.ensures _ c.counted-n.ensures) c.run.ensures

pub returns-in-Err : goal.returns-in-Err
returns-in-Err c = rw (refused_text c.args.file.now c.args.calls.now _ c.read_network.ensures _ c.in-Err.is) (rw c.from.ensures at c.put_network.ensures)
