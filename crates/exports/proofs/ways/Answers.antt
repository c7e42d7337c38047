-- `exports::ways` meets its contract. Assumes nothing.
use mathlib.Core.Path.{refl}
use Rattle.refusals.proofs.Refusals.{passed_on}
use Rattle.network_file.proofs.RoundTrip.{loaded_passes}
use Rattle.exports.proofs.Answers.{nothing_written}
use Rattle.exports.proofs.After.{no_state, state_shown, ways_stopped, ways_refused, ways_numbered}
use Rattle.exports.proofs.ways.Goals as goal

pub returns-in_err-network : goal.returns-in_err-network
returns-in_err-network c = nothing_written _ _ _ (ways_stopped _ _ _ (no_state _ c.args.calls.now _ c.read_network.ensures _ c.in_err-network.was) _ refl _ _) _ (passed_on _ _ _ c.from_residual.ensures)

pub state_after-requires : goal.state_after-requires
state_after-requires c = loaded_passes _ _ (λ i. (c.type_inv.file i).fits) c.read_network.ensures _ c.in_ok-network.was

pub returns-in_err-numbered : goal.returns-in_err-numbered
returns-in_err-numbered c =
    nothing_written _ _ _ (ways_refused _ _ _ (state_shown _ _ _ c.read_network.ensures (λ i. (c.type_inv.file i).fits) _ c.in_ok-network.was _ c.state_after.ensures) _ refl _ _ c.number_of_ways-numbered.ensures _ c.in_err-numbered.was _) _ (passed_on _ _ _ c.from_residual-in_err-numbered.ensures)

pub returns : goal.returns
returns c = rw (ways_numbered _ _ _ (state_shown _ _ _ c.read_network.ensures (λ i. (c.type_inv.file i).fits) _ c.in_ok-network.was _ c.state_after.ensures) _ refl _ _ c.number_of_ways-numbered.ensures _ c.in_ok-numbered.was _) c.put_number.ensures
