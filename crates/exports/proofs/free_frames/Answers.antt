-- `exports::free_frames` meets its contract. Assumes nothing.
use mathlib.Core.Path.{refl, sym, ◌∙◌}
use Rattle.refusals.proofs.Refusals.{passed_on}
use Rattle.network_file.proofs.RoundTrip.{loaded_passes}
use Rattle.exports.proofs.After.{no_state, state_shown, free_stopped, free_refused, free_counted}
use Rattle.exports.proofs.free_frames.Goals as goal

pub returns-in_err-network : goal.returns-in_err-network
returns-in_err-network c = passed_on _ _ _ c.from_residual.ensures ∙ sym (free_stopped _ _ _ (no_state _ c.args.calls.now _ c.read_network.ensures _ c.in_err-network.was) _ refl _)

pub state_after-requires : goal.state_after-requires
state_after-requires c = loaded_passes _ _ (λ i. (c.type_inv.file i).fits) c.read_network.ensures _ c.in_ok-network.was

pub returns-in_err-counted : goal.returns-in_err-counted
returns-in_err-counted c =
    passed_on _ _ _ c.from_residual-in_err-counted.ensures ∙ sym (free_refused _ _ _ (state_shown _ _ _ c.read_network.ensures (λ i. (c.type_inv.file i).fits) _ c.in_ok-network.was _ c.state_after.ensures) _ refl _ _ c.free_frames-counted.ensures _ c.in_err-counted.was)

pub returns : goal.returns
returns c = sym (free_counted _ _ _ (state_shown _ _ _ c.read_network.ensures (λ i. (c.type_inv.file i).fits) _ c.in_ok-network.was _ c.state_after.ensures) _ refl _ _ c.free_frames-counted.ensures _ c.in_ok-counted.was)
