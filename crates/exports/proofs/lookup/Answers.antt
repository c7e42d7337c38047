-- `exports::lookup` meets its contract. Assumes nothing.
use mathlib.Core.Path.{refl}
use Rattle.refusals.proofs.Refusals.{passed_on}
use Rattle.network_file.proofs.RoundTrip.{loaded_passes}
use Rattle.exports.proofs.Answers.{nothing_written}
use Rattle.exports.proofs.After.{no_state, state_shown, lookup_stopped, lookup_refused, shown_fits, lookup_shown}
use Rattle.exports.proofs.lookup.Goals as goal

pub returns-in_err-network : goal.returns-in_err-network
returns-in_err-network c = nothing_written _ _ _ (lookup_stopped _ _ _ (no_state _ c.args.calls.now _ c.read_network.ensures _ c.in_err-network.was) _ refl _ _) _ (passed_on _ _ _ c.from_residual.ensures)

pub state_after-requires : goal.state_after-requires
state_after-requires c = loaded_passes _ _ (λ i. (c.type_inv.file i).fits) c.read_network.ensures _ c.in_ok-network.was

pub returns-in_err-looked : goal.returns-in_err-looked
returns-in_err-looked c =
    nothing_written _ _ _ (lookup_refused _ _ _ (state_shown _ _ _ c.read_network.ensures (λ i. (c.type_inv.file i).fits) _ c.in_ok-network.was _ c.state_after.ensures) _ refl _ _ c.lookup-looked.ensures _ c.in_err-looked.was _) _ (passed_on _ _ _ c.from_residual-in_err-looked.ensures)

pub put_session-requires : goal.put_session-requires
put_session-requires c = shown_fits _ _ _ (state_shown _ _ _ c.read_network.ensures (λ i. (c.type_inv.file i).fits) _ c.in_ok-network.was _ c.state_after.ensures) _ refl _ _ c.lookup-looked.ensures _ c.in_ok-looked.was

pub returns : goal.returns
returns c = rw (lookup_shown _ _ _ (state_shown _ _ _ c.read_network.ensures (λ i. (c.type_inv.file i).fits) _ c.in_ok-network.was _ c.state_after.ensures) _ refl _ _ c.lookup-looked.ensures _ c.in_ok-looked.was _) c.put_session.ensures
