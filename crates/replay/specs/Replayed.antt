-- The stored state after calls. Assumes nothing.
use Rattle.std.specs.Prelude.{◌≡◌, true}
use Rattle.network.specs.declared.Network.{Network}
use Rattle.ledger.specs.Sessions.{View}
use Rattle.ledger.specs.Sound.{intact}
use Rattle.state.specs.declared.State.{State}
use Rattle.state.specs.State.{view_of}

-- a stored state on a stored network: it shows v, and isn't broken
pub record Becomes (net : Network) (v : View) (st : State) : Type 0 where
  pub network : st.network ≡ net
  pub view : view_of st ≡ v
  pub unbroken : intact (view_of st) ≡ true
