-- Each return of a release on a state that isn't broken. Assumes nothing.
use mathlib.Core.Path.{◌≡◌, sym, ap, ap₂, ◌∙◌}
use mathlib.Core.Bool.{true, false}
use Prim.Native.Nat.{ℕ}
use native.Mathlib.Omega.{arith}
use Rattle.std.specs.Prelude.{Ok, Err}
use Rattle.refusals.specs.Refusals.{refusal_number, refusal_count}
use Rattle.refusals.specs.declared.Refusal.{Refusal}
use Rattle.network.specs.Network.{topology_of}
use Rattle.ledger.specs.Lists.{keep}
use Rattle.ledger.specs.Sessions.{is_live}
use Rattle.ledger.specs.Sound.{intact}
use Rattle.ledger.specs.Calls.{Release, freed, refusal, granted, reply, strikes, leaves, effect, other_than}
use Rattle.table.specs.declared.Table.{Table}
use Rattle.table.specs.Table.{live_of}
use Rattle.state.specs.declared.State.{State}
use Rattle.state.specs.State.{view_of, Releases}
use Rattle.state.proofs.Replies.{release_refuses, release_passes, refused_reply, granted_reply, refusal_leaves, stays, moves}

module _ (st : State) (ok : intact (view_of st) ≡ true) (n : ℕ) where
  pub release_refused : is_live n (live_of st.table) ≡ false → (r : Refusal) → refusal_number r ≡ 19 → refusal_count r ≡ 0
      → Releases st n (record { answer = Err r; state = st })
  release_refused h r p q =
      let a : reply (view_of st) (Release n) ≡ refusal 19 0 =
      refused_reply (view_of st) ok (Release n) 19 (release_refuses (topology_of st.network) (live_of st.table) n h) in
      record { answer = ap₂ refusal p q ∙ sym a; after = stays st (Release n) (refusal_leaves (Release n) _ 19 0 a) }

  pub release_passed : is_live n (live_of st.table) ≡ true → (t : Table) → live_of t ≡ keep (other_than n) (live_of st.table)
      → Releases st n (record { answer = Ok tt; state = record { network = st.network; table = t } })
  unfolding granted
  release_passed h t l =
      let a : reply (view_of st) (Release n) ≡ freed =
      granted_reply (view_of st) ok (Release n) (release_passes (topology_of st.network) (live_of st.table) n h) in
      record { answer = sym a; after = moves st (Release n) (strikes n) (ap (effect (Release n)) a) strikes_move t l }
    where
      strikes_move : (X : Type 0) → strikes n ≡ leaves → X
      strikes_move X q = let z : ◌≡◌ {A = ℕ} 0 1 = cc in absurd (omega arith)
