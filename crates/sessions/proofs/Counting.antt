-- Each return of the number of ways. Assumes nothing.
use mathlib.Core.Path.{◌≡◌, refl, sym, ap, ◌∙◌}
use mathlib.Core.Bool.{true}
use mathlib.Core.List.{List}
use Prim.Native.Nat.{ℕ}
use Rattle.std.specs.Prelude.{Result, Ok, Err, IsErr, IsErrAnd, ⊤}
use Rattle.refusals.specs.Refusals.{given, pass, ruling}
use Rattle.refusals.specs.declared.Refusal.{Refusal}
use Rattle.network.specs.Network.{topology_of}
use Rattle.forwarding.specs.declared.Hop.{Hop}
use Rattle.forwarding.specs.Ways.{route_ways}
use Rattle.ledger.specs.Sessions.{hops_of}
use Rattle.ledger.specs.Routes.{route_check}
use Rattle.ledger.specs.Sound.{intact}
use Rattle.ledger.specs.Calls.{call_check}
use Rattle.ledger.specs.Ways.{ways_of}
use Rattle.table.specs.Table.{live_of}
use Rattle.state.specs.declared.State.{State}
use Rattle.state.specs.State.{view_of}
use Rattle.state.proofs.Replies.{check_passed, same_err}
use Rattle.sessions.specs.Calls.{Tells}
use Rattle.sessions.specs.Ways.{Surveys}
use Rattle.sessions.proofs.First.{refused_tells, given_tells}
use Rattle.sessions.proofs.Surveying.{told_bounded}

module _ (st : State) (route : List ℕ) where
  -- an answer beside the very same state
  pub surveys : (q : Result ℕ Refusal) → Tells (λ (n : ℕ). n) (ways_of (view_of st) route) q → Surveys st route (record { answer = q; state = st })
  surveys q a = record { numbered = a; most = told_bounded (view_of st) route q a; same = refl }

  -- on a state that isn't broken
  module _ (ok : intact (view_of st) ≡ true) (w : Result ⊤ Refusal) (e : ruling w ≡ route_check (topology_of st.network) route) where
    pub check_answers : (r : Refusal) → w ≡ Err r → (q : Result ℕ Refusal) → IsErr q × IsErrAnd q (λ x. x ≡ r) → Tells (λ (n : ℕ). n) (ways_of (view_of st) route) q
    check_answers r v q h = refused_tells (λ (n : ℕ). n) (ways_of (view_of st) route) r (unfold ways_of call_check in rw (ok, sym e, v)) q (same_err q r h)

    module _ (x : ⊤) (v : w ≡ Ok x) where
      pub passed : route_check (topology_of st.network) route ≡ given pass
      passed = check_passed w (route_check (topology_of st.network) route) e x v

      pub number_answers : (lent : List Hop) → lent ≡ hops_of (topology_of st.network) (live_of st.table) route
          → (n : ℕ) → n ≡ route_ways lent → Tells (λ (n : ℕ). n) (ways_of (view_of st) route) (Ok n)
      number_answers lent f n b = given_tells (λ (n : ℕ). n) (ways_of (view_of st) route) n (told ∙ ap given (sym is)) (Ok n) refl
        where
          told : ways_of (view_of st) route ≡ given (route_ways (hops_of (topology_of st.network) (live_of st.table) route))
          told = unfold ways_of call_check in rw (ok, passed)

          is : n ≡ route_ways (hops_of (topology_of st.network) (live_of st.table) route)
          is = b ∙ ap route_ways f
