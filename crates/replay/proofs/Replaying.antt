-- The state after calls, one after the other. Assumes nothing.
use mathlib.Core.Path.{◌≡◌, refl, sym, ap, ◌∙◌}
use mathlib.Core.Bool.{true}
use mathlib.Core.List.{List, [], ◌∷◌}
use Prim.Native.Nat.{ℕ, min}
use lib.ListN.{length, take}
use Rattle.std.specs.Prelude.{Result, Ok, Err, ⊤}
use Rattle.std.specs.Borrow.{Bor}
use Rattle.refusals.specs.Refusals.{Outcome, given, answered}
use Rattle.refusals.specs.declared.Refusal.{Refusal}
use Rattle.network.specs.Network.{topology_of}
use Rattle.network.specs.declared.Network.{Network}
use Rattle.ledger.specs.Sessions.{View}
use Rattle.ledger.specs.Sound.{intact}
use Rattle.ledger.specs.Calls as rules
use Rattle.ledger.specs.Demand.{fresh}
use Rattle.call_records.specs.declared.Call.{Call}
use Rattle.call_records.specs.declared.Call.TheVariants.{SetUp, Quote, Release}
use Rattle.call_records.specs.Reading.{call_of}
use Rattle.call_records.specs.Records.{calls_in, counted}
use Rattle.call_records.specs.Served.{view_after, view_after_all}
use Rattle.call_records.proofs.Records.{counted_part}
use Rattle.state.specs.declared.State.{State}
use Rattle.state.specs.declared.Quoted.{Quoted}
use Rattle.state.specs.declared.Served.{Served}
use Rattle.state.specs.State.{view_of, fresh_state, Leaves, Serves, Releases}
use Rattle.state.proofs.Replies.{left_intact, first_view}
use Rattle.replay.specs.Replayed.{Becomes}

-- ---- the state after one call
module _ (st : State) (ok : intact (view_of st) ≡ true) (call : Call) where
  -- a call that was made
  call_made : (c : rules.Call) (after : State) → call_of call ≡ c → Leaves st c after → Becomes st.network (view_after (view_of st) (given (call_of call))) after
  call_made c after is l = rw is (record { network = l.network; view = l.view; unbroken = left_intact st c after l ok })

  pub set_up_made : (n : ℕ) (route : Bor (List ℕ)) → call ≡ SetUp n route → (a : Served Quoted) → Serves st (rules.SetUp n route.now) a → Becomes st.network (view_after (view_of st) (given (call_of call))) a.state
  set_up_made n route is a w = call_made (rules.SetUp n route.now) a.state (ap call_of is) w.after

  pub release_made : (n : ℕ) → call ≡ Release n → (a : Served ⊤) → Releases st n a → Becomes st.network (view_after (view_of st) (given (call_of call))) a.state
  release_made n is a w = call_made (rules.Release n) a.state (ap call_of is) w.after

  -- the very same state after a quote
  pub quote_made : (route : Bor (List ℕ)) → call ≡ Quote route → Becomes st.network (view_after (view_of st) (given (call_of call))) st
  unfolding rules.left rules.next
  quote_made route is = rw is (record { network = refl; view = refl; unbroken = ok })

-- a record that can't be read makes no call
pub none_made : (st : State) → intact (view_of st) ≡ true → (o : Result Call Refusal) → ((call : Call) → o ≡ Ok call → ⊥) → Becomes st.network (view_after (view_of st) (answered call_of o)) st
none_made st ok (Ok call) h = absurd (h call refl)
none_made st ok (Err r) h = record { network = refl; view = refl; unbroken = ok }

-- ---- the calls one after the other
after_more : (v : View) (o : Outcome rules.Call) (os : List (Outcome rules.Call)) → view_after_all v (o ∷ os) ≡ view_after_all (view_after v o) os
unfolding view_after_all
after_more v o os = refl

after_none : (v : View) → view_after_all v [] ≡ v
unfolding view_after_all
after_none v = refl

-- some calls are made: those that are left leave what all of them leave
pub record Running (net : Network) (v : View) (st : State) (os : List (Outcome rules.Call)) : Type 0 where
  pub network : st.network ≡ net
  pub unbroken : intact (view_of st) ≡ true
  pub whole : v ≡ view_after_all (view_of st) os

module _ {net : Network} {v : View} {st : State} {os : List (Outcome rules.Call)} (run : Running net v st os) where
  pub one_run : (o : Outcome rules.Call) (rest : List (Outcome rules.Call)) → os ≡ o ∷ rest → (after : State) → Becomes st.network (view_after (view_of st) o) after → Running net v after rest
  one_run o rest e after w =
      record {
        network = w.network ∙ run.network;
        unbroken = w.unbroken;
        whole = run.whole ∙ ap (view_after_all (view_of st)) e ∙ after_more (view_of st) o rest ∙ ap (λ (x : View). view_after_all x rest) (sym w.view);
      }

  pub all_run : os ≡ [] → Becomes net v st
  all_run e = record { network = run.network; view = sym (run.whole ∙ ap (view_after_all (view_of st)) e ∙ after_none (view_of st)); unbroken = run.unbroken }

-- ---- from a network without sessions
module _ (net : Network) (st : State) (begun : st ≡ fresh_state net) where
  pub counted_run : (s : List ℕ) (n : ℕ) → n ≡ min (length s) 65536 → (r : State) → Becomes st.network (view_after_all (view_of st) (calls_in (take n s))) r
      → Becomes net (view_after_all (fresh (topology_of net)) (calls_in (counted s))) r
  counted_run s n e r b =
      let w = rw (first_view net st begun, (counted_part s n e).0) at b in
      record { network = w.network ∙ ap (λ (x : State). x.network) begun; view = w.view; unbroken = w.unbroken }
