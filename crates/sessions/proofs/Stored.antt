-- Stored states go by the rules: none that `begin` led to is broken, demand 3 at the calls, and a release. Assumes nothing.
use mathlib.Core.Path.{◌≡◌, refl, sym, ap, subst, ◌∙◌}
use mathlib.Core.Bool.{true, false}
use mathlib.Core.List.{List, ◌∷◌}
use Prim.Native.Nat.{ℕ}
use lib.Dec.{eqb}
use Rattle.std.specs.Prelude.{Result, Ok, Err, ⊤}
use borrow.Author.Tests.{eqb-false}
use Rattle.places.specs.Places.{firsts}
use Rattle.refusals.specs.Refusals.{refusal_number, Outcome, Ruling, given, refused, pass}
use Rattle.refusals.specs.declared.Refusal.{Refusal}
use Rattle.refusals.specs.declared.Refusal.TheVariants.{NumberNotLive}
use Rattle.refusals.proofs.Refusals.{refusal_only, uncounted}
use Rattle.network.specs.Network.{Topology, topology_of}
use Rattle.network.specs.Checks.{network_check}
use Rattle.network.specs.declared.Network.{Network}
use Rattle.ledger.specs.Sessions.{Session, View, held_in}
use Rattle.ledger.specs.Sound.{intact}
use Rattle.ledger.specs.Calls.{Call, SetUp, Quote, Release, Reply, reply, next, lookup}
use Rattle.ledger.specs.Ledger.{AnsweredCall, did}
use Rattle.ledger.specs.Demand.{fresh, Demand3, Runs, over, call_then}
use Rattle.ledger.proofs.Intact.{fresh_intact}
use Rattle.ledger.proofs.Freeing.{release_frees}
use Rattle.ledger.proofs.Whole.{runs_intact, demand3}
use Rattle.state.specs.declared.State.{State}
use Rattle.state.specs.State.{view_of}
use Rattle.state.proofs.Replies.{fresh_shown, quotes_back}
use Rattle.state.specs.declared.Served.{Served}
use Rattle.sessions.specs.declared.Shown.{Shown}
use Rattle.sessions.specs.Calls.{shut_network, begun_on, Begins, Tells, shown_of}
use Rattle.sessions.specs.Cycles.{CyclesBeside}
use Rattle.sessions.specs.Stored.{StoredByRules, BegunIntact, StoredDemand3, FreesShown, StoredReleaseFrees}
use Rattle.sessions.specs.Stored as stored
use Rattle.sessions.proofs.Beginning.{shut_passed}
use Rattle.sessions.proofs.Beside.{lookup_cycles}

-- ---- the rules
-- one step of the stored states is one of the rules
step : {v left last : View} {steps : List AnsweredCall} (call : Call) (r : Reply) → r ≡ reply v call → left ≡ next v call → Runs left steps last → Runs v (did call r ∷ steps) last
step {v} {left} {last} {steps} call r e l runs =
    subst (λ (x : Reply). Runs v (did call x ∷ steps) last) (sym e) (call_then call (subst (λ (u : View). Runs u steps last) l runs))

-- WHAT STORED STATES SHOW GOES BY THE RULES, call by call
pub stored_by_rules : StoredByRules
stored_by_rules st last steps stored.over = over
stored_by_rules st last steps (stored.set_up n route r w rest) =
    step (SetUp n route) _ (quotes_back (view_of st) (SetUp n route) r.answer w.answer) w.after.view (stored_by_rules r.state last _ rest)
stored_by_rules st last steps (stored.quote route r w rest) =
    step (Quote route) _ (quotes_back (view_of st) (Quote route) r.answer w.answer) w.after.view (stored_by_rules r.state last _ rest)
stored_by_rules st last steps (stored.release n r w rest) = step (Release n) _ w.answer w.after.view (stored_by_rules r.state last _ rest)

-- ---- what `begin` gave
-- its network passed, and it shows that network fresh
module _ (network : Network) (r : Served ⊤) (b : Begins network r) where
  on : Network
  on = begun_on (network_check (topology_of network)) network

  begun_network : r.state.network ≡ on
  unfolding on
  begun_network = ap (λ (st : State). st.network) b.state

  begun_view : view_of r.state ≡ fresh (topology_of r.state.network)
  unfolding on
  begun_view = ap view_of b.state ∙ fresh_shown on ∙ ap (λ (net : Network). fresh (topology_of net)) (sym begun_network)

  begun_passed : network_check (topology_of r.state.network) ≡ given pass
  unfolding on
  begun_passed = ap (λ (net : Network). network_check (topology_of net)) begun_network ∙ go (network_check (topology_of network)) refl
    where
      go : (o : Ruling) → network_check (topology_of network) ≡ o → network_check (topology_of (begun_on o network)) ≡ given pass
      go (given pass) e = e
      go (refused k) e = shut_passed shut_network refl

  pub shut_begun : (k : ℕ) → network_check (topology_of network) ≡ refused k → r.state.network ≡ shut_network
  unfolding on
  shut_begun k e = begun_network ∙ ap (λ (o : Ruling). begun_on o network) e

-- AFTER EVERY LIST OF CALLS FROM WHAT `begin` GAVE THE STATE ISN'T BROKEN
pub begun_intact : BegunIntact
begun_intact network r b last steps run =
    let begun : intact (view_of r.state) ≡ true =
    subst (λ (v : View). intact v ≡ true) (sym (begun_view network r b)) (fresh_intact (topology_of r.state.network) (begun_passed network r b)) in
    runs_intact begun (stored_by_rules r.state last steps run)

-- ---- demand 3
-- another number than 18 tells the refusal
pub number_tells : (k : ℕ) (a b : Refusal) → refusal_number a ≡ k → refusal_number b ≡ k → eqb k 18 ≡ false → a ≡ b
number_tells k a b p q other =
    refusal_only a b (p ∙ sym q) (uncounted a (λ e. eqb-false k 18 other (sym p ∙ e)) ∙ sym (uncounted b (λ e. eqb-false k 18 other (sym q ∙ e))))

not_live : (q : Result Shown Refusal) → Tells {A = Session} shown_of (refused 19) q → q ≡ Err NumberNotLive
not_live q w = w.2 ∙ ap Err (number_tells 19 w.0 NumberNotLive w.1 refl refl)

-- DEMAND 3 OF THE STORED STATES
pub stored_demand3 : StoredDemand3
stored_demand3 network r b last steps run =
    let rules : Demand3 (topology_of r.state.network) (view_of last) steps =
    demand3 (topology_of r.state.network) (begun_passed network r b) steps (view_of last)
    (subst (λ (v : View). Runs v steps (view_of last)) (begun_view network r b) (stored_by_rules r.state last steps run)) in
    record {
      rules = rules;
      entry_shown = λ e m q w. subst (λ (o : Outcome Session). Tells shown_of o q.answer) (rules.entry_shown e m) w.shown;
      none_shown = λ n h q w. not_live q.answer (subst (λ (o : Outcome Session). Tells shown_of o q.answer) (rules.none_shown n h) w.shown);
      cycles_shown = λ n q w s p. subst (λ (net : Topology). CyclesBeside net (firsts s.hops s.route 0) s.held) rules.network (lookup_cycles last n q w s p);
    }

-- ---- a release
-- A RELEASE FREES EXACTLY ITS SESSION'S FRAMES, at the call
pub stored_release_frees : StoredReleaseFrees
stored_release_frees st n q r looks x p w = go (lookup (view_of st) n) refl (subst (λ (a : Result Shown Refusal). Tells shown_of (lookup (view_of st) n) a) p looks.shown)
  where
    go : (o : Outcome Session) → lookup (view_of st) n ≡ o → Tells shown_of o (Ok x) → FreesShown st r.state x
    go (given s) e t =
        record {
          session = s;
          shown = cc;
          frees = λ y. ap (λ (v : View). held_in v.live y) w.after.view ∙ release_frees (view_of st) n s e y;
        }
    go (refused k) e t = let z = t.2 in cc
