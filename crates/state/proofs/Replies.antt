-- What a call answers and leaves on a state that isn't broken, check by check. Assumes nothing.
use mathlib.Core.Path.{◌≡◌, refl, sym, ap, ap₂, subst, ◌∙◌}
use mathlib.Core.Bool.{Bool, true, false}
use mathlib.Core.List.{List}
use Prim.Native.Nat.{ℕ, ◌≤◌}
use lib.ListN.{length}
use Rattle.std.specs.Prelude.{Result, Ok, Err, IsErr, IsErrAnd, ⊤}
use Rattle.places.specs.Places.{firsts}
use Rattle.refusals.specs.Refusals.{given, pass, ruling}
use Rattle.refusals.specs.declared.Refusal.{Refusal}
use Rattle.refusals.specs.Refusals as outcome
use Rattle.network.specs.Network.{Topology, topology_of}
use Rattle.network.specs.declared.Network.{Network}
use Rattle.network.specs.Checks.{network_check}
use Rattle.ledger.specs.Held.{Holding}
use Rattle.ledger.specs.Sessions.{Session, View, is_live}
use Rattle.ledger.specs.Routes.{route_check}
use Rattle.ledger.specs.Sound.{intact}
use Rattle.ledger.specs.Calls.{Call, links_of, SetUp, Quote, Release, Reply, schedule, freed, refusal, unless, full, call_check, granted, reply, Effect, leaves, effect, live_after, left, next}
use Rattle.ledger.specs.Demand.{fresh}
use Rattle.ledger.proofs.Intact.{fresh_intact}
use Rattle.ledger.proofs.Answered.{reply_intact}
use Rattle.ledger.proofs.Kept.{next_intact}
use Rattle.ledger.proofs.Scheduled.{Scheduled, scheduled, scheduled_back}
use Rattle.routes.proofs.Routes.{route_long}
use Rattle.table.specs.declared.Table.{Table}
use Rattle.table.specs.Table.{live_of}
use Rattle.state.specs.declared.State.{State}
use Rattle.state.specs.declared.Quoted.{Quoted}
use Rattle.state.specs.State.{view_of, fresh_state, FreshShown, Quotes, quoted_in, Leaves, LeftIntact}

-- ---- a check that passed, and one that didn't
pub check_passed : (v : Result ⊤ Refusal) (o : outcome.Ruling) → ruling v ≡ o → (x : ⊤) → v ≡ Ok x → o ≡ given pass
check_passed v o e x q = sym e ∙ ap ruling q

-- what `?` passes on is the same refusal
pub same_err : {A : Type 0} (q : Result A Refusal) (r : Refusal) → IsErr q × IsErrAnd q (λ e. e ≡ r) → q ≡ Err r
same_err (Ok x) r h = let e : ◌≡◌ {A = Bool} false true = h.0 in cc
same_err (Err e) r h = ap Err h.1

-- ---- the checks of a call after 0, one after the other
module _ (net : Topology) (ss : List Session) (n : ℕ) (route : List ℕ) where
  pub route_refuses : (k : ℕ) → route_check net route ≡ outcome.refused k → call_check net ss (SetUp n route) ≡ outcome.refused k
  unfolding call_check
  route_refuses k e = rw e

  module _ (p : route_check net route ≡ given pass) where
    pub number_refuses : is_live n ss ≡ true → call_check net ss (SetUp n route) ≡ outcome.refused 16
    unfolding call_check
    number_refuses e = rw (p, e)

    module _ (q : is_live n ss ≡ false) where
      pub places_refuse : full ss ≡ true → call_check net ss (SetUp n route) ≡ outcome.refused 17
      unfolding call_check
      places_refuse e = rw (p, q, e)

      pub none_refuses : full ss ≡ false → call_check net ss (SetUp n route) ≡ given pass
      unfolding call_check
      none_refuses e = rw (p, q, e)

pub release_refuses : (net : Topology) (ss : List Session) (n : ℕ) → is_live n ss ≡ false → call_check net ss (Release n) ≡ outcome.refused 19
unfolding call_check
release_refuses net ss n e = rw e

pub release_passes : (net : Topology) (ss : List Session) (n : ℕ) → is_live n ss ≡ true → call_check net ss (Release n) ≡ given pass
unfolding call_check
release_passes net ss n e = rw e

pub quote_check : (net : Topology) (ss : List Session) (route : List ℕ) → call_check net ss (Quote route) ≡ route_check net route
unfolding call_check
quote_check net ss route = refl

-- ---- the answer, and what is left
module _ (v : View) (ok : intact v ≡ true) (call : Call) where
  pub refused_reply : (k : ℕ) → call_check v.network v.live call ≡ outcome.refused k → reply v call ≡ refusal k 0
  refused_reply k e = reply_intact v call ok ∙ ap (λ (r : outcome.Ruling). unless r (granted v.network v.live call)) e

  pub granted_reply : call_check v.network v.live call ≡ given pass → reply v call ≡ granted v.network v.live call
  granted_reply e = reply_intact v call ok ∙ ap (λ (r : outcome.Ruling). unless r (granted v.network v.live call)) e

pub refusal_leaves : (call : Call) (r : Reply) (k c : ℕ) → r ≡ refusal k c → effect call r ≡ leaves
refusal_leaves (SetUp n route) r k c e = ap (effect (SetUp n route)) e
refusal_leaves (Quote route) r k c e = refl
refusal_leaves (Release n) r k c e = ap (effect (Release n)) e

next_same : (v : View) (call : Call) → effect call (reply v call) ≡ leaves → next v call ≡ v
unfolding left next
next_same v call e = ap (left v) e

-- a call that changes no session leaves the very same state
pub stays : (st : State) (call : Call) → effect call (reply (view_of st) call) ≡ leaves → Leaves st call st
stays st call e = record { view = sym (next_same (view_of st) call e); network = refl; same = λ _. refl }

-- a call with another effect leaves a table that shows it, on the same network
pub moves : (st : State) (call : Call) (f : Effect) → effect call (reply (view_of st) call) ≡ f → ((X : Type 0) → f ≡ leaves → X) → (t : Table)
    → live_of t ≡ live_after (live_of st.table) f → Leaves st call (record { network = st.network; table = t })
unfolding left next
moves st call f e other t l =
    record {
      view = ap (λ (ss : List Session). record { network = (view_of st).network; live = ss }) l ∙ ap (left (view_of st)) (sym e);
      network = refl;
      same = λ q. other _ (sym e ∙ q);
    }

-- A STATE WITHOUT SESSIONS SHOWS A FRESH NETWORK
pub fresh_shown : FreshShown
unfolding firsts
fresh_shown net = refl

-- the state that a list begins with shows a fresh network, and isn't broken
module _ (net : Network) (st : State) (begun : st ≡ fresh_state net) where
  pub first_view : view_of st ≡ fresh (topology_of net)
  first_view = ap view_of begun ∙ fresh_shown net

  pub first_intact : network_check (topology_of net) ≡ given pass → intact (view_of st) ≡ true
  first_intact passed = subst (λ (v : View). intact v ≡ true) (sym first_view) (fresh_intact (topology_of net) passed)

-- A CALL ON A STATE THAT ISN'T BROKEN LEAVES ONE THAT ISN'T BROKEN
pub left_intact : LeftIntact
left_intact st call after l e = subst (λ (v : View). intact v ≡ true) (sym l.view) (next_intact (view_of st) call e)

-- ---- the program's answer, read over the links of its call, is the rule's
pub quotes_back : (v : View) (call : Call) (q : Result Quoted Refusal) → Quotes (reply v call) q → quoted_in (length (links_of call)) q ≡ reply v call
quotes_back v call q w = go (reply v call) refl w
  where
    few : (held : Holding) → Scheduled v (links_of call) held → length (links_of call) ≤ 8
    few held s = (route_long v.network (links_of call) s.passed).1

    go : (r : Reply) → reply v call ≡ r → Quotes r q → quoted_in (length (links_of call)) q ≡ r
    go (schedule held count) e g =
        let s : Scheduled v (links_of call) held = scheduled v call held count e in
        ap (quoted_in (length (links_of call))) g ∙ ap (λ (h : Holding). schedule h count) (scheduled_back v (links_of call) held s (few held s))
    go freed e g = absurd g
    go (refusal k c) e g = ap (quoted_in (length (links_of call))) g.3 ∙ ap₂ refusal g.1 g.2
