-- Demand 3 holds of every list of calls from a fresh network that passed its checks. Assumes nothing.
use mathlib.Core.Path.{◌≡◌, refl, sym, ap, subst, ◌∙◌}
use mathlib.Core.Bool.{true, false}
use mathlib.Core.List.{List, [], ◌∷◌, ◌++◌, Memᴰ, nil≢cons, head-eq_of_cons-eq, tail-eq_of_cons-eq}
use Prim.Native.Nat.{ℕ, ◌+◌, ◌<◌}
use native.Mathlib.Omega.{arith}
use lib.ListN.{length, get_or, length-map}
use Rattle.refusals.specs.Refusals.{given}
use Rattle.network.specs.Network.{Topology}
use Rattle.forwarding.specs.Cycles.{schedule_cycles}
use Rattle.ledger.specs.Sessions.{Session, View, Slot, holds, hops_of}
use Rattle.ledger.specs.Sound.{share_slot, frame_twice, intact}
use Rattle.ledger.specs.Calls.{Call, Reply, live_after, left, reply, next, lookup}
use Rattle.ledger.specs.Ledger.{AnsweredCall, did, effect_of, ledger_from, ledger, is_refusal, accepted_set_up, accepted_release, count_steps}
use Rattle.ledger.specs.Demand.{fresh, HoldsSlot, NamedAndKept, LiveNumbers, Right, Runs, over, call_then, Demand3Holds, Stepped, EveryListStepped}
use Rattle.ledger.proofs.Lists.{any_two_at}
use Rattle.ledger.proofs.Intact.{intact_is, good_cycles, fresh_intact}
use Rattle.ledger.proofs.Answered.{answer_on, reply_intact}
use Rattle.ledger.proofs.Kept.{next_intact}
use Rattle.ledger.proofs.Entries.{Entered, entry_entered, entered_entry}
use Rattle.ledger.proofs.Shown.{lookup_intact, lookup_given, shown_good, looked_up, shown, not_shown_lem, numbers_of, live_numbers}
use Rattle.ledger.proofs.Holders.{not_shared, one_holder_lem}
use Rattle.ledger.proofs.Refused.{answer_right}
use Rattle.ledger.proofs.Balance.{released_live, balance_step}

-- ---- the calls of a list one after the other
-- the sessions that they leave are the ledger
pub runs_live : {v last : View} {steps : List AnsweredCall} → Runs v steps last → last.live ≡ ledger_from v.live steps
unfolding next left
runs_live over = refl
runs_live (call_then call rest) = runs_live rest

pub runs_network : {v last : View} {steps : List AnsweredCall} → Runs v steps last → last.network ≡ v.network
unfolding next left
runs_network over = refl
runs_network (call_then call rest) = runs_network rest

pub runs_intact : {v last : View} {steps : List AnsweredCall} → intact v ≡ true → Runs v steps last → intact last ≡ true
runs_intact i over = i
runs_intact {v} i (call_then call rest) = runs_intact (next_intact v call i) rest

reply_right : (v : View) (call : Call) → intact v ≡ true → Right v.network v.live call (reply v call)
reply_right v call i = rw (reply_intact v call i) (answer_right v.network v.live call)

runs_right : (before : List AnsweredCall) {v last : View} {steps : List AnsweredCall} (call : Call) (r : Reply) (later : List AnsweredCall) → intact v ≡ true → Runs v steps last
    → steps ≡ before ++ (did call r ∷ later) → Right v.network (ledger_from v.live before) call r
unfolding next left
runs_right [] call r later i over e = absurd (nil≢cons e)
runs_right [] {v} call r later i (call_then c rest) e =
    let d : did c (reply v c) ≡ did call r = head-eq_of_cons-eq e in
    let p : c ≡ call = cc in
    let q : reply v c ≡ r = cc in
    subst (λ (x : Reply). Right v.network v.live call x) q (subst (λ (x : Call). Right v.network v.live x (reply v c)) p (reply_right v c i))
runs_right (s ∷ before) call r later i over e = absurd (nil≢cons e)
runs_right (s ∷ before) {v} call r later i (call_then c rest) e =
    subst (λ (x : AnsweredCall). Right v.network (ledger_from (live_after v.live (effect_of x)) before) call r) (head-eq_of_cons-eq e)
    (runs_right before call r later (next_intact v c i) rest (tail-eq_of_cons-eq e))

runs_balance : {v last : View} {steps : List AnsweredCall} → intact v ≡ true → Runs v steps last
    → count_steps accepted_set_up steps + length v.live ≡ length last.live + count_steps accepted_release steps
unfolding next left
runs_balance i over = omega arith
runs_balance {v} {last} i (call_then {steps = steps} call rest) =
    balance_step v.live call (reply v call) (intact_is v i).numbers
    (λ n p h. released_live v.network v.live n (ap is_refusal (ap (answer_on v.network v.live) (sym p) ∙ sym (reply_intact v call i)) ∙ h))
    (count_steps accepted_set_up steps) (count_steps accepted_release steps) (length last.live) (runs_balance (next_intact v call i) rest)

-- EVERY LIST OF CALLS HAS ITS STEPS: demand 3 speaks of each
pub every_list : EveryListStepped
every_list v [] = record { steps = []; last = v; runs = over; same = refl }
every_list v (call ∷ calls) =
    let rest : Stepped (next v call) calls = every_list (next v call) calls in
    record {
      steps = did call (reply v call) ∷ rest.steps;
      last = rest.last;
      runs = call_then call rest.runs;
      same = ap (λ (l : List Call). call ∷ l) rest.same;
    }

-- ---- the whole
module _ (v : View) (steps : List AnsweredCall) (i : intact v ≡ true) (led : v.live ≡ ledger steps) where
  -- a live session stands in the list, under its number
  live_session : (n : ℕ) (s : Session) → lookup v n ≡ given s → Memᴰ s v.live × (s.number ≡ n)
  live_session n s e = looked_up n v.live s (lookup_given v n s e).1

  entry_shown_lem : (s : Session) → Memᴰ s (ledger steps) → lookup v s.number ≡ given s
  entry_shown_lem s m =
      lookup_intact v s.number i ∙ shown v.live s (intact_is v i).numbers (subst (λ (ss : List Session). Memᴰ s ss) (sym led) m)

  held_named : (x : Slot) (n : ℕ) → HoldsSlot v n x → NamedAndKept steps x
  held_named x n h =
      let s : Session = h.session in
      let m : Memᴰ s v.live = (live_session n s h.shown).0 in
      let e : Entered steps s = entry_entered steps s (subst (λ (ss : List Session). Memᴰ s ss) led m) in
      record { entry = s; count = e.count; before = e.before; later = e.later; accepted = e.accepted; named = h.named; kept = e.kept }

  named_held : (x : Slot) → NamedAndKept steps x → (n : ℕ) × HoldsSlot v n x
  named_held x w =
      let s : Session = w.entry in
      let m : Memᴰ s (ledger steps) =
      subst (λ (done : List AnsweredCall). Memᴰ s (ledger done)) (sym w.accepted) (entered_entry w.before w.later [] s w.count w.kept) in
      (s.number, record { session = s; shown = entry_shown_lem s m; named = w.named })

  held_once : (x : Slot) (n m : ℕ) → HoldsSlot v n x → HoldsSlot v m x → n ≡ m
  held_once x n m p q =
      let a = live_session n p.session p.shown in
      let b = live_session m q.session q.shown in
      let same : p.session ≡ q.session = one_holder_lem v.live p.session q.session x (intact_is v i).frames a.0 b.0 p.named q.named in
      sym a.1 ∙ ap (λ (s : Session). s.number) same ∙ b.1

  entry_once : (x : Slot) (j k : ℕ) (d : Session) → j < k → k < length (ledger steps)
      → holds x (get_or (ledger steps) j d) ≡ true → holds x (get_or (ledger steps) k d) ≡ true → ⊥
  unfolding frame_twice
  entry_once x j k d a b p q =
      let apart : frame_twice (ledger steps) ≡ false = subst (λ (ss : List Session). frame_twice ss ≡ false) led (intact_is v i).frames in
      not_shared (get_or (ledger steps) j d) (get_or (ledger steps) k d) x (any_two_at share_slot (ledger steps) j k d apart a b) p q

-- DEMAND 3, FOR EVERY LIST OF CALLS
pub demand3 : Demand3Holds
demand3 net p steps v runs =
    let begun : intact (fresh net) ≡ true = fresh_intact net p in
    let i : intact v ≡ true = runs_intact begun runs in
    let led : v.live ≡ ledger steps = runs_live runs in
    record {
      held = λ x. (λ w. held_named v steps i led x w.0 w.1, λ w. named_held v steps i led x w);
      one_holder = held_once v steps i led;
      numbers = numbers_of (ledger steps);
      live = subst (λ (ss : List Session). LiveNumbers v (numbers_of ss)) led (live_numbers v i);
      balance = omega (arith, runs_balance begun runs, ap (λ (ss : List Session). length ss) led, length-map (ledger steps) (λ s. s.number));
      answers = λ before call r later e. runs_right before call r later begun runs e;
      entry_shown = entry_shown_lem v steps i led;
      none_shown = λ n h. lookup_intact v n i ∙ rw led (not_shown_lem n (ledger steps) h);
      cycles_shown = λ n s e. subst (λ (t : Topology). s.held.cycles ≡ schedule_cycles (hops_of t [] s.route) s.held.frames) (runs_network runs) (good_cycles v.network s (shown_good v n s e));
      one_entry = entry_once v steps i led;
      network = runs_network runs;
    }
