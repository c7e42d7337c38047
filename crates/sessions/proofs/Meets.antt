-- Each contract can be met on every state, and so every list of calls has a run of stored states. Assumes nothing.
use mathlib.Core.Path.{◌≡◌, refl, sym, ap, ap₂, subst, ◌∙◌}
use mathlib.Core.Bool.{Bool, true, false, not, cond}
use mathlib.Core.List.{List, [], ◌∷◌, map}
use Prim.Native.Nat.{ℕ, ◌≤◌}
use native.Mathlib.Omega.{arith}
use lib.ListN.{length, length-map}
use lib.Dec.{eqb}
use Rattle.std.specs.Prelude.{Result, Ok, Err, ⊤}
use borrow.Author.Tests.{eqb-false}
use Rattle.lists.proofs.Count as tests
use Rattle.places.specs.Places.{firsts}
use Rattle.places.proofs.Firsts.{firsts_back, so_many_back}
use Rattle.trellis.specs.Answer.{found, blocked}
use Rattle.trellis.specs.Answer as trellis
use Rattle.refusals.specs.Refusals.{refusal_number, refusal_count, Outcome, Ruling, given, refused, pass, Pass, refuse_if, refused_or, ruling}
use Rattle.refusals.specs.declared.Refusal.{Refusal}
use Rattle.refusals.specs.declared.Refusal.TheVariants.{BrokenState, LinkCount, CycleLength, FrameCount, RangeOutside, LeastOutside, ClosedOutside, RouteLength, UnknownLink, LinkTwice, RatesApart, NumberLive, PlacesFull, NoSchedule, NumberNotLive}
use Rattle.refusals.proofs.Refusals.{uncounted}
use Rattle.network.specs.Network.{Topology, topology_of}
use Rattle.network.specs.Checks.{bad_count, bad_cycle, bad_frames, bad_range, bad_least, bad_closed, link_check, links_check, network_check}
use Rattle.network.specs.declared.Link.{Link}
use Rattle.forwarding.specs.declared.Hop.{Hop}
use Rattle.forwarding.specs.Forwarding.{Spot}
use Rattle.forwarding.specs.Route.{route_answer}
use Rattle.forwarding.specs.Ways.{route_ways}
use Rattle.words.specs.Word.{free_frames}
use Rattle.ledger.specs.Lists.{all_of}
use Rattle.ledger.specs.Held.{Holding, held_over, held_places}
use Rattle.ledger.specs.Sessions.{Session, View, is_live, link_at, free_of, hops_of}
use Rattle.ledger.specs.Routes.{bad_length, unknown, unknown_link, link_twice, rates_of, rates_apart, route_check}
use Rattle.ledger.specs.Sound.{good_session, intact, broken_check}
use Rattle.ledger.specs.Calls.{Call, SetUp, Quote, Release, Reply, freed, refusal, reply_of, answer_over, unless, full, call_check, checks_of, granted, reply, Effect, enters, strikes, leaves, effect, live_after, left, next, look_in, lookup, free_count}
use Rattle.ledger.specs.Ways.{ways_of}
use Rattle.ledger.specs.Ledger.{did}
use Rattle.ledger.specs.Demand.{fresh}
use Rattle.ledger.proofs.Intact.{Intact, GoodSession, session_good, intact_is, fresh_intact}
use Rattle.ledger.proofs.Kept.{next_intact}
use Rattle.ledger.proofs.Quoted.{unbroken}
use Rattle.ledger.proofs.Scheduled.{Scheduled, scheduled_back}
use Rattle.routes.proofs.Routes.{route_long}
use Rattle.table.specs.declared.Place.{Place}
use Rattle.table.specs.declared.Table.{Table}
use Rattle.table.specs.Table.{session_of, no_place, live_of}
use Rattle.state.specs.declared.State.{State}
use Rattle.state.specs.declared.Quoted.{Quoted}
use Rattle.state.specs.declared.Served.{Served}
use Rattle.state.specs.State.{view_of, fresh_state, quoted_of, Quotes, released_in, Leaves, Serves}
use Rattle.state.proofs.Replies.{refusal_leaves, stays, moves}
use Rattle.sessions.specs.Calls.{begun_on, Tells, shown_of}
use Rattle.sessions.specs.Stored.{StoredRun, over, set_up, quote, release, ContractsMet, BeginMet, StoredSteps, EveryListStored}
use Rattle.sessions.proofs.Surveying.{told_bounded}

-- ---- what a check refuses with has its refusal, and isn't 18
abbrev pub Named : {A : Type 0} → Outcome A → Type 0
Named (given a) = Unit
Named (refused k) = (r : Refusal) × (refusal_number r ≡ k) × (eqb k 18 ≡ false)

-- that refusal has no count
no_count : (k : ℕ) (h : Named {A = Pass} (refused k)) → refusal_count h.0 ≡ 0
no_count k h = uncounted h.0 (λ q. eqb-false k 18 h.2 (sym h.1 ∙ q))

named_if : (b : Bool) (r : Refusal) → eqb (refusal_number r) 18 ≡ false → Named (refuse_if b (refusal_number r))
named_if true r e = (r, refl, e)
named_if false r e = tt

named_or : {A : Type 0} (a : Ruling) (b : Outcome A) → Named a → Named b → Named (refused_or a b)
named_or (given p) b h g = g
named_or (refused k) b h g = h

broken_named : (v : View) → Named (broken_check v)
broken_named v = named_if (not (intact v)) BrokenState refl

route_named : (net : Topology) (route : List ℕ) → Named (route_check net route)
unfolding route_check
route_named net route =
    let r : Ruling = refuse_if (rates_apart (rates_of net route)) 15 in
    let o : Ruling = refused_or (refuse_if (link_twice route) 14) r in
    let k : Ruling = refused_or (refuse_if (unknown_link net route) 13) o in
    named_or (refuse_if (bad_length (length route)) 12) k (named_if (bad_length (length route)) RouteLength refl)
    (named_or (refuse_if (unknown_link net route) 13) o (named_if (unknown_link net route) UnknownLink refl)
    (named_or (refuse_if (link_twice route) 14) r (named_if (link_twice route) LinkTwice refl)
    (named_if (rates_apart (rates_of net route)) RatesApart refl)))

call_named : (net : Topology) (ss : List Session) (call : Call) → Named (call_check net ss call)
unfolding call_check
call_named net ss (SetUp n route) =
    named_or (route_check net route) (refused_or (refuse_if (is_live n ss) 16) (refuse_if (full ss) 17)) (route_named net route)
    (named_or (refuse_if (is_live n ss) 16) (refuse_if (full ss) 17) (named_if (is_live n ss) NumberLive refl) (named_if (full ss) PlacesFull refl))
call_named net ss (Quote route) = route_named net route
call_named net ss (Release n) = named_if (not (is_live n ss)) NumberNotLive refl

in_named : (n : ℕ) (ss : List Session) → Named (look_in n ss)
in_named n [] = (NumberNotLive, refl, refl)
in_named n (s ∷ ss) = go (eqb s.number n) (in_named n ss)
  where
    go : (b : Bool) → Named (look_in n ss) → Named (cond b (given s) (look_in n ss))
    go true h = tt
    go false h = h

pub lookup_named : (v : View) (n : ℕ) → Named (lookup v n)
unfolding lookup
lookup_named v n = named_or (broken_check v) (look_in n v.live) (broken_named v) (in_named n v.live)

pub count_named : (v : View) (l : ℕ) → Named (free_count v l)
unfolding free_count
count_named v l =
    let n : Outcome ℕ = given (free_frames (link_at v.network l).frames (free_of v.network v.live l 0)) in
    let b : Bool = unknown (length v.network.links) l in
    named_or (broken_check v) (refused_or (refuse_if b 13) n) (broken_named v) (named_or (refuse_if b 13) n (named_if b UnknownLink refl) tt)

-- ---- the answers: what is given, or the refusal with the number
told_for : {A B : Type 0} (of : A → B) (o : Outcome A) → Named o → (q : Result B Refusal) × Tells of o q
told_for of (given a) h = (Ok (of a), refl)
told_for of (refused k) h = (Err h.0, (h.0, h.1, refl))

quoted_unless : (o : Ruling) (r : Reply) → Named o → (q : Result Quoted Refusal) × Quotes r q → (q : Result Quoted Refusal) × Quotes (unless o r) q
quoted_unless (given p) r h w = w
quoted_unless (refused k) r h w = (Err h.0, (h.0, h.1, no_count k h, refl))

quoted_over : (T : ℕ) (hops : List Hop) → (q : Result Quoted Refusal) × Quotes (answer_over T hops) q
quoted_over T hops = go (route_answer T hops)
  where
    go : (a : trellis.Answer Spot) → (q : Result Quoted Refusal) × Quotes (reply_of hops a) q
    go (found d n w) = (Ok (quoted_of (held_over hops d w) n), refl)
    go (blocked n) = (Err (NoSchedule n), (NoSchedule n, refl, refl, refl))

freed_unless : (o : Ruling) → Named o → (w : Result ⊤ Refusal) × (released_in w ≡ unless o freed)
freed_unless (given p) h = (Ok tt, refl)
freed_unless (refused k) h = (Err h.0, ap₂ refusal h.1 (no_count k h))

module _ (v : View) where
  checks_named : (call : Call) → Named (checks_of v call)
  checks_named call = named_or (broken_check v) (call_check v.network v.live call) (broken_named v) (call_named v.network v.live call)

  quoted_for : (call : Call) → (q : Result Quoted Refusal) × Quotes (granted v.network v.live call) q → (q : Result Quoted Refusal) × Quotes (reply v call) q
  unfolding reply
  quoted_for call w = quoted_unless (checks_of v call) (granted v.network v.live call) (checks_named call) w

  pub ways_named : (route : List ℕ) → Named (ways_of v route)
  unfolding ways_of
  ways_named route = named_or (checks_of v (Quote route)) (given (route_ways (hops_of v.network v.live route))) (checks_named (Quote route)) tt

  set_up_quoted : (n : ℕ) (route : List ℕ) → (q : Result Quoted Refusal) × Quotes (reply v (SetUp n route)) q
  unfolding granted
  set_up_quoted n route = quoted_for (SetUp n route) (quoted_over v.network.ticks (hops_of v.network v.live route))

  quote_quoted : (route : List ℕ) → (q : Result Quoted Refusal) × Quotes (reply v (Quote route)) q
  unfolding granted
  quote_quoted route = quoted_for (Quote route) (quoted_over v.network.ticks (hops_of v.network v.live route))

  released : (n : ℕ) → (w : Result ⊤ Refusal) × (released_in w ≡ reply v (Release n))
  unfolding reply granted
  released n = freed_unless (checks_of v (Release n)) (checks_named (Release n))

-- ---- a table that shows given sessions: any that can stand in a state that isn't broken
abbrev place_for : Session → Place
place_for s = record { number = s.number; hops = length s.route; route = firsts 8 s.route 0; held = held_places s.held }

abbrev table_for : List Session → Table
table_for ss = record { live = length ss; places = firsts 96 (map place_for ss) no_place }

module _ (net : Topology) (passed : network_check net ≡ given pass) where
  place_back : (s : Session) → good_session net s ≡ true → session_of (place_for s) ≡ s
  place_back s e =
      let g : GoodSession net s = session_good net s e in
      let few : length s.route ≤ 8 = (route_long net s.route g.route).1 in
      let w : Scheduled (fresh net) s.route s.held =
      record { unbroken = fresh_intact net passed; passed = g.route; delay = _; spots = _; schedule = g.schedule; gives = g.held } in
      ap₂ (λ (route : List ℕ) (held : Holding). record { number = s.number; route = route; held = held })
      (firsts_back 8 s.route 0 few) (scheduled_back (fresh net) s.route s.held w few)

  places_back : (ss : List Session) → all_of (good_session net) ss ≡ true → map session_of (map place_for ss) ≡ ss
  places_back [] h = refl
  places_back (s ∷ ss) h =
      let both = tests.and_both (good_session net s) (all_of (good_session net) ss) h in
      ap₂ ◌∷◌ (place_back s both.0) (places_back ss both.1)

table_back : (net : Topology) (ss : List Session) → Intact net ss → live_of (table_for ss) ≡ ss
table_back net ss h =
    let n : length (map place_for ss) ≡ length ss = length-map ss place_for in
    ap (map session_of)
    (so_many_back 96 (length ss) (map place_for ss) no_place n h.few)
    ∙ places_back net h.network ss h.sessions

-- ---- the states that calls leave
module _ (st : State) (call : Call) where
  -- a call that changes the sessions met a state that isn't broken, and leaves sessions of one
  moved : (f : Effect) → effect call (reply (view_of st) call) ≡ f → ((X : Type 0) → f ≡ leaves → X) → (after : State) × Leaves st call after
  unfolding left next
  moved f e other =
      let v : View = view_of st in
      let ok : intact v ≡ true = unbroken v call (λ q. other ⊥ (sym e ∙ refusal_leaves call (reply v call) 0 0 q)) in
      let kept : Intact v.network (live_after v.live f) =
      subst (λ (x : Effect). Intact v.network (live_after v.live x)) e (intact_is (next v call) (next_intact v call ok)) in
      (_, moves st call f e other (table_for (live_after v.live f)) (table_back v.network (live_after v.live f) kept))

  left_for : (f : Effect) → effect call (reply (view_of st) call) ≡ f → (after : State) × Leaves st call after
  left_for (enters s) e = moved (enters s) e (λ X q. let z : ◌≡◌ {A = ℕ} 0 1 = cc in absurd (omega arith))
  left_for (strikes n) e = moved (strikes n) e (λ X q. let z : ◌≡◌ {A = ℕ} 0 1 = cc in absurd (omega arith))
  left_for leaves e = (st, stays st call e)

  after_call : (after : State) × Leaves st call after
  after_call = left_for (effect call (reply (view_of st) call)) refl

  serving : (q : Result Quoted Refusal) × Quotes (reply (view_of st) call) q → (r : Served Quoted) × Serves st call r
  serving q = (record { answer = q.0; state = after_call.0 }, record { answer = q.1; after = after_call.1 })

-- EACH CONTRACT CAN BE MET ON EVERY STATE
pub contracts_met : ContractsMet
contracts_met st =
    record {
      set_up = λ n route. serving st (SetUp n route) (set_up_quoted (view_of st) n route);
      quote = λ route. serving st (Quote route) (quote_quoted (view_of st) route);
      release = λ n.
          let w = released (view_of st) n in
          let a = after_call st (Release n) in
          (record { answer = w.0; state = a.0 }, record { answer = w.1; after = a.1 });
      lookup = λ n.
          let q = told_for shown_of (lookup (view_of st) n) (lookup_named (view_of st) n) in
          (record { answer = q.0; state = st }, record { shown = q.1; same = refl });
      free_frames_lem = λ l.
          let q = told_for (λ (n : ℕ). n) (free_count (view_of st) l) (count_named (view_of st) l) in
          (record { answer = q.0; state = st }, record { counted = q.1; same = refl });
      ways = λ route.
          let q = told_for (λ (n : ℕ). n) (ways_of (view_of st) route) (ways_named (view_of st) route) in
          (record { answer = q.0; state = st }, record { numbered = q.1; most = told_bounded (view_of st) route q.0 q.1; same = refl });
    }

-- ---- `begin`
link_named : (T : ℕ) (k : Link) → Named (link_check T k)
unfolding link_check
link_named T k =
    let c : Ruling = refuse_if (bad_closed k.frames k.closed) 9 in
    let y : Ruling = refused_or (refuse_if (bad_least k.frames k.range k.least) 21) c in
    let r : Ruling = refused_or (refuse_if (bad_range k.frames k.range) 8) y in
    named_or (refuse_if (bad_frames T k.frames) 7) r (named_if (bad_frames T k.frames) FrameCount refl)
    (named_or (refuse_if (bad_range k.frames k.range) 8) y (named_if (bad_range k.frames k.range) RangeOutside refl)
    (named_or (refuse_if (bad_least k.frames k.range k.least) 21) c (named_if (bad_least k.frames k.range k.least) LeastOutside refl)
    (named_if (bad_closed k.frames k.closed) ClosedOutside refl)))

links_named : (T : ℕ) (ks : List Link) → Named (links_check T ks)
unfolding links_check
links_named T [] = tt
links_named T (k ∷ ks) = named_or (link_check T k) (links_check T ks) (link_named T k) (links_named T ks)

network_named : (net : Topology) → Named (network_check net)
unfolding network_check
network_named net =
    let l : Ruling = links_check net.ticks net.links in
    let t : Ruling = refused_or (refuse_if (bad_cycle net.ticks) 3) l in
    named_or (refuse_if (bad_count (length net.links)) 2) t (named_if (bad_count (length net.links)) LinkCount refl)
    (named_or (refuse_if (bad_cycle net.ticks) 3) l (named_if (bad_cycle net.ticks) CycleLength refl) (links_named net.ticks net.links))

ruled_for : (o : Ruling) → Named o → (w : Result ⊤ Refusal) × (ruling w ≡ o)
ruled_for (given pass) h = (Ok tt, refl)
ruled_for (refused k) h = (Err h.0, ap refused h.1)

-- THE CONTRACT OF `begin` CAN BE MET ON EVERY NETWORK
pub begin_met : BeginMet
begin_met network =
    let w = ruled_for (network_check (topology_of network)) (network_named (topology_of network)) in
    (record { answer = w.0; state = fresh_state (begun_on (network_check (topology_of network)) network) }, record { answer = w.1; state = refl })

-- ---- lists of calls
-- one call before the steps of others
before : {st mid : State} {calls : List Call} (call : Call) (r : Reply) (rest : StoredSteps mid calls) → StoredRun st (did call r ∷ rest.steps) rest.last
    → StoredSteps st (call ∷ calls)
before call r rest run =
    record { steps = did call r ∷ rest.steps; last = rest.last; run = run; same = ap (λ (l : List Call). call ∷ l) rest.same }

-- EVERY LIST OF CALLS HAS A RUN OF STORED STATES
pub every_list_stored : EveryListStored
every_list_stored st [] = record { steps = []; last = st; run = over; same = refl }
every_list_stored st (SetUp n route ∷ calls) =
    let w = (contracts_met st).set_up n route in
    let rest : StoredSteps w.0.state calls = every_list_stored w.0.state calls in
    before (SetUp n route) _ rest (set_up n route w.0 w.1 rest.run)
every_list_stored st (Quote route ∷ calls) =
    let w = (contracts_met st).quote route in
    let rest : StoredSteps w.0.state calls = every_list_stored w.0.state calls in
    before (Quote route) _ rest (quote route w.0 w.1 rest.run)
every_list_stored st (Release n ∷ calls) =
    let w = (contracts_met st).release n in
    let rest : StoredSteps w.0.state calls = every_list_stored w.0.state calls in
    before (Release n) _ rest (release n w.0 w.1 rest.run)
