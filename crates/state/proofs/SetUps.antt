-- Each return of a quote and of a set-up on a state that isn't broken. Assumes nothing.
use mathlib.Core.Path.{◌≡◌, refl, sym, ap, ap₂, subst, ◌∙◌}
use mathlib.Core.Bool.{Bool, true, false}
use mathlib.Core.List.{List, [], ◌∷◌, ◌++◌}
use Prim.Native.Nat.{ℕ, ◌<◌, ◌≤◌}
use native.Mathlib.Omega.{arith}
use lib.ListN.{length}
use lib.Dec.{leb}
use borrow.Author.Tests.{leb-false}
use Rattle.std.specs.Prelude.{Option, Some, None, Result, Ok, Err, ⊤}
use Rattle.std.specs.Option.{ok_or}
use Rattle.places.specs.Places.{firsts}
use Rattle.places.proofs.Firsts.{length_firsts, firsts_back}
use Rattle.trellis.specs.Answer.{found, nodes_of}
use Rattle.trellis.specs.Answer as trellis
use Rattle.refusals.specs.Refusals.{refusal_number, refusal_count, given, pass, ruling}
use Rattle.refusals.specs.Refusals as outcome
use Rattle.refusals.specs.declared.Refusal.{Refusal}
use Rattle.refusals.specs.declared.Refusal.TheVariants.{NoSchedule}
use Rattle.refusals.proofs.Refusals.{uncounted}
use Rattle.network.specs.Network.{Topology, topology_of}
use Rattle.network.specs.Checks.{network_check}
use Rattle.network.specs.declared.Network.{Network}
use Rattle.forwarding.specs.declared.Held.{Held}
use Rattle.forwarding.specs.declared.Hop.{Hop}
use Rattle.forwarding.specs.Forwarding.{Spot}
use Rattle.forwarding.specs.Schedule.{frames_of, colours_of, in_colours, IsSchedule}
use Rattle.forwarding.specs.Cycles.{schedule_cycles}
use Rattle.forwarding.specs.Route.{route_answer}
use Rattle.forwarding.proofs.Answers.{found_given}
use Rattle.search.specs.Reading.{reading, Finds}
use Rattle.search.specs.declared.Schedule.{Schedule}
use Rattle.search.specs.declared.Finding.{Finding}
use Rattle.ledger.specs.Held.{Holding, held_over, holding_of, held_places}
use Rattle.ledger.specs.Sessions.{Session, is_live, hops_of}
use Rattle.ledger.specs.Routes.{route_check}
use Rattle.ledger.specs.Sound.{intact}
use Rattle.ledger.specs.Calls.{Call, SetUp, Quote, Reply, schedule, refusal, reply_of, answer_over, full, call_check, granted, reply, enters, leaves, effect}
use Rattle.ledger.proofs.Intact.{intact_is}
use Rattle.ledger.proofs.Held.{frames_joined, places_over}
use Rattle.ledger.proofs.Answered.{admitted}
use Rattle.ledger.proofs.Refused.{not_eighteen}
use Rattle.ledger.proofs.Scheduled.{scheduled, scheduled_back}
use Rattle.routes.specs.Inner.{FramesLaid}
use Rattle.routes.proofs.Routes.{route_long}
use Rattle.routes.proofs.HopCycles.{schedule_laid}
use Rattle.table.specs.declared.Place.{Place}
use Rattle.table.specs.declared.Table.{Table}
use Rattle.table.specs.Table.{session_of, live_of}
use Rattle.table.proofs.Live.{in_length}
use Rattle.state.specs.declared.State.{State}
use Rattle.state.specs.declared.Quoted.{Quoted}
use Rattle.state.specs.State.{view_of, Quotes, Serves}
use Rattle.state.specs.Inner.{found_places, found_quoted}
use Rattle.state.proofs.Searches.{ticks_told, Searched, many_hops, hops_ready, hops_searched}
use Rattle.state.proofs.Replies.{check_passed, route_refuses, number_refuses, places_refuse, none_refuses, quote_check, refused_reply, granted_reply, refusal_leaves, stays, moves}

-- ---- the checks of a set-up after 0, in turn
module _ (network : Network) (ss : List Session) (n : ℕ) (route : List ℕ) (v : Result ⊤ Refusal) (ev : ruling v ≡ route_check (topology_of network) route) where
  pub checked_route : (r : Refusal) → v ≡ Err r → outcome.refused (refusal_number r) ≡ call_check (topology_of network) ss (SetUp n route)
  checked_route r e = sym (route_refuses (topology_of network) ss n route (refusal_number r) (sym ev ∙ ap ruling e))

  module _ (x : ⊤) (e : v ≡ Ok x) (b : Bool) (eb : b ≡ is_live n ss) where
    pub checked_number : b ≡ true → (k : ℕ) → k ≡ 16 → outcome.refused k ≡ call_check (topology_of network) ss (SetUp n route)
    checked_number q k p = ap outcome.refused p ∙ sym (number_refuses (topology_of network) ss n route (sym ev ∙ ap ruling e) (sym eb ∙ q))

    module _ (q : b ≡ false) (f : Bool) (ef : f ≡ full ss) where
      pub checked_places : f ≡ true → (k : ℕ) → k ≡ 17 → outcome.refused k ≡ call_check (topology_of network) ss (SetUp n route)
      checked_places g k p = ap outcome.refused p ∙ sym (places_refuse (topology_of network) ss n route (sym ev ∙ ap ruling e) (sym eb ∙ q) (sym ef ∙ g))

      pub checked_all : f ≡ false → given pass ≡ call_check (topology_of network) ss (SetUp n route)
      checked_all g = sym (none_refuses (topology_of network) ss n route (sym ev ∙ ap ruling e) (sym eb ∙ q) (sym ef ∙ g))

pub full_told : (table : Table) (b : Bool) → b ≡ leb 96 table.live → b ≡ full (live_of table)
unfolding full
full_told table b e = e ∙ ap (leb 96) (sym (in_length table.live table.places))

-- a place reads as the session that was stored in it
pub stored_route : (number : ℕ) (route eight : List ℕ) (held : Held) → eight ≡ firsts 8 route 0 → length route ≤ 8
    → session_of (record { number = number; hops = length route; route = eight; held = held })
    ≡ record { number = number; route = route; held = holding_of (length route) held }
stored_route number route eight held e few =
    ap (λ (links : List ℕ). record { number = number; route = links; held = holding_of (length route) held })
    (ap (λ (l : List ℕ). firsts (length route) l 0) e ∙ firsts_back 8 route 0 few)

-- ---- what a search found over n hops, as an answer
module _ (T n : ℕ) (hops : List Hop) (f : Finding) (s : Searched T n hops f) where
  told : (x : Option Schedule) → f.schedule ≡ x → route_answer T hops ≡ reading n x f.count
  told x e = sym s.answer ∙ ap (λ (y : Option Schedule). reading n y f.count) e

  -- what `ok_or` gives of it
  module _ (r : Refusal) (q : Result Schedule Refusal) (e : q ≡ ok_or f.schedule r) where
    pub none_or : (x : Refusal) → q ≡ Err x → (f.schedule ≡ None) × (x ≡ r)
    none_or x w = go f.schedule refl (sym e ∙ w)
      where
        go : (o : Option Schedule) → f.schedule ≡ o → ok_or o r ≡ Err x → (f.schedule ≡ None) × (x ≡ r)
        go None h z = (h, cc)
        go (Some y) h z = cc

    pub some_or : (x : Schedule) → q ≡ Ok x → f.schedule ≡ Some x
    some_or x w = go f.schedule refl (sym e ∙ w)
      where
        go : (o : Option Schedule) → f.schedule ≡ o → ok_or o r ≡ Ok x → f.schedule ≡ Some x
        go None h z = cc
        go (Some y) h z = cc

  -- 18, with the count
  module _ (e : f.schedule ≡ None) where
    pub none_found : answer_over T hops ≡ refusal 18 f.count
    none_found = ap (reply_of hops) (told None e)

    pub quotes_blocked : (q : Result Quoted Refusal) → q ≡ Err (NoSchedule f.count) → Quotes (answer_over T hops) q
    quotes_blocked q w = subst (λ (x : Reply). Quotes x q) (sym none_found) (NoSchedule f.count, refl, refl, w)

  -- a schedule: what it holds, and that in eight places
  module _ (x : Schedule) (e : f.schedule ≡ Some x) where
    -- its frames, in their colours
    abbrev pub found_spots : List Spot
    found_spots = in_colours (firsts n x.frames 0) (firsts n x.colours 0)

    pub found_frames : frames_of found_spots ≡ firsts n x.frames 0
    found_frames = frames_joined (firsts n x.frames 0) (firsts n x.colours 0) (length_firsts n x.frames 0 ∙ sym (length_firsts n x.colours 0))

    pub schedule_found : IsSchedule hops found_spots
    schedule_found = (found_given T hops x.delay.0 f.count found_spots (told (Some x) e)).schedule

    abbrev pub found_held : Holding
    found_held = held_over hops x.delay.0 found_spots

    pub held_found : answer_over T hops ≡ schedule found_held f.count
    held_found = ap (reply_of hops) (told (Some x) e)

    pub found_places_lem : found_places hops n x ≡ held_places found_held
    found_places_lem =
        places_over hops x.delay found_spots x.frames (firsts 8 (schedule_cycles hops (firsts n x.frames 0)) 0) x.colours
        (s.places x e ∙ ap (λ (a : trellis.Answer Spot). firsts 8 (frames_of (nodes_of a)) 0) (told (Some x) e))
        (ap (λ (fs : List ℕ). firsts 8 (schedule_cycles hops fs) 0) (sym found_frames))
        (s.colour_places x e ∙ ap (λ (a : trellis.Answer Spot). firsts 8 (colours_of (nodes_of a)) 0) (told (Some x) e))

    pub quotes_found : (q : Quoted) → q ≡ found_quoted hops n x f.count → Quotes (answer_over T hops) (Ok q)
    quotes_found q e =
        subst (λ (y : Reply). Quotes y (Ok q)) (sym held_found)
        (ap Ok (e ∙ ap (λ (h : Held). record { count = f.count; held = h }) found_places_lem))

module _ (st : State) (ok : intact (view_of st) ≡ true) where
  -- ---- a refusal by a check: it has no count, and leaves the very same state
  module _ (call : Call) (v : Result ⊤ Refusal) (ev : ruling v ≡ call_check (topology_of st.network) (live_of st.table) call) (r : Refusal) (e : v ≡ Err r) where
    call_refused : call_check (topology_of st.network) (live_of st.table) call ≡ outcome.refused (refusal_number r)
    call_refused = sym ev ∙ ap ruling e

    refused_told : reply (view_of st) call ≡ refusal (refusal_number r) (refusal_count r)
    refused_told =
        refused_reply (view_of st) ok call (refusal_number r) call_refused
        ∙ ap (refusal (refusal_number r)) (sym (uncounted r (not_eighteen (topology_of st.network) (live_of st.table) call (refusal_number r) call_refused)))

    pub quotes_refused : (q : Result Quoted Refusal) → q ≡ Err r → Quotes (reply (view_of st) call) q
    quotes_refused q w = subst (λ (x : Reply). Quotes x q) (sym refused_told) (r, refl, refl, w)

    pub serves_refused : Serves st call (record { answer = Err r; state = st })
    serves_refused = record { answer = quotes_refused (Err r) refl; after = stays st call (refusal_leaves call _ _ _ refused_told) }

  -- ---- a quote, and a set-up that no check refused
  quote_granted : (route : List ℕ) → route_check (topology_of st.network) route ≡ given pass
      → reply (view_of st) (Quote route) ≡ answer_over (topology_of st.network).ticks (hops_of (topology_of st.network) (live_of st.table) route)
  unfolding granted
  quote_granted route e = granted_reply (view_of st) ok (Quote route) (quote_check (topology_of st.network) (live_of st.table) route ∙ e)

  -- answered over the route's hops
  pub quote_quotes : (route : List ℕ) (checked : route_check (topology_of st.network) route ≡ given pass) (lent : List Hop)
      → lent ≡ hops_of (topology_of st.network) (live_of st.table) route → (q : Result Quoted Refusal)
      → Quotes (answer_over st.network.ticks lent) q → Quotes (reply (view_of st) (Quote route)) q
  quote_quotes route checked lent e q w =
      subst (λ (x : Reply). Quotes x q) (sym (quote_granted route checked))
      (subst (λ (T : ℕ). Quotes (answer_over T (hops_of (topology_of st.network) (live_of st.table) route)) q) (sym (ticks_told st.network))
      (subst (λ (hops : List Hop). Quotes (answer_over st.network.ticks hops) q) e w))

  module _ (n : ℕ) (route : List ℕ) (v : Result ⊤ Refusal) (ev : ruling v ≡ call_check (topology_of st.network) (live_of st.table) (SetUp n route)) (u : ⊤) (eu : v ≡ Ok u) where
    abbrev net : Topology
    net = topology_of st.network

    abbrev ss : List Session
    ss = live_of st.table

    passed : call_check net ss (SetUp n route) ≡ given pass
    passed = check_passed v (call_check net ss (SetUp n route)) ev u eu

    set_up_granted : reply (view_of st) (SetUp n route) ≡ answer_over net.ticks (hops_of net ss route)
    unfolding granted
    set_up_granted = granted_reply (view_of st) ok (SetUp n route) passed

    -- the route passed, it has 1 to 8 links, and a place is left
    pub route_passed : route_check net route ≡ given pass
    route_passed = (admitted net ss n route passed).passed

    pub few_links : length route ≤ 8
    few_links = (route_long net route route_passed).1

    pub room_left : st.table.live < 96
    room_left = leb-false 96 st.table.live (full_told st.table (leb 96 st.table.live) refl ∙ (admitted net ss n route passed).room)

    -- what the search of its hops found
    module _ (lent : List Hop) (el : lent ≡ hops_of net ss route) (f : Finding) (finds : Finds st.network.ticks lent (length lent) f) where
      checked : network_check net ≡ given pass
      checked = (intact_is (view_of st) ok).network

      s : Searched net.ticks (length route) (hops_of net ss route) f
      s = hops_searched st.network ss route checked route_passed lent el f finds

      many : length lent ≡ length route
      many = ap length el ∙ many_hops st.network ss route checked route_passed

      -- 18 leaves the very same state
      pub set_up_blocked : f.schedule ≡ None → Serves st (SetUp n route) (record { answer = Err (NoSchedule f.count); state = st })
      set_up_blocked e =
          record {
            answer = subst (λ (x : Reply). Quotes x (Err (NoSchedule f.count))) (sym set_up_granted) (quotes_blocked net.ticks (length route) (hops_of net ss route) f s e (Err (NoSchedule f.count)) refl);
            after = stays st (SetUp n route) (refusal_leaves (SetUp n route) _ 18 f.count (set_up_granted ∙ none_found net.ticks (length route) (hops_of net ss route) f s e));
          }

      module _ (x : Schedule) (e : f.schedule ≡ Some x) where
        pub set_up_laid : FramesLaid lent x.frames (length lent)
        set_up_laid =
            schedule_laid st.network.ticks lent x.frames (found_spots net.ticks (length route) (hops_of net ss route) f s x e) (hops_ready st.network ss route checked route_passed lent el)
            (found_frames net.ticks (length route) (hops_of net ss route) f s x e ∙ ap (λ (m : ℕ). firsts m x.frames 0) (sym many))
            (subst (λ (hops : List Hop). IsSchedule hops (found_spots net.ticks (length route) (hops_of net ss route) f s x e)) (sym el) (schedule_found net.ticks (length route) (hops_of net ss route) f s x e))

        -- the frames are held
        module _ (q : Quoted) (eq : q ≡ found_quoted lent (length lent) x f.count) (place : Place)
            (ep : session_of place ≡ record { number = n; route = route; held = holding_of (length route) q.held }) (table : Table)
            (et : live_of table ≡ ss ++ (session_of place ∷ [])) where
          over_hops : q ≡ found_quoted (hops_of net ss route) (length route) x f.count
          over_hops = eq ∙ ap₂ (λ (hops : List Hop) (m : ℕ). found_quoted hops m x f.count) el many

          abbrev holds : Holding
          holds = found_held net.ticks (length route) (hops_of net ss route) f s x e

          accepted : reply (view_of st) (SetUp n route) ≡ schedule holds f.count
          accepted = set_up_granted ∙ held_found net.ticks (length route) (hops_of net ss route) f s x e

          -- what is stored reads as what is held
          stored : holding_of (length route) q.held ≡ holds
          stored =
              ap (λ (y : Quoted). holding_of (length route) y.held) over_hops
              ∙ ap (holding_of (length route)) (found_places_lem net.ticks (length route) (hops_of net ss route) f s x e)
              ∙ scheduled_back (view_of st) route holds (scheduled (view_of st) (SetUp n route) holds f.count accepted)
              few_links

          enters_moves : (u : Session) (X : Type 0) → enters u ≡ leaves → X
          enters_moves u X q = let z : ◌≡◌ {A = ℕ} 0 1 = cc in absurd (omega arith)

          pub set_up_held : Serves st (SetUp n route) (record { answer = Ok q; state = record { network = st.network; table = table } })
          set_up_held =
              record {
                answer = subst (λ (y : Reply). Quotes y (Ok q)) (sym set_up_granted) (quotes_found net.ticks (length route) (hops_of net ss route) f s x e q over_hops);
                after = moves st (SetUp n route) (enters record { number = n; route = route; held = holds }) (ap (effect (SetUp n route)) accepted) (enters_moves _) table
                    (et ∙ ap (λ (u : Session). ss ++ (u ∷ [])) (ep ∙ ap (λ (h : Holding). record { number = n; route = route; held = h }) stored));
              }
