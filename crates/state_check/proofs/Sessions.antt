-- A stored session that keeps the rules, test by test. Assumes nothing.
use mathlib.Core.Path.{◌≡◌, refl, sym, ap, subst, ◌∙◌}
use mathlib.Core.Bool.{Bool, true, false, true≢false, ◌&&◌, cond}
use mathlib.Core.List.{List, [], ◌∷◌, map}
use mathlib.Core.Option.{some, none}
use Prim.Native.Nat.{ℕ, ◌<◌, ◌≤◌}
use native.Mathlib.Omega.{arith}
use lib.ListN.{length, take, replicate}
use lib.Seq.{length-take-le}
use lib.Dec.{eqb}
use lib.Pointwise.{pointwise}
use borrow.Author.Tests.{lt-ltb, ne_eqb}
use Rattle.std.specs.Prelude.{Option, Some, None, Result, Ok, Err, is_err, ⊤}
use Rattle.std.specs.List.{list_all}
use Rattle.places.specs.Places.{firsts}
use Rattle.places.proofs.Firsts.{length_firsts, so_many_back, firsts_take}
use Rattle.refusals.specs.Refusals.{refusal_number, Ruling, given, refused, pass, ruling}
use Rattle.refusals.specs.declared.Refusal.{Refusal}
use Rattle.words.specs.Bank.{bank_size}
use Rattle.network.specs.Network.{Topology, topology_of}
use Rattle.network.specs.Checks.{network_check}
use Rattle.network.specs.declared.Network.{Network}
use Rattle.forwarding.specs.declared.Hop.{Hop}
use Rattle.forwarding.specs.declared.Delay.{Delay}
use Rattle.forwarding.specs.Forwarding.{Spot}
use Rattle.forwarding.specs.Hops.{blank_hop, Ready}
use Rattle.forwarding.specs.Schedule.{frames_of, in_colours, IsSchedule, is_schedule, schedule_delay}
use Rattle.forwarding.specs.Cycles.{schedule_cycles}
use Rattle.forwarding.proofs.Schedules.{told_schedule}
use Rattle.forwarding.proofs.Cycles.{cycle_per_hop}
use Rattle.ledger.specs.Lists.{all_of, same_list}
use Rattle.ledger.specs.Held.{spots_in}
use Rattle.ledger.specs.Sessions.{hops_of}
use Rattle.ledger.specs.Inner.{HeldWords}
use Rattle.ledger.specs.Routes.{bad_length, route_check}
use Rattle.ledger.specs.Sound.{good_held, good_session}
use Rattle.ledger.proofs.Held.{frames_joined, same_held_lem}
use Rattle.routes.specs.Hops.{hops_from, delay_if, walked_delay}
use Rattle.routes.specs.Inner.{FramesLaid}
use Rattle.routes.proofs.HopCycles.{schedule_laid}
use Rattle.table.specs.declared.Place.{Place}
use Rattle.table.specs.Table.{session_of, no_place, in_places}
use Rattle.table.proofs.Banks.{words_none}
use Rattle.state_check.proofs.Same.{same_places}
use Rattle.state.proofs.Searches.{ticks_told, hops_eight, hops_room, hops_lent, hops_ready}

-- a check that fails refuses, and one that doesn't passes
pub check_fails : (q : Result ⊤ Refusal) (b : Bool) → b ≡ is_err q → b ≡ true → (n : ℕ) × (ruling q ≡ refused n)
check_fails (Ok x) b eb e = absurd (true≢false (sym e ∙ eb))
check_fails (Err r) b eb e = (refusal_number r, refl)

pub check_passes : (q : Result ⊤ Refusal) (b : Bool) → b ≡ is_err q → b ≡ false → ruling q ≡ given pass
check_passes (Ok x) b eb e = refl
check_passes (Err r) b eb e = absurd (true≢false (sym eb ∙ e))

-- a bank in which nothing is held
pub none_held : HeldWords (replicate bank_size 0) []
none_held = words_none bank_size

module _ (network : Network) (place : Place) where
  -- 12 refuses a route of more than 8 links
  pub too_long : 8 < place.hops → false ≡ good_session (topology_of network) (session_of place)
  unfolding good_session route_check bad_length
  too_long h = rw (length_firsts place.hops place.route 0, ne_eqb place.hops 0 (omega arith), lt-ltb 8 place.hops h)

  module _ (few : place.hops ≤ 8) (long : length place.route ≡ 8) where
    same_route : take place.hops place.route ≡ firsts place.hops place.route 0
    same_route = sym (firsts_take place.hops place.route 0 (omega (arith, few, long)))

    pub taken_length : place.hops ≡ length (take place.hops place.route)
    taken_length = sym (length-take-le place.hops place.route (omega (arith, few, long)))

    module _ (v : Result ⊤ Refusal) (ev : ruling v ≡ route_check (topology_of network) (take place.hops place.route)) (f : Bool) (ef : f ≡ is_err v) where
      told : (r : Ruling) → ruling v ≡ r → route_check (topology_of network) (firsts place.hops place.route 0) ≡ r
      told r e = ap (route_check (topology_of network)) (sym same_route) ∙ sym ev ∙ e

      pub route_fails : f ≡ true → false ≡ good_session (topology_of network) (session_of place)
      unfolding good_session
      route_fails e = let r = check_fails v f ef e in rw (told (refused r.0) r.1)

      module _ (e : f ≡ false) where
        pub route_stands : route_check (topology_of network) (take place.hops place.route) ≡ given pass
        route_stands = sym ev ∙ check_passes v f ef e

        module _ (passed : network_check (topology_of network) ≡ given pass) (laid : List Hop)
            (el : laid ≡ firsts 8 (hops_from network.links (replicate bank_size 0) (take place.hops place.route)) blank_hop) where
          taken : List ℕ
          taken = take place.hops place.route

          eight : laid ≡ firsts 8 (hops_of (topology_of network) [] taken) blank_hop
          unfolding taken
          eight = hops_eight network [] taken passed route_stands (replicate bank_size 0) none_held laid el

          -- its hops, lent
          abbrev lent : List Hop
          lent = take place.hops laid

          taken_hops : lent ≡ hops_of (topology_of network) [] taken
          unfolding taken
          taken_hops = ap (λ (n : ℕ). take n laid) taken_length ∙ hops_lent network [] taken passed route_stands laid eight

          pub walk_room : place.hops ≤ length laid
          unfolding taken
          walk_room = omega (arith, taken_length, hops_room network [] taken passed route_stands laid eight)

          pub walk_long : place.hops ≡ length lent
          walk_long = sym (length-take-le place.hops laid walk_room)

          pub walk_ready : Ready network.ticks lent (length lent)
          unfolding taken
          walk_ready = hops_ready network [] taken passed route_stands lent taken_hops

          walked_hops : lent ≡ hops_of (topology_of network) [] (firsts place.hops place.route 0)
          unfolding taken
          walked_hops = taken_hops ∙ ap (hops_of (topology_of network) []) same_route

          -- the session's frames in their colours
          abbrev spots : List Spot
          spots = in_colours (firsts place.hops place.held.frames 0) (firsts place.hops place.held.colours 0)

          as_many : length (firsts place.hops place.held.frames 0) ≡ length (firsts place.hops place.held.colours 0)
          as_many = length_firsts place.hops place.held.frames 0 ∙ sym (length_firsts place.hops place.held.colours 0)

          spot_frames : frames_of spots ≡ firsts place.hops place.held.frames 0
          spot_frames = frames_joined (firsts place.hops place.held.frames 0) (firsts place.hops place.held.colours 0) as_many

          -- what a walk over them tells of it
          module _ (w : Option Delay) (ew : walked_delay w ≡ delay_if network.ticks lent (in_colours (firsts (length lent) place.held.frames 0) (firsts (length lent) place.held.colours 0))) where
            hops : List Hop
            hops = hops_of (topology_of network) [] (session_of place).route

            walked_told : walked_delay w ≡ delay_if (topology_of network).ticks hops (spots_in (session_of place).held)
            unfolding hops spots_in
            walked_told =
                ew
                ∙ ap (λ (n : ℕ). delay_if network.ticks lent (in_colours (firsts n place.held.frames 0) (firsts n place.held.colours 0))) (sym walk_long)
                ∙ ap (λ (T : ℕ). delay_if T lent spots) (sym (ticks_told network))
                ∙ ap (λ (hs : List Hop). delay_if (topology_of network).ticks hs spots) walked_hops

            is_schedule_lem : Bool
            is_schedule_lem = is_schedule hops (spots_in (session_of place).held)

            its_delay : ℕ
            its_delay = schedule_delay (topology_of network).ticks hops (spots_in (session_of place).held)

            -- whether the stored cycles are those of the frames
            same_cycles : Bool
            same_cycles = same_list eqb (session_of place).held.cycles (schedule_cycles hops (session_of place).held.frames)

            -- where the route stands, a session is good exactly when what it holds is
            by_walk : good_session (topology_of network) (session_of place) ≡ (is_schedule_lem && (same_cycles && eqb place.held.delay.0 its_delay))
            unfolding good_session good_held is_schedule_lem its_delay same_cycles hops
            by_walk = rw (told (given pass) (check_passes v f ef e), same_held_lem hops (session_of place).held its_delay as_many)

            module _ (d : Delay) (q : w ≡ Some d) where
              walked_fits : (is_schedule_lem ≡ true) × (its_delay ≡ d.0)
              unfolding is_schedule_lem its_delay
              walked_fits = fits (is_schedule hops (spots_in (session_of place).held)) (schedule_delay (topology_of network).ticks hops (spots_in (session_of place).held)) (sym walked_told ∙ ap walked_delay q)
                where
                  fits : (b : Bool) (x : ℕ) → cond b (some x) none ≡ some d.0 → (b ≡ true) × (x ≡ d.0)
                  fits true x k = (refl, cc)
                  fits false x k = (cc, cc)

              -- the frames are a schedule over the hops
              schedule : IsSchedule lent spots
              unfolding is_schedule_lem hops spots_in
              schedule = subst (λ (hs : List Hop). IsSchedule hs spots) (sym walked_hops) (told_schedule hops (spots_in (session_of place).held) walked_fits.0)

              pub walked_laid : FramesLaid lent place.held.frames (length lent)
              walked_laid = schedule_laid network.ticks lent place.held.frames spots walk_ready (spot_frames ∙ ap (λ (n : ℕ). firsts n place.held.frames 0) walk_long) schedule

              -- and the first of the cycles are the schedule's
              pub session_walked : length place.held.cycles ≡ 8 → (cycles : List ℕ) → cycles ≡ firsts 8 (schedule_cycles lent (firsts (length lent) place.held.frames 0)) 0 → (b : Bool)
                  → b ≡ (pointwise eqb (take place.hops place.held.cycles) (take place.hops cycles) && eqb place.held.delay.0 d.0)
                  → b ≡ good_session (topology_of network) (session_of place)
              unfolding same_cycles hops
              session_walked long' cycles e8 b eb =
                  let ec : cycles ≡ firsts 8 (schedule_cycles lent (firsts place.hops place.held.frames 0)) 0 =
                  e8 ∙ ap (λ (n : ℕ). firsts 8 (schedule_cycles lent (firsts n place.held.frames 0)) 0) (sym walk_long) in
                  let eight_cycles : length cycles ≡ 8 = ap length ec ∙ length_firsts 8 (schedule_cycles lent (firsts place.hops place.held.frames 0)) 0 in
                  let told' : pointwise eqb (take place.hops place.held.cycles) (take place.hops cycles) ≡ same_list eqb (firsts place.hops place.held.cycles 0) (firsts place.hops cycles 0) =
                  same_places place.hops place.held.cycles cycles (omega (arith, few, long')) (omega (arith, few, eight_cycles)) in
                  let there : b ≡ (same_cycles && eqb place.held.delay.0 its_delay) = eb ∙ rw (told', cycles_back cycles ec, walked_hops, ← walked_fits.1) in
                  there ∙ sym (by_walk ∙ rw walked_fits.0)
                where
                  cycles_back : (cycles : List ℕ) → cycles ≡ firsts 8 (schedule_cycles lent (firsts place.hops place.held.frames 0)) 0
                      → firsts place.hops cycles 0 ≡ schedule_cycles lent (firsts place.hops place.held.frames 0)
                  cycles_back cycles ec =
                      let xs : List ℕ = schedule_cycles lent (firsts place.hops place.held.frames 0) in
                      let many : length xs ≡ place.hops = ap (λ (fs : List ℕ). length (schedule_cycles lent fs)) (sym spot_frames) ∙ cycle_per_hop lent spots schedule ∙ sym walk_long in
                      ap (λ (l : List ℕ). firsts place.hops l 0) ec ∙ so_many_back 8 place.hops xs 0 many few

            pub session_unfit : w ≡ None → false ≡ good_session (topology_of network) (session_of place)
            unfolding is_schedule_lem its_delay
            session_unfit q = sym (by_walk ∙ unfit is_schedule_lem its_delay (sym walked_told ∙ ap walked_delay q))
              where
                unfit : (b : Bool) (x : ℕ) → cond b (some x) none ≡ none → (b && (same_cycles && eqb place.held.delay.0 x)) ≡ false
                unfit true x k = cc
                unfit false x k = refl

-- ---- the sessions of a table, by its places
each_good : (net : Topology) (places : List Place) → list_all (λ p. good_session net (session_of p)) places ≡ all_of (good_session net) (map session_of places)
each_good net [] = refl
each_good net (p ∷ places) = ap (λ (b : Bool). good_session net (session_of p) && b) (each_good net places)

pub sessions_told : (net : Topology) (n : ℕ) (places : List Place) → n ≤ length places → (b : Bool) → b ≡ list_all (λ p. good_session net (session_of p)) (take n places) → b ≡ all_of (good_session net) (in_places n places)
sessions_told net n places h b e = e ∙ each_good net (take n places) ∙ rw (firsts_take n places no_place h)
