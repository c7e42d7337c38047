-- Each return of a lookup and of the free frames on a state that isn't broken. Assumes nothing.
use mathlib.Core.Path.{◌≡◌, refl, sym, ap, subst, ◌∙◌}
use mathlib.Core.Bool.{true}
use mathlib.Core.List.{List}
use Prim.Native.Nat.{ℕ, ◌<◌, ◌≤◌}
use native.Mathlib.Omega.{arith}
use lib.ListN.{length, get_or}
use Rattle.std.specs.Prelude.{Option, Some, None, Result, Ok, Err, ⊤}
use Rattle.lists.specs.Count.{count_below}
use Rattle.places.specs.Places.{firsts}
use Rattle.places.proofs.Firsts.{length_firsts}
use Rattle.refusals.specs.Refusals.{refusal_number, given, pass, refused, ruling}
use Rattle.refusals.specs.declared.Refusal.{Refusal}
use Rattle.words.specs.Word.{free_at, free_word, free_frames}
use Rattle.words.specs.Bank.{bank_at}
use Rattle.words.proofs.Ones.{free_count_lem}
use Rattle.network.specs.Network.{no_link, topology_of}
use Rattle.network.specs.Checks.{network_check}
use Rattle.network.specs.declared.Link.{Link}
use Rattle.forwarding.specs.declared.Held.{Held}
use Rattle.ledger.specs.Held.{holding_of, held_places}
use Rattle.ledger.specs.Sessions.{link_at, free_of}
use Rattle.ledger.specs.Inner.{HeldWords}
use Rattle.ledger.specs.Sound.{intact, broken_check}
use Rattle.ledger.specs.Calls.{lookup, free_count}
use Rattle.ledger.proofs.Intact.{intact_is}
use Rattle.ledger.proofs.Shown.{lookup_intact}
use Rattle.routes.proofs.Tests.{known, not_known}
use Rattle.routes.specs.Hops.{free_in}
use Rattle.routes.proofs.Links.{many_links, stored_link, in_places_lem, frames_bounded}
use Rattle.routes.proofs.Hops.{word_held}
use Rattle.table.specs.declared.Place.{Place}
use Rattle.table.specs.Inner.{AllWithin}
use Rattle.table.specs.Table.{session_of, no_place, live_of, place_of}
use Rattle.table.proofs.Live.{in_length}
use Rattle.table.proofs.Looking.{stands_in, stands_shown, gone_refused}
use Rattle.state.specs.declared.State.{State}
use Rattle.state.specs.State.{view_of}
use Rattle.state.proofs.Within.{place_session, few_live, all_within}
use Rattle.sessions.specs.declared.Shown.{Shown}
use Rattle.sessions.specs.Calls.{Tells, shown_of}
use Rattle.sessions.proofs.First.{refused_tells, given_tells, is_intact}

-- what is shown of a stored session
pub place_shown : (place : Place) (hops : ℕ) → hops ≡ place.hops → (route : List ℕ) (held : Held) → route ≡ firsts 8 (firsts hops place.route 0) 0
    → held ≡ held_places (holding_of hops place.held)
    → ◌≡◌ {A = Shown} (record { hops = hops; route = route; held = held }) (shown_of (session_of place))
place_shown place hops n route held e h = rw (e, h, n, length_firsts place.hops place.route 0)

-- a state that passed check 0
module _ (st : State) (v : Result ⊤ Refusal) (ev : ruling v ≡ broken_check (view_of st)) (u : ⊤) (eu : v ≡ Ok u) where
  ok : intact (view_of st) ≡ true
  ok = is_intact st v ev u eu

  pub live_few : st.table.live ≤ 96
  live_few = few_live st ok

  pub live_within : AllWithin st.table
  live_within = all_within st ok

  passed : network_check (topology_of st.network) ≡ given pass
  passed = (intact_is (view_of st) ok).network

  live_length : length (live_of st.table) ≡ st.table.live
  live_length = in_length st.table.live st.table.places

  -- ---- lookup
  pub lookup_refused : (n : ℕ) (at : Option ℕ) → at ≡ place_of n (live_of st.table) → at ≡ None → (r : Refusal) → refusal_number r ≡ 19 → Tells shown_of (lookup (view_of st) n) (Err r)
  lookup_refused n at e h r p = refused_tells shown_of (lookup (view_of st) n) r (lookup_intact (view_of st) n ok ∙ gone_refused n (live_of st.table) (sym e ∙ h) ∙ ap refused (sym p)) (Err r) refl

  module _ (n : ℕ) (at : Option ℕ) (e : at ≡ place_of n (live_of st.table)) (i : ℕ) (h : at ≡ Some i) where
    stands : place_of n (live_of st.table) ≡ Some i
    stands = sym e ∙ h

    pub place_in : i < st.table.live
    place_in = omega (arith, stands_in n i (live_of st.table) stands, live_length)

    pub place_hops : (get_or st.table.places i no_place).hops ≤ 8
    place_hops = ((all_within st ok).each i place_in).few

    pub lookup_shown : (x : Shown) → x ≡ shown_of (session_of (get_or st.table.places i no_place)) → Tells shown_of (lookup (view_of st) n) (Ok x)
    lookup_shown x w =
        given_tells shown_of (lookup (view_of st) n) (session_of (get_or st.table.places i no_place))
        (lookup_intact (view_of st) n ok ∙ stands_shown n i (live_of st.table) stands (session_of no_place) ∙ ap given (place_session st.table.live i st.table.places place_in))
        (Ok x) (ap Ok w)

  -- ---- free frames
  free_refused : (l : ℕ) → st.network.count ≤ l → free_count (view_of st) l ≡ refused 13
  unfolding free_count
  free_refused l h = rw (ok, many_links st.network, not_known st.network.count l l refl h)

  free_given : (l : ℕ) → l < st.network.count → free_count (view_of st) l ≡ given (free_frames (link_at (topology_of st.network) l).frames (free_of (topology_of st.network) (live_of st.table) l 0))
  unfolding free_count
  free_given l h = rw (ok, many_links st.network, known st.network.count l l refl h)

  -- the link at place i of the network
  module _ (l i : ℕ) (e : i ≡ l) where
    pub link_refused : st.network.count ≤ i → (r : Refusal) → refusal_number r ≡ 13 → Tells (λ (n : ℕ). n) (free_count (view_of st) l) (Err r)
    link_refused h r p = refused_tells (λ (n : ℕ). n) (free_count (view_of st) l) r (free_refused l (omega arith) ∙ ap refused (sym p)) (Err r) refl

    module _ (h : i < st.network.count) where
      pub link_in : i < 32
      link_in = in_places_lem st.network i h passed

      pub link_frames : (0 < (get_or st.network.links i no_link).frames) × ((get_or st.network.links i no_link).frames ≤ 64)
      link_frames = frames_bounded st.network i h passed

      pub link_counted : (held : List ℕ) → HeldWords held (live_of st.table) → (at : ℕ) → at ≡ bank_at l 0 → (count : ℕ)
          → count ≡ count_below (get_or st.network.links i no_link).frames (free_at (get_or st.network.links i no_link).closed (get_or held at 0))
          → Tells (λ (n : ℕ). n) (free_count (view_of st) l) (Ok count)
      link_counted held w at ea count c =
          given_tells (λ (n : ℕ). n) (free_count (view_of st) l) count (free_given l below ∙ ap given (sym is)) (Ok count) refl
        where
          below : l < st.network.count
          below = omega arith

          k : Link
          k = get_or st.network.links l no_link

          here : count ≡ count_below k.frames (free_at k.closed (get_or held at 0))
          here = subst (λ (x : ℕ). count ≡ count_below (get_or st.network.links x no_link).frames (free_at (get_or st.network.links x no_link).closed (get_or held at 0))) e c

          is : count ≡ free_frames (link_at (topology_of st.network) l).frames (free_of (topology_of st.network) (live_of st.table) l 0)
          is = here ∙ sym (free_count_lem k.frames k.closed (get_or held at 0))
              ∙ ap (λ (a : ℕ). free_frames k.frames (free_word k.frames k.closed (get_or held a 0))) ea
              ∙ ap (λ (x : Link). free_frames x.frames (free_in x l held 0)) (sym (stored_link st.network l below))
              ∙ ap (free_frames (link_at (topology_of st.network) l).frames) (word_held st.network held (live_of st.table) l w passed below 0 (omega arith))
