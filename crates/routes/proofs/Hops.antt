-- The hops of a route: as the code lays them, by the words of held frames, and as a search needs them. Assumes nothing.
use mathlib.Core.Path.{◌≡◌, refl, sym, ap, ap₂, subst, ◌∙◌}
use mathlib.Core.Bool.{Bool, false, not, ◌&&◌}
use mathlib.Core.List.{List, [], ◌∷◌, ◌++◌, map, map-append}
use Prim.Native.Nat.{ℕ, zero, suc, ◌+◌, ◌<◌, ◌≤◌}
use native.Mathlib.Nat.{not-suc-le-zero, le_of_suc-le-suc}
use native.Mathlib.Numerals.{add-one}
use native.Mathlib.Decide.{dec_lt}
use native.Mathlib.Omega.{arith}
use lib.ListN.{length, get_or, take, set, replicate, length-map}
use lib.Seq.{take-suc, take_all, length-take-le, get_or-take}
use Rattle.lists.proofs.Count.{or_neither}
use Rattle.places.specs.Places.{firsts}
use Rattle.places.proofs.Firsts.{firsts_filled, firsts_more, firsts_get, length_firsts, firsts_take, blanks_back}
use Rattle.refusals.specs.Refusals.{given, pass}
use Rattle.words.specs.Word.{bit_of, word_of, free_at, free_word}
use Rattle.words.specs.Bank.{most_colours, bank_at}
use Rattle.words.proofs.Words.{word_cong, bit_below}
use Rattle.words.proofs.Banks.{bank_in, bank_link_lem, bank_colour_lem}
use Rattle.network.specs.declared.Link.{Link}
use Rattle.network.specs.declared.Network.{Network}
use Rattle.network.specs.Network.{Topology, no_link, topology_of}
use Rattle.network.specs.Checks.{network_check}
use Rattle.network.proofs.Tests.{cycle_passed, frames_passed, range_passed, least_passed}
use Rattle.network.proofs.Checks.{GoodLink, network_good}
use Rattle.forwarding.specs.declared.Hop.{Hop}
use Rattle.forwarding.specs.Forwarding.{least_hold}
use Rattle.forwarding.specs.Hops.{no_hop, blank_hop, HopReady, AllReady, Ready}
use Rattle.forwarding.specs.Schedule.{OneColour}
use Rattle.forwarding.proofs.Transitions.{may_hold_lem, hold_may, hold_only}
use Rattle.forwarding.proofs.ByHops.{all_ready}
use Rattle.ledger.specs.Lists.{any_of}
use Rattle.ledger.specs.Sessions.{Session, slot, held_in, link_at, link_colours, free_of, by_colour, free_words, hop_of, hops_of}
use Rattle.ledger.specs.Inner.{HeldWords}
use Rattle.ledger.specs.Routes.{unknown, unknown_link, route_check}
use Rattle.ledger.proofs.Colours.{some_colour, few_colours, few_turns, colour_more, colour_same}
use Rattle.routes.specs.Hops.{free_in, free_from, hop_from, hops_from, RouteReady, LentReady, LinkHoldOnly}
use Rattle.routes.proofs.Tests.{known_passed}
use Rattle.routes.proofs.Links.{link_passed, many_links, stored_link, in_places_lem, frames_bounded}
use Rattle.routes.proofs.Routes.{route_long, route_known}

-- ---- the words of the colours before c are stored
pub colour_in : (k : Link) (c n : ℕ) → n ≡ link_colours k → c < n → c < most_colours
colour_in k c n e h = omega (arith, few_colours k)

module _ (k : Link) (l : ℕ) (held : List ℕ) where
  pub none_filled : replicate most_colours 0 ≡ by_colour 0 (free_in k l held)
  unfolding by_colour
  none_filled = refl

  pub one_filled : (free : List ℕ) (c : ℕ) → free ≡ by_colour c (free_in k l held) → c < most_colours → (at w : ℕ) → at ≡ bank_at l c → w ≡ free_word k.frames k.closed (get_or held at 0) → set free c w ≡ by_colour (c + 1) (free_in k l held)
  one_filled free c p h at w ea e = rw p (colour_more (free_in k l held) c w h (e ∙ rw ea))

-- ---- the hops before place j are laid
module _ (links : List Link) (held route : List ℕ) where
  pub none_laid : (none : Hop) → none ≡ blank_hop → replicate 8 none ≡ firsts 8 (hops_from links held (take 0 route)) blank_hop
  none_laid none e = rw e (firsts_filled 8 [] blank_hop (omega arith))

  pub one_laid : (hops : List Hop) (j : ℕ) → hops ≡ firsts 8 (hops_from links held (take j route)) blank_hop → j < length route → length route ≤ 8 → (k : Link) (hop : Hop) → k ≡ get_or links (get_or route j 0) no_link
      → hop ≡ hop_from k (get_or route j 0) held → set hops j hop ≡ firsts 8 (hops_from links held (take (j + 1) route)) blank_hop
  one_laid hops j p h few k hop ek e =
      let f : ℕ → Hop = λ l. hop_from (get_or links l no_link) l held in
      let n : length (map f (take j route)) ≡ j = length-map (take j route) f ∙ length-take-le j route (omega arith) in
      let t : take (j + 1) route ≡ take j route ++ (get_or route j 0 ∷ []) = rw add-one (take-suc route j 0 h) in
      let o : hop ≡ f (get_or route j 0) = rw (e, ek) in
      rw (p, t, map-append, o) (firsts_more 8 j (map f (take j route)) (f (get_or route j 0)) blank_hop n (omega arith))

-- ---- the words of held frames say the same as the sessions
-- of the word of held frames only the bits below K count
free_held : (K closed : ℕ) (held : ℕ → Bool) → K ≤ 64 → free_word K closed (word_of 64 held) ≡ word_of K (λ i. not (bit_of closed i) && not (held i))
unfolding free_word free_at
free_held K closed held h =
    word_cong K (free_at closed (word_of 64 held)) (λ i. not (bit_of closed i) && not (held i)) (λ i l. rw (bit_below 64 held i (omega arith)))

module _ (network : Network) (held : List ℕ) (ss : List Session) (l : ℕ) (w : HeldWords held ss) (e : network_check (topology_of network) ≡ given pass) (h : l < network.count) where
  -- of a link in a colour
  pub word_held : (c : ℕ) → c < most_colours → free_in (link_at (topology_of network) l) l held c ≡ free_of (topology_of network) ss l c
  unfolding free_of
  word_held c few =
      let k : Link = link_at (topology_of network) l in
      let b : k.frames ≤ 64 = rw (stored_link network l h) (frames_bounded network l h e).1 in
      let word_at : get_or held (bank_at l c) 0 ≡ word_of 64 (λ i. held_in ss (slot l i c)) =
      w.word (bank_at l c) (bank_in l c (in_places_lem network l h e) few) ∙ ap₂ (λ (a d : ℕ). word_of 64 (λ i. held_in ss (slot a i d))) (bank_link_lem l c few) (bank_colour_lem l c few) in
      rw (word_at, free_held k.frames k.closed (λ i. held_in ss (slot l i c)) b)

  pub hop_held : hop_from (get_or network.links l no_link) l held ≡ hop_of (topology_of network) ss l
  hop_held =
      let k : Link = link_at (topology_of network) l in
      let same : free_from k l held ≡ free_words (topology_of network) ss l =
      colour_same (link_colours k) (free_in k l held) (free_of (topology_of network) ss l) (λ c g. word_held c (omega (arith, g, few_colours k))) in
      rw (← stored_link network l h, same)

map_known : (f g : ℕ → Hop) (count : ℕ) → ((l : ℕ) → l < count → f l ≡ g l) → (route : List ℕ) → any_of (unknown count) route ≡ false → map f route ≡ map g route
map_known f g count h [] e = refl
map_known f g count h (l ∷ route) e =
    let o : (unknown count l ≡ false) × (any_of (unknown count) route ≡ false) = or_neither (unknown count l) (any_of (unknown count) route) e in
    rw (h l (known_passed count l o.0), map_known f g count h route o.1)

-- THE HOPS BY STORED WORDS ARE THE HOPS BY THE SESSIONS
pub hops_held : (network : Network) (held : List ℕ) (ss : List Session) (route : List ℕ) → HeldWords held ss → network_check (topology_of network) ≡ given pass → unknown_link (topology_of network) route ≡ false → hops_from network.links held route ≡ hops_of (topology_of network) ss route
unfolding unknown_link
hops_held network held ss route w e u =
    map_known (λ l. hop_from (get_or network.links l no_link) l held) (hop_of (topology_of network) ss) network.count (λ l h. hop_held network held ss l w e h) route (rw (many_links network) at u)

-- ---- a route that passed may be searched
hop_ready : (net : Topology) (ss : List Session) (l : ℕ) → GoodLink net.ticks (link_at net l) → HopReady net.ticks (hop_of net ss l)
hop_ready net ss l g =
    let k : Link = link_at net l in
    let f = frames_passed net.ticks k.frames g.frames in
    let z = range_passed k.frames k.range g.range in
    let y = least_passed k.frames k.range k.least g.least in
    record { some_frame = f.0; few_frames = f.1; divides = f.2; in_cycle = z.1; ordered = y.0; narrow = below k.least k.range k.frames z.1 y.1; some_colour = some_colour k; few_colours = few_colours k; turns = few_turns k }
  where
    below : (Y Z K : ℕ) → Z ≤ K → (Y ≡ 0 → Z ≡ K → ⊥) → Z < Y + K
    below Y Z K l n =
        elim (dec_lt Z (Y + K)) [
          | yes b ↦ b
          | no b ↦ absurd (n (omega arith) (omega arith))
        ]

-- THE HOLD IS THE ONE NUMBER FROM Y UP TO Z THAT FITS, on every link that passed
pub link_hold_only : LinkHoldOnly
unfolding least_hold
link_hold_only net ss l e h r i m D =
    let k = hold_only net.ticks (hop_of net ss l) r i (hop_ready net ss l (link_passed net l e h)) m D in (
      λ d. ((k.0 d).0, may_hold_lem (hop_of net ss l) D (k.0 d).1),
      λ (q, z). k.1 (q, hold_may (hop_of net ss l) D z),
    )

-- a part of an array that may be searched, as a route of its own
pub taken_ready : (T n : ℕ) (hops : List Hop) → n ≤ length hops → Ready T hops n → Ready T (take n hops) (length (take n hops))
taken_ready T n hops h r =
    let e : length (take n hops) ≡ n = length-take-le n hops h in
    rw e (record {
      cycle = r.cycle;
      some_hop = r.some_hop;
      few_hops = r.few_hops;
      each = λ j l. rw (get_or-take n hops j no_hop l) (r.each j l);
    })

pub map_place : (f : ℕ → Hop) (route : List ℕ) (j : ℕ) → j < length route → get_or (map f route) j no_hop ≡ f (get_or route j 0)
map_place f [] j h = absurd (not-suc-le-zero h)
map_place f (l ∷ route) zero h = refl
map_place f (l ∷ route) (suc j) h = map_place f route j (le_of_suc-le-suc h)

-- THE SEARCH OF A ROUTE THAT PASSED MAY BEGIN
pub route_ready : RouteReady
route_ready net ss route e r =
    let n = route_long net route r in
    record {
      cycle = (cycle_passed net.ticks (network_good net e).cycle).1;
      some_hop = n.0;
      few_hops = n.1;
      each = λ j h. rw (firsts_get 8 j (hops_of net ss route) blank_hop no_hop (omega arith) (omega (arith, length-map route (hop_of net ss))), map_place (hop_of net ss) route j h) (hop_ready net ss (get_or route j 0) (link_passed net (get_or route j 0) e (route_known net route r j h)));
    }

-- AND LENT
pub lent_ready : LentReady
lent_ready net ss route e r =
    let hops : List Hop = hops_of net ss route in
    let eight : List Hop = firsts 8 hops blank_hop in
    let few : length route ≤ 8 = (route_long net route r).1 in
    let room : length route ≤ length eight = omega (arith, length_firsts 8 hops blank_hop, few) in
    subst (λ (l : List Hop). Ready net.ticks l (length l)) (sym (firsts_take (length route) eight no_hop room) ∙ blanks_back 8 (length route) hops blank_hop no_hop (length-map route (hop_of net ss)) few)
    (taken_ready net.ticks (length route) eight room (route_ready net ss route e r))

-- and so each of its hops is ready
pub route_all_ready : (net : Topology) (ss : List Session) (route : List ℕ) → network_check net ≡ given pass → route_check net route ≡ given pass → AllReady net.ticks (hops_of net ss route)
route_all_ready net ss route e r =
    let p = route_ready net ss route e r in
    let n = length-map route (hop_of net ss) in
    subst (AllReady net.ticks) (take_all (length route) (hops_of net ss route) (omega (arith, n)))
    (all_ready net.ticks (hops_of net ss route) (length route) (omega (arith, n)) (λ j h. rw (firsts_get 8 j (hops_of net ss route) blank_hop no_hop (omega (arith, p.few_hops)) (omega (arith, n))) at (p.each j h)))

-- ---- each link has one colour
pub one_colour : (net : Topology) (ss : List Session) (route : List ℕ) → OneColour (hops_of net ss route)
unfolding link_colours
one_colour net ss [] = tt
one_colour net ss (l ∷ route) = (refl, one_colour net ss route)

-- and so each hop
pub one_each : (net : Topology) (ss : List Session) (route : List ℕ) (hops : List Hop) → hops ≡ hops_of net ss route → (j : ℕ) → j < length hops → (get_or hops j no_hop).colours ≡ 1
unfolding link_colours
one_each net ss route hops e j h =
    ap (λ (l : List Hop). (get_or l j no_hop).colours) e ∙ ap (λ (x : Hop). x.colours) (map_place (hop_of net ss) route j (omega (arith, h, ap length e, length-map route (hop_of net ss))))
