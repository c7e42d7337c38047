-- The checks of a route one after the other: what each says where those before it passed, and what a route that passed shows. Assumes nothing.
use mathlib.Core.Path.{◌≡◌, sym, ◌∙◌}
use mathlib.Core.Bool.{Bool, true, false, ◌||◌}
use mathlib.Core.List.{List, ◌∷◌}
use Prim.Native.Nat.{ℕ, ◌+◌, ◌-◌, ◌<◌, ◌≤◌}
use native.Mathlib.Decide.{dec_lt}
use native.Mathlib.Omega.{arith}
use lib.Dec.{leb}
use lib.ListN.{length, get_or, drop, drop_of_length-le}
use Rattle.std.specs.List.{list_any}
use Rattle.refusals.specs.Refusals.{Ruling, given, pass, refuse_if, refused_or}
use Rattle.refusals.proofs.Refusals.{past}
use Rattle.network.specs.declared.Link.{Link}
use Rattle.network.specs.declared.Network.{Network}
use Rattle.network.specs.Network.{Topology, no_link, topology_of}
use Rattle.ledger.specs.Sessions.{link_at}
use Rattle.ledger.specs.Routes.{bad_length, unknown, unknown_link, link_twice, apart, rates_apart, rates_of, route_check}
use Rattle.routes.proofs.Tests.{unknown_told, length_passed}
use Rattle.routes.proofs.Sought.{any_same, next_place}
use Rattle.routes.proofs.Links.{route_link, many_links, known_place, stored_frames}

-- ---- check 15: of the links before place j, none is apart from the next
pub record Compared (net : Topology) (route : List ℕ) (j : ℕ) : Type 0 where
  pub begun : 0 < j
  pub same : rates_apart (rates_of net route) ≡ rates_apart (rates_of net (drop (j - 1) route))

module _ (network : Network) (route : List ℕ) (u : unknown_link (topology_of network) route ≡ false) (j : ℕ) (p : Compared (topology_of network) route j) where
  from_before : j - 1 < length route → drop (j - 1) route ≡ get_or route (j - 1) 0 ∷ drop j route
  from_before h =
      let e : j - 1 + 1 ≡ j = omega (arith, p.begun) in
      rw e at (next_place route (j - 1) 0 h)

  module _ (h : j < length route) (one other : Link) (e : one ≡ get_or network.links (get_or route (j - 1) 0) no_link) (e' : other ≡ get_or network.links (get_or route j 0) no_link) (b : Bool) (eb : b ≡ apart one.frames other.frames) where
    split : rates_apart (rates_of (topology_of network) route) ≡ b || rates_apart (rates_of (topology_of network) (drop j route))
    unfolding rates_apart
    split =
        let f : one.frames ≡ (link_at (topology_of network) (get_or route (j - 1) 0)).frames = stored_frames network (get_or route (j - 1) 0) (known_place network route (j - 1) u (omega arith)) one e in
        let f' : other.frames ≡ (link_at (topology_of network) (get_or route j 0)).frames = stored_frames network (get_or route j 0) (known_place network route j u h) other e' in
        p.same ∙ rw (from_before (omega arith), next_place route j 0 h, ← f, ← f', ← eb) (rw f')

    pub two_apart : b ≡ true → true ≡ rates_apart (rates_of (topology_of network) route)
    two_apart t = sym (split ∙ rw t)

    pub two_agree : b ≡ false → Compared (topology_of network) route (j + 1)
    two_agree t =
        let q : j + 1 - 1 ≡ j = omega arith in
        record { begun = omega arith; same = rw q (split ∙ rw t) }

  pub all_agree : length route ≤ j → false ≡ rates_apart (rates_of (topology_of network) route)
  unfolding rates_apart
  all_agree h =
      sym
      (p.same
      ∙ elim (dec_lt (j - 1) (length route)) [
        | yes b ↦ rw (from_before b, drop_of_length-le route h)
        | no b ↦ let g : length route ≤ j - 1 = omega arith in rw (drop_of_length-le route g)
      ])

-- ---- check 13: the code's test is the rule's
pub link_told : (network : Network) (route : List ℕ) (b : Bool) → b ≡ list_any (λ l. leb network.count l) route → b ≡ unknown_link (topology_of network) route
unfolding unknown_link
link_told network route b e = rw (many_links network) (e ∙ any_same (λ l. leb network.count l) (unknown network.count) (unknown_told network.count) route)

-- ---- what a route that passed shows
module _ (net : Topology) (route : List ℕ) (e : route_check net route ≡ given pass) where
  checked : (bad_length (length route) ≡ false) × (unknown_link net route ≡ false)
  unfolding route_check
  checked =
      let t : Ruling = refused_or (refuse_if (link_twice route) 14) (refuse_if (rates_apart (rates_of net route)) 15) in
      let u : Ruling = refused_or (refuse_if (unknown_link net route) 13) t in
      let a : (bad_length (length route) ≡ false) × (u ≡ given pass) = past (bad_length (length route)) 12 u pass e in
      (a.0, (past (unknown_link net route) 13 t pass a.1).0)

  -- 1 to 8 links
  pub route_long : (0 < length route) × (length route ≤ 8)
  route_long = length_passed (length route) checked.0

  pub route_all_known : unknown_link net route ≡ false
  route_all_known = checked.1

  -- each is one of the network's
  pub route_known : (j : ℕ) → j < length route → get_or route j 0 < length net.links
  route_known j h = route_link net route j route_all_known h

pub passed_place : (network : Network) (route : List ℕ) → route_check (topology_of network) route ≡ given pass → (j : ℕ) → j < length route → get_or route j 0 < network.count
passed_place network route e j h = known_place network route j (route_all_known (topology_of network) route e) h
