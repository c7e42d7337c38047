-- The checks one after the other: what each says where those before it passed, and what a check that passed shows. Assumes nothing.
use mathlib.Core.Path.{◌≡◌, refl, sym, ◌∙◌}
use mathlib.Core.Bool.{Bool, true, false}
use mathlib.Core.List.{List, ◌∷◌}
use Prim.Native.Nat.{ℕ, ◌+◌, ◌<◌, ◌≤◌}
use native.Mathlib.Numerals.{add-one}
use native.Mathlib.Omega.{arith}
use lib.ListN.{length, get_or, take, drop, drop_of_length-le}
use lib.Seq.{drop-cons}
use Rattle.std.specs.Prelude.{Result, Ok, Err, ⊤}
use Rattle.places.specs.Places.{firsts}
use Rattle.places.proofs.Firsts.{length_firsts, firsts_take}
use Rattle.refusals.specs.Refusals.{Ruling, given, refused, pass, refuse_if, refused_or, ruling, refusal_number}
use Rattle.refusals.specs.declared.Refusal.{Refusal}
use Rattle.refusals.proofs.Refusals.{past, not_refused, both_passed}
use Rattle.network.specs.Network.{Topology, no_link, topology_of}
use Rattle.network.specs.declared.Network.{Network}
use Rattle.network.specs.Checks.{bad_count, bad_cycle, bad_frames, bad_range, bad_least, bad_closed, link_check, links_check, network_check}
use Rattle.network.specs.declared.Link.{Link}
use Rattle.network.proofs.Tests.{frames_passed, range_passed, least_passed, count_passed}

module _ (T : ℕ) (l : Link) (b : Bool) (eb : b ≡ bad_frames T l.frames) where
  pub frames_refused : b ≡ true → ◌≡◌ {A = Ruling} (refused 7) (link_check T l)
  unfolding link_check
  frames_refused h = rw (← eb, h)

  pub frames_few : b ≡ false → l.frames ≤ 64
  frames_few h = (frames_passed T l.frames (sym eb ∙ h)).1

  module _ (h : b ≡ false) (d : Bool) (ed : d ≡ bad_range l.frames l.range) where
    pub range_refused : d ≡ true → ◌≡◌ {A = Ruling} (refused 8) (link_check T l)
    unfolding link_check
    range_refused g = rw (← eb, h, ← ed, g)

    module _ (g : d ≡ false) (y : Bool) (ey : y ≡ bad_least l.frames l.range l.least) where
      pub least_refused : y ≡ true → ◌≡◌ {A = Ruling} (refused 21) (link_check T l)
      unfolding link_check
      least_refused z = rw (← eb, h, ← ed, g, ← ey, z)

      module _ (z : y ≡ false) (f : Bool) (ef : f ≡ bad_closed l.frames l.closed) where
        pub closed_refused : f ≡ true → ◌≡◌ {A = Ruling} (refused 9) (link_check T l)
        unfolding link_check
        closed_refused i = rw (← eb, h, ← ed, g, ← ey, z, ← ef, i)

        pub link_passes : f ≡ false → ◌≡◌ {A = Ruling} (given pass) (link_check T l)
        unfolding link_check
        link_passes i = rw (← eb, h, ← ed, g, ← ey, z, ← ef, i)

-- ---- the links one after the other: the first i passed
abbrev pub Reached : ℕ → List Link → ℕ → Type 0
Reached T links i = links_check T links ≡ links_check T (drop i links)

module _ (T : ℕ) (links : List Link) (i : ℕ) (p : Reached T links i) where
  one_more : i < length links → links_check T links ≡ refused_or (link_check T (get_or links i no_link)) (links_check T (drop (i + 1) links))
  unfolding links_check
  one_more h = p ∙ rw (drop-cons links i no_link h, add-one)

  module _ (h : i < length links) (v : Result ⊤ Refusal) (ev : ruling v ≡ link_check T (get_or links i no_link)) where
    pub one_refused : (r : Refusal) → v ≡ Err r → refused (refusal_number r) ≡ links_check T links
    one_refused r e = sym (one_more h ∙ rw (← ev, e))

    pub one_passed : (x : ⊤) → v ≡ Ok x → Reached T links (i + 1)
    one_passed x e = one_more h ∙ rw (← ev, e)

  pub all_passed : length links ≤ i → given pass ≡ links_check T links
  unfolding links_check
  all_passed h = sym (p ∙ rw (drop_of_length-le links {i = i} h))

-- ---- a network
module _ (n : Network) (b : Bool) (eb : b ≡ bad_count n.count) where
  pub count_refused : b ≡ true → ◌≡◌ {A = Ruling} (refused 2) (network_check (topology_of n))
  unfolding network_check topology_of
  count_refused h = rw (length_firsts, ← eb, h)

  pub count_few : b ≡ false → n.count ≤ 32
  count_few h = (count_passed n.count (sym eb ∙ h)).1

  module _ (h : b ≡ false) (d : Bool) (ed : d ≡ bad_cycle n.ticks) where
    pub cycle_refused : d ≡ true → ◌≡◌ {A = Ruling} (refused 3) (network_check (topology_of n))
    unfolding network_check topology_of
    cycle_refused g = rw (length_firsts, ← eb, h, ← ed, g)

    pub links_rule : d ≡ false → n.count ≤ length n.links → (r : Ruling) → r ≡ links_check n.ticks (take n.count n.links) → r ≡ network_check (topology_of n)
    unfolding network_check topology_of
    links_rule g few r e = rw (length_firsts, ← eb, h, ← ed, g, firsts_take n.count n.links no_link few) e

-- ---- what a check that passed shows
-- a link that passed
pub record GoodLink (T : ℕ) (l : Link) : Type 0 where
  pub frames : bad_frames T l.frames ≡ false
  pub range : bad_range l.frames l.range ≡ false
  pub least : bad_least l.frames l.range l.least ≡ false
  pub closed : bad_closed l.frames l.closed ≡ false

pub link_good : (T : ℕ) (l : Link) → link_check T l ≡ given pass → GoodLink T l
unfolding link_check
link_good T l e =
    let c : Ruling = refuse_if (bad_closed l.frames l.closed) 9 in
    let y : Ruling = refused_or (refuse_if (bad_least l.frames l.range l.least) 21) c in
    let r : Ruling = refused_or (refuse_if (bad_range l.frames l.range) 8) y in
    let a : (bad_frames T l.frames ≡ false) × (r ≡ given pass) = past (bad_frames T l.frames) 7 r pass e in
    let b : (bad_range l.frames l.range ≡ false) × (y ≡ given pass) = past (bad_range l.frames l.range) 8 y pass a.1 in
    let d : (bad_least l.frames l.range l.least ≡ false) × (c ≡ given pass) = past (bad_least l.frames l.range l.least) 21 c pass b.1 in
    record { frames = a.0; range = b.0; least = d.0; closed = not_refused (bad_closed l.frames l.closed) 9 d.1 }

-- K, Z and Y of a link that passed fit in a byte
pub link_few : (T : ℕ) (l : Link) → GoodLink T l → (l.frames ≤ 64) × (l.range ≤ 64) × (l.least ≤ 64)
link_few T l g =
    let f = frames_passed T l.frames g.frames in
    let r = range_passed l.frames l.range g.range in
    let y = least_passed l.frames l.range l.least g.least in
    (f.1, omega (arith, f.1, r.1), omega (arith, f.1, r.1, y.0))

-- a network that passed
pub record GoodNetwork (t : Topology) : Type 0 where
  pub count : bad_count (length t.links) ≡ false
  pub cycle : bad_cycle t.ticks ≡ false
  pub links : links_check t.ticks t.links ≡ given pass

pub network_good : (t : Topology) → network_check t ≡ given pass → GoodNetwork t
unfolding network_check
network_good t e =
    let l : Ruling = links_check t.ticks t.links in
    let r : Ruling = refused_or (refuse_if (bad_cycle t.ticks) 3) l in
    let a : (bad_count (length t.links) ≡ false) × (r ≡ given pass) = past (bad_count (length t.links)) 2 r pass e in
    let b : (bad_cycle t.ticks ≡ false) × (l ≡ given pass) = past (bad_cycle t.ticks) 3 l pass a.1 in
    record { count = a.0; cycle = b.0; links = b.1 }

-- and back
pub good_network_lem : (t : Topology) → GoodNetwork t → network_check t ≡ given pass
unfolding network_check
good_network_lem t g = rw (g.count, g.cycle) g.links

-- the first of some links that passed, and the others
pub links_good : (T : ℕ) (l : Link) (ls : List Link) → links_check T (l ∷ ls) ≡ given pass → (link_check T l ≡ given pass) × (links_check T ls ≡ given pass)
unfolding links_check
links_good T l ls e = both_passed (link_check T l) (links_check T ls) e
