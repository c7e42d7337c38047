-- The count of transitions considered is the number of those that document 01 names.
-- Assumes nothing.
use mathlib.Core.Path.{◌≡◌, refl, sym, ◌∙◌, ap, ap₂, subst}
use mathlib.Core.Bool.{Bool, true, ◌&&◌}
use mathlib.Core.List.Memᴰ
use mathlib.Core.List.{List, [], ◌∷◌, ◌++◌, map, reverse, reverse-cons, reverse-append, Memᴰ}
use Prim.Native.Nat.{ℕ, zero, suc, ◌+◌, ◌<◌}
use native.Mathlib.Omega.{arith}
use lib.ListN.{length, take, get_or, length-append, length-map, length-reverse}
use lib.Seq.{get_or-take, length-take-le}
use Rattle.lists.specs.Count.{one_if, sum_below, count_below}
use Rattle.lists.specs.Once.{EachOnce}
use Rattle.lists.proofs.Count.{sum_cong, and_both, both_and}
use Rattle.lists.proofs.Once.{same_members}
use Rattle.trellis.specs.Trellis.{Stage, Trellis, entry, Reach, width, Leads, IsPath}
use Rattle.trellis.specs.Paths.{list_if, gather}
use Rattle.trellis.specs.Considered.{ends_path, considered}
use Rattle.trellis.proofs.Paths.{path_below, listed_if_in, listed_if_of, gather_in, gather_of, length_if, length_gather, once_if, once_gather, ends_path_lem, path_ends, once_named}
use Rattle.trellis.proofs.Ladder.{ladder}
use Rattle.forwarding.specs.declared.Hop.{Hop}
use Rattle.forwarding.specs.Forwarding.{Spot, IsOn, is_allowed}
use Rattle.forwarding.specs.Hops.{no_hop}
use Rattle.forwarding.specs.Schedule.{IsSchedule, Transition, IsConsidered, CountOf, CountOnly}
use Rattle.forwarding.specs.Route.{nodes, node_at, spot_at, nodes_on, spots_on, starts, route_trellis, transitions, TransitionsCounted}
use Rattle.forwarding.specs.Inner.{hop_at, stage_after}
use Rattle.forwarding.proofs.Spots.{spot_back, node_back, node_in_lem, spot_on}
use Rattle.forwarding.proofs.Schedules.{schedule_on, schedule_long, no_spot, schedules_paths}
use Rattle.forwarding.proofs.ByHops.{route_ladder, first_hops}

-- ---- the steps of a trellis, stage by stage
pub record Step : Type 0 where
  pub hop : ℕ
  pub from : ℕ
  pub to : ℕ

module _ (t : Trellis) (f : ℕ → Stage) where
  abbrev before : ℕ → Trellis
  before = ladder t f

  abbrev passes : ℕ → ℕ → ℕ → Bool
  passes j k i = ends_path (before j) k && (f j).allowed k i

  abbrev one : ℕ → ℕ → ℕ → List Step
  one j k i = list_if (passes j k i) (record { hop = j; from = k; to = i } ∷ [])

  abbrev from : ℕ → ℕ → List Step
  from j k = gather (f j).size (λ i. one j k i)

  abbrev into : ℕ → List Step
  into j = gather (width (before j)) (λ k. from j k)

  steps : ℕ → List Step
  steps n = gather n (λ j. into j)

  -- their number
  stage_number : (j : ℕ) → length (into j) ≡ sum_below (width (before j)) (λ k. count_below (f j).size (λ i. passes j k i))
  stage_number j =
      length_gather (width (before j)) (λ k. from j k)
      ∙ sum_cong (width (before j)) (λ k. length (from j k)) (λ k. count_below (f j).size (λ i. passes j k i))
      (λ k l. length_gather (f j).size (λ i. one j k i)
      ∙ sum_cong (f j).size (λ i. length (one j k i)) (λ i. one_if (passes j k i)) (λ i m. length_if (passes j k i) (record { hop = j; from = k; to = i })))

  steps_number : considered t ≡ 0 → (n : ℕ) → considered (before n) ≡ length (steps n)
  unfolding steps
  steps_number e zero = e
  steps_number e (suc n) = ap₂ ◌+◌ (steps_number e n) (sym (stage_number n)) ∙ sym (length-append (gather n (λ j. into j)) (into n))

  -- which they are
  pub record IsStep (n : ℕ) (x : Step) : Type 0 where
    pub stage : x.hop < n
    pub node : x.from < width (before x.hop)
    pub goal : x.to < (f x.hop).size
    pub reaches : ends_path (before x.hop) x.from ≡ true
    pub allows : (f x.hop).allowed x.from x.to ≡ true

  one_of : (j k i : ℕ) (x : Step) → Memᴰ x (one j k i) → (x ≡ record { hop = j; from = k; to = i }) × (passes j k i ≡ true)
  one_of j k i x m = let w = listed_if_of (passes j k i) (record { hop = j; from = k; to = i } ∷ []) m in (Memᴰ.eq_of_singleton w.1, w.0)

  from_of : (j k : ℕ) (x : Step) → Memᴰ x (from j k) → (x.to < (f j).size) × (x ≡ record { hop = j; from = k; to = x.to }) × (passes j k x.to ≡ true)
  from_of j k x m =
      let w = gather_of (f j).size (λ i. one j k i) m in
      let o = one_of j k w.place x w.there in
      let e : x.to ≡ w.place = ap (λ (y : Step). y.to) o.0 in (
        subst (λ (i : ℕ). i < (f j).size) (sym e) w.below,
        o.0 ∙ ap (λ (i : ℕ). record { hop = j; from = k; to = i }) (sym e),
        subst (λ (i : ℕ). passes j k i ≡ true) (sym e) o.1,
      )

  into_of : (j : ℕ) (x : Step) → Memᴰ x (into j) → (x.hop ≡ j) × (x.from < width (before j)) × (x.to < (f j).size) × (passes j x.from x.to ≡ true)
  into_of j x m =
      let w = gather_of (width (before j)) (λ k. from j k) m in
      let o = from_of j w.place x w.there in
      let e : x.from ≡ w.place = ap (λ (y : Step). y.from) o.1 in (
        ap (λ (y : Step). y.hop) o.1,
        subst (λ (k : ℕ). k < width (before j)) (sym e) w.below,
        o.0,
        subst (λ (k : ℕ). passes j k x.to ≡ true) (sym e) o.2,
      )

  steps_are : (n : ℕ) (x : Step) → Memᴰ x (steps n) → IsStep n x
  unfolding steps
  steps_are n x m =
      let w = gather_of n (λ j. into j) m in
      let o = into_of w.place x w.there in
      let b = and_both (ends_path (before w.place) x.from) ((f w.place).allowed x.from x.to) o.3 in
      subst (λ (j : ℕ). (j < n → x.from < width (before j) → x.to < (f j).size → ends_path (before j) x.from ≡ true → (f j).allowed x.from x.to ≡ true → IsStep n x)) o.0
      (λ l a c d e. record { stage = l; node = a; goal = c; reaches = d; allows = e })
      w.below o.1 o.2 b.0 b.1

  are_steps : (n : ℕ) (x : Step) → IsStep n x → Memᴰ x (steps n)
  unfolding steps
  are_steps n x s =
      gather_in n (λ j. into j) x.hop s.stage
      (gather_in (width (before x.hop)) (λ k. from x.hop k) x.from s.node
      (gather_in (f x.hop).size (λ i. one x.hop x.from i) x.to s.goal
      (listed_if_in (passes x.hop x.from x.to) (x ∷ [])
      (both_and (ends_path (before x.hop) x.from) ((f x.hop).allowed x.from x.to) s.reaches s.allows) (Memᴰ.head refl))))

  -- each once
  steps_once : (n : ℕ) → EachOnce (steps n)
  unfolding steps
  steps_once n =
      once_gather n (λ j. into j)
      (λ j. once_gather (width (before j)) (λ k. from j k)
      (λ k. once_gather (f j).size (λ i. one j k i) (λ i. once_if (passes j k i) (record { hop = j; from = k; to = i } ∷ []) (λ m. Memᴰ.not-nil m, tt))
      (λ i e x a b. sym (ap (λ (y : Step). y.to) (one_of j k i x a).0) ∙ ap (λ (y : Step). y.to) (one_of j k e x b).0))
      (λ k e x a b. sym (ap (λ (y : Step). y.from) (from_of j k x a).1) ∙ ap (λ (y : Step). y.from) (from_of j e x b).1))
      (λ j e x a b. sym (into_of j x a).0 ∙ (into_of e x b).0)

-- ---- of a route: a frame in a colour that ends some schedule
-- a path has a node for each stage
path_long : (n : ℕ) (s : ℕ → Reach) (f : ℕ → Stage) (j k : ℕ) (p : List ℕ) → Leads (ladder (entry n s) f j) k p → length p ≡ j
path_long n s f zero k [] l = refl
path_long n s f zero k (i ∷ p) l = absurd l
path_long n s f (suc j) k [] l = absurd l
path_long n s f (suc j) k (i ∷ p) l = ap suc (path_long n s f j i p l.2)

-- the last of a list, named and as a node
spots_last : (hops : List Hop) (ns : List ℕ) (k : ℕ) → length ns < length hops → spots_on (take (suc (length ns)) hops) (ns ++ (k ∷ [])) ≡ spots_on (take (length ns) hops) ns ++ (spot_at (hop_at hops (length ns)) k ∷ [])
spots_last [] ns k l = absurd (omega arith)
spots_last (h ∷ hs) [] k l = refl
spots_last (h ∷ hs) (n ∷ ns) k l = ap (λ (xs : List Spot). spot_at h n ∷ xs) (spots_last hs ns k (omega arith))

nodes_last : (hops : List Hop) (xs : List Spot) (x : Spot) → length xs < length hops → nodes_on (take (suc (length xs)) hops) (xs ++ (x ∷ [])) ≡ nodes_on (take (length xs) hops) xs ++ (node_at (hop_at hops (length xs)) x ∷ [])
nodes_last [] xs x l = absurd (omega arith)
nodes_last (h ∷ hs) [] x l = refl
nodes_last (h ∷ hs) (y ∷ xs) x l = ap (λ (ns : List ℕ). node_at h y ∷ ns) (nodes_last hs xs x (omega arith))

at_end : (xs : List Spot) (x d : Spot) → get_or (xs ++ (x ∷ [])) (length xs) d ≡ x
at_end [] x d = refl
at_end (y ∷ xs) x d = at_end xs x d

module _ (T : ℕ) (hops : List Hop) where
  abbrev up_to : ℕ → Trellis
  up_to = ladder (entry (nodes (hop_at hops 0)) (starts (hop_at hops 0))) (stage_after T hops)

  ends_schedule : (j k : ℕ) → j < length hops → ends_path (up_to j) k ≡ true → (xs : List Spot) × IsSchedule (take (suc j) hops) (xs ++ (spot_at (hop_at hops j) k ∷ []))
  ends_schedule j k l e =
      let w = ends_path_lem (up_to j) k e in
      let p : IsPath (route_trellis T (take (suc j) hops)) (k ∷ w.0) = subst (λ (t : Trellis). IsPath t (k ∷ w.0)) (sym (first_hops T hops j l)) w.1 in
      let r : IsSchedule (take (suc j) hops) (spots_on (take (suc j) hops) (reverse (k ∷ w.0))) = (schedules_paths T (take (suc j) hops)).read (k ∷ w.0) p in
      let long : length (reverse w.0) ≡ j = length-reverse w.0 ∙ path_long (nodes (hop_at hops 0)) (starts (hop_at hops 0)) (stage_after T hops) j k w.0 w.1 in
      let q : spots_on (take (suc j) hops) (reverse (k ∷ w.0)) ≡ spots_on (take j hops) (reverse w.0) ++ (spot_at (hop_at hops j) k ∷ []) =
      ap (spots_on (take (suc j) hops)) (reverse-cons k w.0)
      ∙ subst (λ (m : ℕ). spots_on (take (suc m) hops) (reverse w.0 ++ (k ∷ [])) ≡ spots_on (take m hops) (reverse w.0) ++ (spot_at (hop_at hops m) k ∷ [])) long (spots_last hops (reverse w.0) k (omega (arith, long))) in
      (spots_on (take j hops) (reverse w.0), subst (IsSchedule (take (suc j) hops)) q r)

  module _ (j : ℕ) (x : Spot) (xs : List Spot) (l : j < length hops) (s : IsSchedule (take (suc j) hops) (xs ++ (x ∷ []))) where
    few : length xs ≡ j
    few = omega (arith, schedule_long (take (suc j) hops) (xs ++ (x ∷ [])) s, length-append xs (x ∷ []), length-take-le (suc j) hops l)

    ends_on : IsOn (hop_at hops j) x
    ends_on =
        subst (λ (h : Hop). IsOn h x) (get_or-take (suc j) hops j no_hop (omega arith))
        (subst (IsOn (get_or (take (suc j) hops) j no_hop)) (ap (λ (m : ℕ). get_or (xs ++ (x ∷ [])) m no_spot) (sym few) ∙ at_end xs x no_spot)
        (schedule_on (take (suc j) hops) (xs ++ (x ∷ [])) s j (omega (arith, length-take-le (suc j) hops l))))

    schedule_ends : (p : List ℕ) × Leads (up_to j) (node_at (hop_at hops j) x) p
    schedule_ends =
        let before : List ℕ = nodes_on (take j hops) xs in
        let q : reverse (nodes_on (take (suc j) hops) (xs ++ (x ∷ []))) ≡ node_at (hop_at hops j) x ∷ reverse before =
        ap reverse (subst (λ (m : ℕ). nodes_on (take (suc m) hops) (xs ++ (x ∷ [])) ≡ nodes_on (take m hops) xs ++ (node_at (hop_at hops m) x ∷ [])) few (nodes_last hops xs x (omega (arith, few))))
        ∙ reverse-append before (node_at (hop_at hops j) x ∷ []) in
        let p : IsPath (route_trellis T (take (suc j) hops)) (node_at (hop_at hops j) x ∷ reverse before) =
        subst (IsPath (route_trellis T (take (suc j) hops))) q ((schedules_paths T (take (suc j) hops)).path (xs ++ (x ∷ [])) s) in
        (reverse before, subst (λ (t : Trellis). IsPath t (node_at (hop_at hops j) x ∷ reverse before)) (first_hops T hops j l) p)

-- THE COUNT IS THE NUMBER OF THE TRANSITIONS CONSIDERED
module _ (T : ℕ) (h : Hop) (hs : List Hop) where
  abbrev hops : List Hop
  hops = h ∷ hs

  abbrev start : Trellis
  start = entry (nodes h) (starts h)

  -- a step as a transition, and a transition as a step
  named : Step → Transition
  named x = record { hop = x.hop; from = spot_at (hop_at hops x.hop) x.from; to = spot_at (hop_at hops (suc x.hop)) x.to }

  noded : Transition → Step
  noded t = record { hop = t.hop; from = node_at (hop_at hops t.hop) t.from; to = node_at (hop_at hops (suc t.hop)) t.to }

  same_step : (x : Step) → noded (named x) ≡ x
  unfolding noded named
  same_step x = ap₂ (λ (a b : ℕ). record { hop = x.hop; from = a; to = b }) (node_back (hop_at hops x.hop) x.from) (node_back (hop_at hops (suc x.hop)) x.to)

  from_on : (t : Transition) → IsConsidered hops t → IsOn (hop_at hops t.hop) t.from
  from_on t c = ends_on T hops t.hop t.from c.before (omega (arith, c.later)) c.ends

  same_transition : (t : Transition) → IsConsidered hops t → named (noded t) ≡ t
  unfolding noded named
  same_transition t c =
      ap₂ (λ (a b : Spot). record { hop = t.hop; from = a; to = b }) (spot_back (hop_at hops t.hop) t.from (from_on t c).1) (spot_back (hop_at hops (suc t.hop)) t.to c.on.1)

  is_considered : (x : Step) → IsStep start (stage_after T hops) (length hs) x → IsConsidered hops (named x)
  unfolding named
  is_considered x s =
      let w = ends_schedule T hops x.hop x.from (omega (arith, s.stage)) s.reaches in
      record { later = omega (arith, s.stage); before = w.0; ends = w.1; on = spot_on (hop_at hops (suc x.hop)) x.to s.goal; allowed = s.allows }

  considered_is : (t : Transition) → IsConsidered hops t → IsStep start (stage_after T hops) (length hs) (noded t)
  unfolding noded
  considered_is t c =
      let w = schedule_ends T hops t.hop t.from c.before (omega (arith, c.later)) c.ends in
      record {
        stage = omega (arith, c.later);
        node = path_below (up_to T hops t.hop) (node_at (hop_at hops t.hop) t.from) w.0 w.1;
        goal = node_in_lem (hop_at hops (suc t.hop)) t.to c.on;
        reaches = path_ends (up_to T hops t.hop) (node_at (hop_at hops t.hop) t.from) w.0 w.1;
        allows =
            ap₂ (is_allowed (hop_at hops t.hop) (hop_at hops (suc t.hop))) (spot_back (hop_at hops t.hop) t.from (from_on t c).1) (spot_back (hop_at hops (suc t.hop)) t.to c.on.1)
            ∙ c.allowed;
      }

  abbrev all_steps : List Step
  all_steps = steps start (stage_after T hops) (length hs)

  listed_considered : (t : Transition) → Memᴰ t (map named all_steps) → IsConsidered hops t
  listed_considered t m =
      let w = Memᴰ.of_map named all_steps m in
      subst (IsConsidered hops) w.2 (is_considered w.0 (steps_are start (stage_after T hops) (length hs) w.0 w.1))

  considered_listed : (t : Transition) → IsConsidered hops t → Memᴰ t (map named all_steps)
  considered_listed t c =
      Memᴰ.cast (sym (same_transition t c)) (Memᴰ.map named (are_steps start (stage_after T hops) (length hs) (noded t) (considered_is t c)))

  route_counted : CountOf hops (transitions T hops)
  route_counted = record {
    pairs = map named all_steps;
    once = once_named named noded all_steps same_step (steps_once start (stage_after T hops) (length hs));
    each = λ t. (listed_considered t, considered_listed t);
    number = ap considered (route_ladder T h hs) ∙ steps_number start (stage_after T hops) refl (length hs) ∙ sym (length-map all_steps named);
  }

pub transitions_counted : TransitionsCounted
transitions_counted T [] = record { pairs = []; once = tt; each = λ x. (λ m. absurd (Memᴰ.not-nil m), λ c. absurd (omega (arith, c.later))); number = refl }
transitions_counted T (h ∷ hs) = route_counted T h hs

pub count_only : CountOnly
count_only _ n m c d =
    c.number
    ∙ same_members c.pairs d.pairs c.once d.once (λ x l. (d.each x).1 ((c.each x).0 l)) (λ x l. (c.each x).1 ((d.each x).0 l))
    ∙ sym d.number
