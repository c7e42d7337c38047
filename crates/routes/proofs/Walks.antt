-- Frames over the hops of a route, one transition after the other. Assumes nothing.
use mathlib.Core.Path.{◌≡◌, refl, sym, ap, ap₂, subst, ◌∙◌}
use mathlib.Core.Bool.{Bool, true, false, cond, ◌&&◌, and_assoc}
use mathlib.Core.List.{List, ◌∷◌}
use mathlib.Core.Option.{Option, some, none}
use Prim.Native.Nat.{ℕ, ◌+◌, ◌-◌, ◌*◌, ◌<◌, ◌≤◌}
use native.Mathlib.Nat.{zero-add, add-zero, add_assoc}
use native.Mathlib.Omega.{arith}
use lib.Dec.{ltb}
use lib.ListN.{length, get_or, drop, drop_of_length-le}
use borrow.Author.Tests.{ltb-true}
use Rattle.lists.proofs.Count.{and_both}
use Rattle.std.specs.Prelude as std
use Rattle.std.proofs.lemmas.List.{drop_more}
use Rattle.places.specs.Places.{firsts}
use Rattle.places.proofs.Firsts.{next_first, no_first}
use Rattle.forwarding.specs.declared.Hop.{Hop}
use Rattle.forwarding.specs.declared.Delay.{Delay}
use Rattle.forwarding.specs.Forwarding.{Spot, is_free, hold_into, is_allowed, delay}
use Rattle.forwarding.specs.Hops.{no_hop, Ready}
use Rattle.forwarding.specs.Schedule.{in_colours, is_on, goes_on, onward_delay}
use Rattle.forwarding.proofs.Transitions.{allowed_cap}
use Rattle.routes.specs.Hops.{delay_if, walked_delay}
use Rattle.routes.specs.declared.Spot as declared
use Rattle.routes.specs.Inner.{spot_of, IsAt, step_if}
use Rattle.routes.proofs.Steps.{spot_in}

-- ---- transitions one after the other: from x on the hop g on, after a delay of c
pub delay_on : ℕ → Hop → Spot → ℕ → List Hop → List Spot → Option ℕ
delay_on T g x c hs ys = cond (goes_on g x hs ys) (some (c + onward_delay T g x hs ys)) none

first_test : (l y o : Bool) (c : ℕ) → cond (l && (y && o)) (some c) none ≡ cond (l && y) (cond o (some (0 + c)) none) none
first_test true true o c = rw (zero-add c)
first_test true false o c = refl
first_test false y o c = refl

first_frame_lem : (T : ℕ) (h : Hop) (hs : List Hop) (x : Spot) (ys : List Spot) (b : Bool) → b ≡ (is_on h x && is_free h x) → delay_if T (h ∷ hs) (x ∷ ys) ≡ cond b (delay_on T h x 0 hs ys) none
unfolding delay_on
first_frame_lem T h hs x ys b e = rw e (first_test (is_on h x) (is_free h x) (goes_on h x hs ys) (onward_delay T h x hs ys))

-- a transition, and what comes after it
module _ (T : ℕ) (g h : Hop) (x y : Spot) where
  fits : Bool
  fits = is_on h y && is_allowed g h x y

  takes : ℕ
  takes = delay T h.frames (hold_into g h x.frame y.frame)

  step_told : (d : ℕ) → some d ≡ step_if T g h x y → (fits ≡ true) × (d ≡ takes)
  unfolding step_if fits takes
  step_told d e = told fits takes e
    where
      told : (a : Bool) (w : ℕ) → some d ≡ cond a (some w) none → (a ≡ true) × (d ≡ w)
      told true w e = (refl, cc)
      told false w e = (cc, cc)

  module _ (c : ℕ) (hs : List Hop) (ys : List Spot) where
    next_frame : delay_on T g x c (h ∷ hs) (y ∷ ys) ≡ cond (fits && goes_on h y hs ys) (some (c + (takes + onward_delay T h y hs ys))) none
    unfolding delay_on fits takes
    next_frame = rw (and_assoc (is_on h y) (is_allowed g h x y) (goes_on h y hs ys))

    stop : none ≡ step_if T g h x y → delay_on T g x c (h ∷ hs) (y ∷ ys) ≡ none
    unfolding step_if fits takes
    stop e = next_frame ∙ off fits (goes_on h y hs ys) takes (c + (takes + onward_delay T h y hs ys)) e
      where
        off : (a o : Bool) (w x : ℕ) → none ≡ cond a (some w) none → cond (a && o) (some x) none ≡ none
        off true o w x e = cc
        off false o w x e = refl

    go_on : (d : ℕ) → some d ≡ step_if T g h x y → delay_on T g x c (h ∷ hs) (y ∷ ys) ≡ delay_on T h y (c + d) hs ys
    unfolding delay_on
    go_on d e = let t = step_told d e in next_frame ∙ rw (t.0, ← t.1, add_assoc c d)

-- ---- the frames before hop j are a schedule so far, the last of them on hop i
pub record Along (T : ℕ) (hops : List Hop) (frames colours : List ℕ) (c i j : ℕ) : Type 0 where
  pub next : i + 1 ≡ j
  pub inside : get_or frames i 0 < (get_or hops i no_hop).frames
  pub small : c + 960 ≤ 960 * j
  pub same : delay_if T hops (in_colours (firsts (length hops) frames 0) (firsts (length hops) colours 0))
      ≡ delay_on T (get_or hops i no_hop) (record { frame = get_or frames i 0; colour = get_or colours i 0 }) c (drop j hops) (in_colours (drop j (firsts (length hops) frames 0)) (drop j (firsts (length hops) colours 0)))

module _ (T : ℕ) (hops : List Hop) (frames colours : List ℕ) (r : Ready T hops (length hops)) where
  abbrev whole : Option ℕ
  whole = delay_if T hops (in_colours (firsts (length hops) frames 0) (firsts (length hops) colours 0))

  -- the spot at a place
  abbrev at : ℕ → Spot
  at j = record { frame = get_or frames j 0; colour = get_or colours j 0 }

  is_at : (j : ℕ) (x : declared.Spot) → IsAt frames colours j x → spot_of x ≡ at j
  is_at j x e = rw (e.frame, e.colour)

  module _ (x : declared.Spot) (ex : IsAt frames colours 0 x) (b : Bool) (eb : b ≡ (is_on (get_or hops 0 no_hop) (spot_of x) && is_free (get_or hops 0 no_hop) (spot_of x))) where
    free : b ≡ (is_on (get_or hops 0 no_hop) (at 0) && is_free (get_or hops 0 no_hop) (at 0))
    free = eb ∙ ap (λ (y : Spot). is_on (get_or hops 0 no_hop) y && is_free (get_or hops 0 no_hop) y) (is_at 0 x ex)

    begins : whole ≡ cond b (delay_on T (get_or hops 0 no_hop) (at 0) 0 (drop 1 hops) (in_colours (drop 1 (firsts (length hops) frames 0)) (drop 1 (firsts (length hops) colours 0)))) none
    begins =
        ap₂ (delay_if T) (drop_more hops 0 no_hop r.some_hop) (ap₂ in_colours (next_first (length hops) 0 frames 0 r.some_hop) (next_first (length hops) 0 colours 0 r.some_hop))
        ∙ first_frame_lem T (get_or hops 0 no_hop) (drop 1 hops) (at 0) (in_colours (drop 1 (firsts (length hops) frames 0)) (drop 1 (firsts (length hops) colours 0))) b free

    pub first_unfit : b ≡ false → none ≡ whole
    first_unfit g = sym (begins ∙ rw g)

    pub first_along : b ≡ true → Along T hops frames colours 0 0 1
    first_along g = record {
      next = refl;
      inside = (spot_in (get_or hops 0 no_hop) (at 0) b free g).0;
      small = omega arith;
      same = begins ∙ rw g;
    }

  module _ (c i j : ℕ) (p : Along T hops frames colours c i j) where
    module _ (h : j < length hops) (x : declared.Spot) (ex : IsAt frames colours i x) (y : declared.Spot) (ey : IsAt frames colours j y) (v : std.Option Delay)
        (ev : walked_delay v ≡ step_if T (get_or hops i no_hop) (get_or hops j no_hop) (spot_of x) (spot_of y)) where
      abbrev later : List Spot
      later = in_colours (drop (j + 1) (firsts (length hops) frames 0)) (drop (j + 1) (firsts (length hops) colours 0))

      stepped : walked_delay v ≡ step_if T (get_or hops i no_hop) (get_or hops j no_hop) (at i) (at j)
      stepped = ev ∙ ap₂ (step_if T (get_or hops i no_hop) (get_or hops j no_hop)) (is_at i x ex) (is_at j y ey)

      here : whole ≡ delay_on T (get_or hops i no_hop) (at i) c (get_or hops j no_hop ∷ drop (j + 1) hops) (at j ∷ later)
      here = p.same ∙ rw (drop_more hops j no_hop h, next_first (length hops) j frames 0 h, next_first (length hops) j colours 0 h)

      pub no_step : v ≡ std.None → none ≡ whole
      no_step e = sym (here ∙ stop T (get_or hops i no_hop) (get_or hops j no_hop) (at i) (at j) c (drop (j + 1) hops) later (sym (ap walked_delay e) ∙ stepped))

      module _ (d : Delay) (e : v ≡ std.Some d) where
        step_is : some d.0 ≡ step_if T (get_or hops i no_hop) (get_or hops j no_hop) (at i) (at j)
        step_is = sym (ap walked_delay e) ∙ stepped

        lasts : (get_or frames j 0 < (get_or hops j no_hop).frames) × (d.0 ≤ 960)
        unfolding fits takes
        lasts =
            let u = step_told T (get_or hops i no_hop) (get_or hops j no_hop) (at i) (at j) d.0 step_is in
            let a = and_both (is_on (get_or hops j no_hop) (at j)) (is_allowed (get_or hops i no_hop) (get_or hops j no_hop) (at i) (at j)) u.0 in
            let o = and_both (ltb (at j).frame (get_or hops j no_hop).frames) (ltb (at j).colour (get_or hops j no_hop).colours) a.0 in (
              ltb-true (at j).frame (get_or hops j no_hop).frames o.0,
              omega (arith, u.1, allowed_cap T (get_or hops i no_hop) (get_or hops j no_hop) (at i) (at j) (r.each j h) a.1, r.cycle),
            )

        pub step_small : c + d.0 ≤ 6720
        step_small = omega (arith, lasts.1, p.small, r.few_hops)

        pub one_step : (w : ℕ) → w ≡ c + d.0 → Along T hops frames colours w (j + 1 - 1) (j + 1)
        one_step w ew = subst (λ (m : ℕ). Along T hops frames colours w m (j + 1)) {x = j} {y = j + 1 - 1} (omega arith) (record {
          next = refl;
          inside = lasts.0;
          small = omega (arith, lasts.1, p.small);
          same = rw ew (here ∙ go_on T (get_or hops i no_hop) (get_or hops j no_hop) (at i) (at j) c (drop (j + 1) hops) later d.0 step_is);
        })

    pub all_steps : length hops ≤ j → some c ≡ whole
    unfolding delay_on
    all_steps h = sym (p.same ∙ rw (drop_of_length-le hops {i = j} h, no_first (length hops) j frames 0 h, add-zero))
