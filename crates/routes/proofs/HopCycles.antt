-- The cycles of a schedule, one hop after the other. Assumes nothing.
use mathlib.Core.Path.{◌≡◌, refl, sym, ap, ap₂, subst, ◌∙◌}
use mathlib.Core.List.{List, [], ◌∷◌, ◌++◌, append-nil, append_assoc}
use Prim.Native.Nat.{ℕ, ◌+◌, ◌-◌, ◌<◌, ◌≤◌}
use native.Mathlib.Omega.{arith}
use lib.ListN.{length, get_or, drop, drop_of_length-le, set, replicate, length-append}
use lib.Seq.{get_or-set_same}
use Rattle.std.proofs.lemmas.List.{drop_more}
use Rattle.places.specs.Places.{firsts}
use Rattle.places.proofs.Firsts.{length_firsts, get_d_firsts, next_first, firsts_more}
use Rattle.forwarding.specs.declared.Hop.{Hop}
use Rattle.forwarding.specs.Forwarding.{Spot}
use Rattle.forwarding.specs.Hops.{no_hop, Ready}
use Rattle.forwarding.specs.Schedule.{frames_of, IsSchedule}
use Rattle.forwarding.specs.Cycles.{next_cycle, onward_cycles, schedule_cycles}
use Rattle.forwarding.proofs.Holds.{least_in}
use Rattle.forwarding.proofs.Schedules.{schedule_frame}
use Rattle.forwarding.proofs.Cycles.{next_or_same}
use Rattle.routes.specs.Inner.{FramesLaid}

-- the cycles of the hops before j are stored, the last of them that of hop i
pub record CyclesSoFar (hops : List Hop) (frames cycles : List ℕ) (i j : ℕ) : Type 0 where
  pub next : i + 1 ≡ j
  pub small : get_or cycles i 0 < j
  pub done : List ℕ
  pub many : length done ≡ j
  pub stored : cycles ≡ firsts 8 done 0
  pub same : schedule_cycles hops (firsts (length hops) frames 0)
      ≡ done ++ onward_cycles (get_or hops i no_hop) (get_or frames i 0) (get_or cycles i 0) (drop j hops) (drop j (firsts (length hops) frames 0))

module _ (hops : List Hop) (frames : List ℕ) (r : FramesLaid hops frames (length hops)) where
  pub first_cycle : CyclesSoFar hops frames (replicate 8 0) 0 1
  unfolding firsts
  first_cycle = record {
    next = refl;
    small = omega arith;
    done = 0 ∷ [];
    many = refl;
    stored = refl;
    same = ap₂ schedule_cycles (drop_more hops 0 no_hop r.some_hop) (next_first (length hops) 0 frames 0 r.some_hop);
  }

  module _ (cycles : List ℕ) (i j : ℕ) (p : CyclesSoFar hops frames cycles i j) where
    module _ (h : j < length hops) (k : ℕ) (ek : k ≡ get_or frames i 0) (m : ℕ) (em : m ≡ get_or frames j 0) (d : ℕ) (ed : d ≡ next_cycle (get_or hops i no_hop) (get_or hops j no_hop) k m (get_or cycles i 0)) where
      last : get_or (set cycles j d) j 0 ≡ d
      last = get_or-set_same cycles j d 0 (omega (arith, ap length p.stored, length_firsts 8 p.done 0, r.few_hops))

      pub one_cycle : CyclesSoFar hops frames (set cycles j d) (j + 1 - 1) (j + 1)
      one_cycle = subst (λ (x : ℕ). CyclesSoFar hops frames (set cycles j d) x (j + 1)) {x = j} {y = j + 1 - 1} (omega arith) (record {
        next = refl;
        small = rw last (omega (arith, ed, p.small, (next_or_same (get_or hops i no_hop) (get_or hops j no_hop) k m (get_or cycles i 0)).1));
        done = p.done ++ (d ∷ []);
        many = omega (arith, length-append p.done (d ∷ []), p.many);
        stored = ap (λ (l : List ℕ). set l j d) p.stored ∙ firsts_more 8 j p.done d 0 p.many (omega (arith, r.few_hops));
        same = p.same ∙ rw (drop_more hops j no_hop h, next_first (length hops) j frames 0 h, ← ek, ← em, ← ed, last) (sym (append_assoc p.done (d ∷ []) _));
      })

    pub all_cycles : length hops ≤ j → cycles ≡ firsts 8 (schedule_cycles hops (firsts (length hops) frames 0)) 0
    all_cycles h = p.stored ∙ ap (λ (l : List ℕ). firsts 8 l 0) (sym (p.same ∙ rw (drop_of_length-le hops {i = j} h, append-nil p.done)))

-- the frames of a schedule over the hops
pub schedule_laid : (T : ℕ) (hops : List Hop) (frames : List ℕ) (xs : List Spot) → Ready T hops (length hops) → frames_of xs ≡ firsts (length hops) frames 0 → IsSchedule hops xs
    → FramesLaid hops frames (length hops)
schedule_laid T hops frames xs r e s = record {
  some_hop = r.some_hop;
  few_hops = r.few_hops;
  few_frames = λ j h. (r.each j h).few_frames;
  led = λ j h. least_in T (get_or hops j no_hop) (r.each j h);
  inside = λ j h.
      rw (e, get_d_firsts (length hops) j frames 0 h) at (schedule_frame hops xs s j h);
}
