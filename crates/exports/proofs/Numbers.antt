-- Numbers put into a buffer one after the other: the first places of an array, and a session. Assumes nothing.
use mathlib.Core.Path.{◌≡◌, refl, sym, ap, subst, ◌∙◌}
use mathlib.Core.List.{List, [], ◌∷◌, ◌++◌, append_assoc}
use Prim.Native.Nat.{ℕ, ◌+◌, ◌*◌, ◌<◌, ◌≤◌}
use native.Mathlib.Nat.{add-zero}
use native.Mathlib.Omega.{arith}
use borrow.Author.Tests.{lt-ltb, le-ltb}
use lib.ListN.{length, get_or, take, set, length-append, length-set}
use Rattle.std.specs.Prelude.{Ok, Err}
use Rattle.places.specs.Places.{firsts}
use Rattle.places.specs.Put.{put_at}
use Rattle.places.proofs.Firsts.{length_firsts, firsts_snoc, firsts_all, firsts_take}
use Rattle.places.proofs.Puts.{Grown, grown_none, grow, put_set, put_zero}
use Rattle.refusals.specs.declared.Refusal.TheVariants.{ShortBuffer}
use Rattle.refusals.specs.Refusals.{given}
use Rattle.forwarding.specs.declared.Held.{Held}
use Rattle.network_file.specs.Lent.{in_room, Writes}
use Rattle.sessions.specs.declared.Shown.{Shown}
use Rattle.exports.specs.Inner.{place_numbers}

-- ---- places put into a buffer: those before i stand there
abbrev pub Stand : List ℕ → ℕ → List ℕ → List ℕ → ℕ → Type 0
Stand bytes at before out i = Grown at before (firsts i bytes 0) out (at + i)

module _ (bytes : List ℕ) (at : ℕ) (before : List ℕ) (space : at + length bytes ≤ length before) where
  pub none_stand : Stand bytes at before before 0
  unfolding firsts
  none_stand = rw (add-zero at) (grown_none at before (omega arith))

  module _ (out : List ℕ) (i : ℕ) (d : Stand bytes at before out i) where
    pub one_stands : i < length bytes → (v : ℕ) → v ≡ get_or bytes i 0 → Stand bytes at before (set out (at + i) v) (i + 1)
    one_stands h v e =
        rw (firsts_snoc i bytes 0)
        (grow at before (firsts i bytes 0) out (at + i) d (get_or bytes i 0 ∷ []) (set out (at + i) v) (at + (i + 1)) (omega arith)
        (put_set (at + i) v out (omega (arith, d.long)) ∙ ap (λ (x : ℕ). put_at (at + i) (x ∷ []) out) e) (omega arith))

    pub all_stand : i ≤ length bytes → length bytes ≤ i → out ≡ put_at at bytes before
    all_stand l h =
        let e : i ≡ length bytes = omega arith in
        d.holds ∙ ap (λ (n : ℕ). put_at at (firsts n bytes 0) before) e ∙ ap (λ (x : List ℕ). put_at at x before) (firsts_all bytes 0)

-- ---- a session
module _ (q : Shown) where
  abbrev hops : ℕ
  hops = q.hops

  abbrev held : Held
  held = q.held

  abbrev links : List ℕ
  links = firsts hops q.route 0

  abbrev frames : List ℕ
  frames = firsts hops held.frames 0

  abbrev cycles : List ℕ
  cycles = firsts hops held.cycles 0

  pub numbers_long : length (place_numbers q) ≡ 2 + 3 * hops
  numbers_long =
      omega (
        arith,
        length-append links (frames ++ cycles),
        length-append frames cycles,
        length_firsts hops q.route 0,
        length_firsts hops held.frames 0,
        length_firsts hops held.cycles 0,
      )

  module _ (out : List ℕ) where
    -- 20
    pub short_session : length out < 2 + 3 * hops → Writes (in_room (length (place_numbers q)) (length out) (place_numbers q)) out out (Err ShortBuffer)
    short_session h = rw (lt-ltb (length out) (length (place_numbers q)) (omega (arith, numbers_long, h))) record { answer = refl; buffer = refl }

    module _ (room : 2 + 3 * hops ≤ length out) where
      abbrev two : List ℕ
      two = set (set out 0 hops) 1 held.delay.0

      one_grown : Grown 0 out (hops ∷ []) (set out 0 hops) 1
      one_grown = grow 0 out [] out 0 (grown_none 0 out (omega arith)) (hops ∷ []) (set out 0 hops) 1 (omega (arith, room)) (put_set 0 hops out (omega (arith, room))) refl

      two_grown : Grown 0 out (hops ∷ held.delay.0 ∷ []) two 2
      two_grown =
          grow 0 out (hops ∷ []) (set out 0 hops) 1 one_grown (held.delay.0 ∷ []) two 2 (omega (arith, room))
          (put_set 1 held.delay.0 (set out 0 hops) (omega (arith, room, length-set out 0 hops))) refl

      -- a list of the first `hops` places after what stands there
      group : (x d : List ℕ) (n : ℕ) → Grown 0 out x d n → n + hops ≤ 2 + 3 * hops → (places : List ℕ) → hops ≤ length places
          → (d' : List ℕ) → d' ≡ put_at n (take hops places) d → (r : ℕ) → r ≡ n + hops → Grown 0 out (x ++ firsts hops places 0) d' r
      group x d n g few places long d' e r er =
          grow 0 out x d n g (firsts hops places 0) d' r (omega (arith, few, room, length_firsts hops places 0)) (rw (firsts_take hops places 0 long) e)
          (omega (arith, er, length_firsts hops places 0))

      pub long_session : hops ≤ length q.route → hops ≤ length held.frames → hops ≤ length held.cycles
          → (o3 : List ℕ) → o3 ≡ put_at 2 (take hops q.route) two → (o4 : List ℕ) → o4 ≡ put_at (2 + hops) (take hops held.frames) o3
          → (o5 : List ℕ) → o5 ≡ put_at (2 + 2 * hops) (take hops held.cycles) o4
          → Writes (in_room (length (place_numbers q)) (length out) (place_numbers q)) out o5 (Ok (2 + 3 * hops))
      long_session l3 l4 l5 o3 e3 o4 e4 o5 e5 =
          let three : Grown 0 out (hops ∷ held.delay.0 ∷ links) o3 (2 + hops) =
          group (hops ∷ held.delay.0 ∷ []) two 2 two_grown (omega arith) q.route l3 o3 e3 (2 + hops) refl in
          let four : Grown 0 out (hops ∷ held.delay.0 ∷ (links ++ frames)) o4 (2 + 2 * hops) =
          group (hops ∷ held.delay.0 ∷ links) o3 (2 + hops) three (omega arith) held.frames l4 o4 e4 (2 + 2 * hops) (omega arith) in
          let five : Grown 0 out (place_numbers q) o5 (2 + 3 * hops) =
          subst (λ (x : List ℕ). Grown 0 out (hops ∷ held.delay.0 ∷ x) o5 (2 + 3 * hops)) (append_assoc links frames cycles)
          (group (hops ∷ held.delay.0 ∷ (links ++ frames)) o4 (2 + 2 * hops) four (omega arith) held.cycles l5 o5 e5 (2 + 3 * hops) (omega arith)) in
          rw (le-ltb (length out) (length (place_numbers q)) (omega (arith, numbers_long, room)))
          record { answer = ap given (sym numbers_long); buffer = five.holds ∙ put_zero (place_numbers q) out }
