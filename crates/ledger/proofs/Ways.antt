-- The number of ways beside a quote on the same state: 0 exactly when it is blocked, refused exactly when a check refuses it. Assumes nothing.
use mathlib.Core.Path.{◌≡◌, refl, ◌∙◌, ap}
use mathlib.Core.Bool.{Bool, true, false, not}
use mathlib.Core.List.Memᴰ
use mathlib.Core.List.{List, [], ◌∷◌}
use mathlib.Core.Logic.{◌↔◌}
use Prim.Native.Nat.{ℕ}
use native.Mathlib.Omega.{arith}
use borrow.Author.Tests.{lt-ltb}
use Rattle.trellis.specs.Answer.{found, blocked}
use Rattle.trellis.specs.Answer as trellis
use Rattle.refusals.specs.Refusals.{Ruling, given, refused, pass, refuse_if, refused_or}
use Rattle.forwarding.specs.declared.Hop.{Hop}
use Rattle.forwarding.specs.Forwarding.{Spot, IsOn, is_free}
use Rattle.forwarding.specs.Route.{route_answer}
use Rattle.forwarding.specs.Ways.{route_ways, EveryFrameFree}
use Rattle.forwarding.proofs.Ways.{ways_blocked}
use Rattle.ledger.specs.Sessions.{View, link_at, hop_of, hops_of}
use Rattle.ledger.specs.Routes.{route_check}
use Rattle.ledger.specs.Sound.{intact}
use Rattle.ledger.specs.Calls.{Quote, refusal, reply_of, answer_over, unless, call_check, checks_of, granted, reply}
use Rattle.ledger.specs.Ways.{ways_of, WaysZero, WaysRefused, NoneTaken}
use Rattle.ledger.proofs.Free.{free_at_lem}
use Rattle.ledger.proofs.Refused.{not_eighteen, answer_refusal}

-- no check has the number 18
checked : (v : View) (route : List ℕ) (k : ℕ) → checks_of v (Quote route) ≡ refused k → k ≡ 18 → ⊥
checked v route k e q = go (intact v) e
  where
    go : (b : Bool) → refused_or (refuse_if (not b) 0) (call_check v.network v.live (Quote route)) ≡ refused k → ⊥
    go true g = not_eighteen v.network v.live (Quote route) k g q
    go false g = let z : k ≡ 0 = cc in omega arith

-- blocked, over the hops, is 18
answer_blocked : (T : ℕ) (hops : List Hop) (n : ℕ) → answer_over T hops ≡ refusal 18 n → route_answer T hops ≡ blocked n
answer_blocked T hops n e = go (route_answer T hops) e
  where
    go : (a : trellis.Answer Spot) → reply_of hops a ≡ refusal 18 n → a ≡ blocked n
    go (found d m w) g = let z : ◌≡◌ {A = ℕ} 0 1 = cc in absurd (omega arith)
    go (blocked m) g = let z : m ≡ n = cc in ap blocked z

-- THE NUMBER IS 0 EXACTLY WHEN THE QUOTE IS BLOCKED
pub ways_zero : WaysZero
unfolding ways_of reply granted
ways_zero v route = go (checks_of v (Quote route)) refl
  where
    T : ℕ
    T = v.network.ticks

    hops : List Hop
    hops = hops_of v.network v.live route

    go : (o : Ruling) → checks_of v (Quote route) ≡ o → (refused_or o (given (route_ways hops)) ≡ given 0) ↔ ((n : ℕ) × (unless o (answer_over T hops) ≡ refusal 18 n))
    go (given p) w = (
      λ e. let b = (ways_blocked T hops).0 (let z : route_ways hops ≡ 0 = cc in z) in (b.0, ap (reply_of hops) b.1),
      λ (n, e). ap given ((ways_blocked T hops).1 (n, answer_blocked T hops n e)),
    )
    go (refused k) w = (
      λ e. let z : ◌≡◌ {A = ℕ} 0 1 = cc in absurd (omega arith),
      λ (n, e). let z : k ≡ 18 = cc in absurd (checked v route k w z),
    )

-- A CHECK REFUSES IT EXACTLY WHERE IT REFUSES THE QUOTE
pub ways_refused : WaysRefused
unfolding ways_of reply granted
ways_refused v route k = go (checks_of v (Quote route)) refl
  where
    T : ℕ
    T = v.network.ticks

    hops : List Hop
    hops = hops_of v.network v.live route

    go : (o : Ruling) → checks_of v (Quote route) ≡ o → (refused_or o (given (route_ways hops)) ≡ refused k) ↔ ((unless o (answer_over T hops) ≡ refusal k 0) × (k ≡ 18 → ⊥))
    go (given p) w = (
      λ e. let z : ◌≡◌ {A = ℕ} 0 1 = cc in absurd (omega arith),
      λ (e, other). absurd (other (answer_refusal T hops k 0 e)),
    )
    go (refused j) w = (
      λ e. let z : j ≡ k = cc in (ap (λ (x : ℕ). refusal x 0) z, λ q. checked v route j w (z ∙ q)),
      λ (e, other). let z : j ≡ k = cc in ap refused z,
    )

-- where it is given, no check refused
pub ways_given : (v : View) (route : List ℕ) (n : ℕ) → ways_of v route ≡ given n
    → (intact v ≡ true) × (route_check v.network route ≡ given pass) × (n ≡ route_ways (hops_of v.network v.live route))
unfolding ways_of call_check
ways_given v route n e = go (intact v) (route_check v.network route) e
  where
    ways : ℕ
    ways = route_ways (hops_of v.network v.live route)

    go : (b : Bool) (o : Ruling) → refused_or (refused_or (refuse_if (not b) 0) o) (given ways) ≡ given n → (b ≡ true) × (o ≡ given pass) × (n ≡ ways)
    go true (given pass) g = (refl, refl, cc)
    go true (refused k) g = let z : ◌≡◌ {A = ℕ} 0 1 = cc in absurd (omega arith)
    go false o g = let z : ◌≡◌ {A = ℕ} 0 1 = cc in absurd (omega arith)

-- WHERE NO FRAME OF ITS LINKS IS CLOSED OR HELD each frame of each hop is free
pub none_taken_free : (v : View) (route : List ℕ) → NoneTaken v route → EveryFrameFree (hops_of v.network v.live route)
none_taken_free v [] h = tt
none_taken_free v (l ∷ ls) h = (free, none_taken_free v ls (λ m i c w. h m i c (Memᴰ.tail w)))
  where
    free : (x : Spot) → IsOn (hop_of v.network v.live l) x → is_free (hop_of v.network v.live l) x ≡ true
    free x on =
        let t = h l x.frame x.colour (Memᴰ.head refl) on.0 on.1 in
        free_at_lem v.network v.live l x on.1 ∙ rw (lt-ltb x.frame (link_at v.network l).frames on.0, t.0, t.1)
