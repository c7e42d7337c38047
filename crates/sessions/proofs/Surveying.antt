-- The number of ways, at the call: what it counts, when it is 0, when it is refused, and what it is where nothing is taken. Assumes nothing.
use mathlib.Core.Path.{◌≡◌, refl, sym, ap, ap₂, ◌∙◌}
use mathlib.Core.Bool.{true}
use mathlib.Core.List.{List, [], ◌∷◌}
use mathlib.Core.Logic.{◌↔◌}
use Prim.Native.Nat.{ℕ, zero, suc, ◌^◌, ◌≤◌}
use native.Mathlib.Omega.{arith}
use borrow.Author.Tests.{ne_eqb}
use lib.ListN.{get_or, length-map, replicate}
use Rattle.std.specs.Prelude.{Result, Ok, Err}
use Rattle.refusals.specs.Refusals.{refusal_number, refusal_count, Outcome, Ruling, given, refused, pass}
use Rattle.refusals.specs.declared.Refusal.{Refusal}
use Rattle.refusals.specs.declared.Refusal.TheVariants.{NoSchedule}
use Rattle.refusals.proofs.Refusals.{refusal_only, uncounted}
use Rattle.words.proofs.Bits.{bit_zero}
use Rattle.network.specs.Network.{no_link, topology_of}
use Rattle.places.specs.Places.{firsts}
use Rattle.network.specs.Checks.{bad_count, bad_cycle, bad_frames, bad_range, bad_least, bad_closed, link_check, links_check, network_check}
use Rattle.network.specs.declared.Link.{Link}
use Rattle.network.specs.declared.Network.{Network}
use Rattle.forwarding.specs.Forwarding.{least_hold, choices}
use Rattle.forwarding.specs.Ways.{route_ways, open_ways}
use Rattle.forwarding.proofs.Ways.{ways_only, ways_open}
use Rattle.forwarding.proofs.Narrow.{ways_one_colour}
use Rattle.ledger.specs.Sessions.{View, hop_of, hops_of}
use Rattle.ledger.specs.Routes.{bad_length, unknown, unknown_link, link_twice, apart, rates_apart, route_check}
use Rattle.ledger.specs.Sound.{intact}
use Rattle.ledger.specs.Calls.{Quote, Reply, schedule, freed, refusal, call_check, reply}
use Rattle.ledger.specs.Ways.{ways_of, NoneTaken}
use Rattle.ledger.specs.Demand.{fresh}
use Rattle.ledger.proofs.Intact.{intact_is, fresh_intact}
use Rattle.ledger.proofs.Ways.{ways_zero, ways_refused, ways_given, none_taken_free}
use Rattle.routes.proofs.Routes.{route_long}
use Rattle.routes.proofs.Hops.{route_all_ready, one_colour}
use Rattle.state.specs.declared.State.{State}
use Rattle.state.specs.declared.Quoted.{Quoted}
use Rattle.state.specs.State.{view_of, fresh_state, Quotes}
use Rattle.state.proofs.Replies.{fresh_shown}
use Rattle.state.specs.declared.Served.{Served}
use Rattle.sessions.specs.Calls.{begun_on, Tells}
use Rattle.sessions.specs.Ways.{Surveys, NumberListed, NumberZero, NumberRefused, NumberOpen, NumberReached}
use Rattle.sessions.proofs.Stored.{number_tells}

-- ---- an answer tells its outcome
abbrev pub Numbers : Outcome ℕ → Result ℕ Refusal → Type 0
Numbers o q = Tells (λ (n : ℕ). n) o q

told_given : (o : Outcome ℕ) (q : Result ℕ Refusal) (n : ℕ) → Numbers o q → (q ≡ Ok n) ↔ (o ≡ given n)
told_given (given m) q n t = (λ e. let z : m ≡ n = cc in ap given z, λ e. let z : m ≡ n = cc in t ∙ ap Ok z)
told_given (refused k) q n t = (λ e. let z = t.2 in cc, λ e. cc)

told_refused : (o : Outcome ℕ) (q : Result ℕ Refusal) (x : Refusal) → Numbers o q → q ≡ Err x → o ≡ refused (refusal_number x)
told_refused (given m) q x t e = cc
told_refused (refused k) q x t e =
    let w : q ≡ Err t.0 = t.2 in
    let s : t.0 ≡ x = cc in
    ap refused (sym t.1 ∙ ap refusal_number s)

refused_told : (o : Outcome ℕ) (q : Result ℕ Refusal) (x : Refusal) → Numbers o q → (refusal_number x ≡ 18 → ⊥) → o ≡ refused (refusal_number x) → q ≡ Err x
refused_told (given m) q x t h e = cc
refused_told (refused k) q x t h e =
    let z : k ≡ refusal_number x = cc in
    t.2 ∙ ap Err (number_tells (refusal_number x) t.0 x (t.1 ∙ z) refl (ne_eqb (refusal_number x) 18 h))

-- ---- and so does a quote's
quote_told : (r : Reply) (q : Result Quoted Refusal) (x : Refusal) → Quotes r q → (q ≡ Err x) ↔ (r ≡ refusal (refusal_number x) (refusal_count x))
quote_told (schedule held count) q x t = (λ e. cc, λ e. cc)
quote_told freed q x t = absurd t
quote_told (refusal k c) q x t = (
  λ e. let w : q ≡ Err t.0 = t.3 in
      let s : t.0 ≡ x = cc in
      ap₂ refusal (sym t.1 ∙ ap refusal_number s) (sym t.2 ∙ ap refusal_count s),
  λ e. let n : k ≡ refusal_number x = cc in let m : c ≡ refusal_count x = cc in t.3 ∙ ap Err (refusal_only t.0 x (t.1 ∙ n) (t.2 ∙ m)),
)

-- THE NUMBER IS 0 EXACTLY WHEN A QUOTE IS BLOCKED
pub number_zero : NumberZero
number_zero st route r q s w = (
  λ e. let b = (ways_zero (view_of st) route).0 ((told_given (ways_of (view_of st) route) r.answer 0 s.numbered).0 e) in
      (b.0, (quote_told (reply (view_of st) (Quote route)) q.answer (NoSchedule b.0) w.answer).1 b.1),
  λ (n, e). (told_given (ways_of (view_of st) route) r.answer 0 s.numbered).1
      ((ways_zero (view_of st) route).1 (n, (quote_told (reply (view_of st) (Quote route)) q.answer (NoSchedule n) w.answer).0 e)),
)

-- A CHECK REFUSES IT EXACTLY WHERE IT REFUSES A QUOTE
pub number_refused : NumberRefused
number_refused st route r q s w x = (
  λ e. let b = (ways_refused (view_of st) route (refusal_number x)).0 (told_refused (ways_of (view_of st) route) r.answer x s.numbered e) in (
    (quote_told (reply (view_of st) (Quote route)) q.answer x w.answer).1 (b.0 ∙ ap (refusal (refusal_number x)) (sym (uncounted x b.1))),
    b.1,
  ),
  λ (e, h). refused_told (ways_of (view_of st) route) r.answer x s.numbered h
      ((ways_refused (view_of st) route (refusal_number x)).1
      ((quote_told (reply (view_of st) (Quote route)) q.answer x w.answer).0 e ∙ ap (refusal (refusal_number x)) (uncounted x h), h)),
)

-- WHAT IS GIVEN IS THE LENGTH OF EVERY LIST OF ALL SCHEDULES
given_ways : (st : State) (route : List ℕ) (r : Served ℕ) (n : ℕ) → Surveys st route r → r.answer ≡ Ok n
    → (intact (view_of st) ≡ true) × (route_check (view_of st).network route ≡ given pass) × (n ≡ route_ways (hops_of (view_of st).network (view_of st).live route))
given_ways st route r n s e = ways_given (view_of st) route n ((told_given (ways_of (view_of st) route) r.answer n s.numbered).0 e)

pub number_listed : NumberListed
number_listed st route r n s e list once each = ways_only (hops_of (view_of st).network (view_of st).live route) list once each ∙ sym (given_ways st route r n s e).2

-- THE PRODUCT, where no frame of its links is closed or held
pub number_open : NumberOpen
number_open st route r n s e h =
    let g = given_ways st route r n s e in
    let v : View = view_of st in
    g.2
    ∙ ways_open v.network.ticks (hops_of v.network v.live route)
    (route_all_ready v.network v.live route (intact_is v g.0).network g.1) (one_colour v.network v.live route) (none_taken_free v route h)

-- what no number passes, on every state
pub ways_bounded : (v : View) (route : List ℕ) (n : ℕ) → ways_of v route ≡ given n → n ≤ 64 ^ 8
ways_bounded v route n e =
    let g = ways_given v route n e in
    omega (
      arith,
      g.2,
      ways_one_colour v.network.ticks (hops_of v.network v.live route) (omega (arith, length-map route (hop_of v.network v.live), (route_long v.network route g.1).1))
          (route_all_ready v.network v.live route (intact_is v g.0).network g.1) (one_colour v.network v.live route),
    )

pub told_bounded : (v : View) (route : List ℕ) (q : Result ℕ Refusal) → Numbers (ways_of v route) q → (n : ℕ) → q ≡ Ok n → n ≤ 64 ^ 8
told_bounded v route q t n e = ways_bounded v route n ((told_given (ways_of v route) q n t).0 e)

-- ---- 64 TO THE POWER 8: eight links of 64 frames, all open, each with a range of 64
abbrev open_link : Link
open_link = record { frames = 64; range = 64; least = 1; closed = 0 }

abbrev widest : Network
widest = record { ticks = 960; count = 8; links = replicate 32 open_link }

abbrev longest : List ℕ
longest = 0 ∷ 1 ∷ 2 ∷ 3 ∷ 4 ∷ 5 ∷ 6 ∷ 7 ∷ []

widest_passed : network_check (topology_of widest) ≡ given pass
unfolding topology_of firsts network_check bad_count bad_cycle links_check link_check bad_frames bad_range bad_least bad_closed
widest_passed = refl

longest_passed : route_check (topology_of widest) longest ≡ given pass
unfolding topology_of firsts route_check bad_length unknown_link unknown link_twice rates_apart apart
longest_passed = refl

all_open : open_ways (hops_of (topology_of widest) [] longest) ≡ 64 ^ 8
unfolding topology_of firsts choices least_hold
all_open = refl

-- no frame is closed
open_links : (n m l : ℕ) → (get_or (firsts n (replicate m open_link) no_link) l no_link).closed ≡ 0
unfolding firsts
open_links zero m l = refl
open_links (suc n) zero zero = refl
open_links (suc n) zero (suc l) = open_links n zero l
open_links (suc n) (suc m) zero = refl
open_links (suc n) (suc m) (suc l) = open_links n m l

none_taken : NoneTaken (fresh (topology_of widest)) longest
none_taken l i c m below on = (unfold topology_of in rw (open_links 8 32 l) (bit_zero i), refl)

widest_ways : ways_of (fresh (topology_of widest)) longest ≡ given (64 ^ 8)
unfolding ways_of call_check
widest_ways =
    rw (fresh_intact (topology_of widest) widest_passed, longest_passed)
    (ap given
    (ways_open (topology_of widest).ticks (hops_of (topology_of widest) [] longest) (route_all_ready (topology_of widest) [] longest widest_passed longest_passed)
    (one_colour (topology_of widest) [] longest) (none_taken_free (fresh (topology_of widest)) longest none_taken)
    ∙ all_open))

pub number_reached : NumberReached
number_reached = (
  widest,
  (
    longest,
    λ b r begins s. (told_given (ways_of (view_of b.state) longest) r.answer (64 ^ 8) s.numbered).1
        (ap (λ (st : State). ways_of (view_of st) longest) (begins.state ∙ ap (λ (o : Ruling). fresh_state (begun_on o widest)) widest_passed)
        ∙ ap (λ (v : View). ways_of v longest) (fresh_shown widest) ∙ widest_ways),
  ),
)
