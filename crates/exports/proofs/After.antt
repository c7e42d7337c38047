-- What lookup, free frames and the number of ways answer on the state after call records. Assumes nothing.
use mathlib.Core.Path.{◌≡◌, refl, sym, ap, ◌∙◌}
use mathlib.Core.List.{List, [], ◌∷◌}
use Prim.Native.Nat.{ℕ, ◌≤◌}
use lib.ListN.{length}
use Rattle.std.specs.Prelude.{Result, Ok, Err}
use Rattle.places.proofs.Firsts.{so_many_back}
use Rattle.refusals.specs.declared.Refusal.{Refusal}
use Rattle.refusals.specs.Refusals.{Outcome, given, refused, on_given, refusal_number, answered}
use Rattle.numbers.specs.Numbers.{IsBytes}
use Rattle.network.specs.declared.Network.{Network}
use Rattle.network.specs.Network.{topology_of}
use Rattle.network_file.specs.Reading.{read_network, Reads}
use Rattle.network_file.specs.Lent.{in_room}
use Rattle.ledger.specs.Sessions.{Session, View}
use Rattle.ledger.specs.Calls.{lookup, free_count}
use Rattle.ledger.specs.Ways.{ways_of}
use Rattle.ledger.specs.Demand.{fresh}
use Rattle.ledger.proofs.Intact.{GoodSession, frame_each, cycle_each}
use Rattle.ledger.proofs.Shown.{shown_good}
use Rattle.routes.proofs.Routes.{route_long}
use Rattle.call_records.specs.Records.{calls_in, counted}
use Rattle.call_records.specs.Served.{view_after_all}
use Rattle.state.specs.declared.State.{State}
use Rattle.state.specs.declared.Served.{Served}
use Rattle.state.specs.State.{view_of}
use Rattle.sessions.specs.declared.Shown.{Shown}
use Rattle.sessions.specs.Calls.{Tells, shown_of, Looks, Tallies}
use Rattle.sessions.specs.Ways.{Surveys}
use Rattle.exports.specs.Exported.{state_after, session_numbers, lookup_after, free_after, ways_after}
use Rattle.exports.specs.Inner.{place_numbers}
use Rattle.replay.specs.Replayed.{Becomes}
use Rattle.exports.proofs.Answers.{file_refused, file_passed}

-- ---- the state
module _ (file calls : List ℕ) (l : Result Network Refusal) (reads : Reads (read_network file) l) where
  pub no_state : (r : Refusal) → l ≡ Err r → refused (refusal_number r) ≡ state_after file calls
  unfolding state_after
  no_state r e = sym (file_refused file l reads r e (λ net. given (view_after_all (fresh net) (calls_in (counted calls)))))

  pub state_shown : IsBytes file → (n : Network) → l ≡ Ok n → (st : State) → Becomes n (view_after_all (fresh (topology_of n)) (calls_in (counted calls))) st → given (view_of st) ≡ state_after file calls
  unfolding state_after
  state_shown bytes n e st b = ap given b.view ∙ sym (file_passed file l reads bytes n e (λ net. given (view_after_all (fresh net) (calls_in (counted calls)))))

-- ---- what a call tells
pub told_refused : {A B : Type 0} (of : A → B) (o : Outcome A) (q : Result B Refusal) → Tells of o q → (r : Refusal) → q ≡ Err r → o ≡ refused (refusal_number r)
told_refused of (given a) q t r e = cc
told_refused of (refused n) q t r e =
    let same : t.0 ≡ r = cc in
    ap refused (sym t.1 ∙ ap refusal_number same)

pub told_given : {A B : Type 0} (of : A → B) (o : Outcome A) (q : Result B Refusal) → Tells of o q → (b : B) → q ≡ Ok b → (a : A) × (o ≡ given a) × (b ≡ of a)
told_given of (given a) q t b e = (a, refl, cc)
told_given of (refused n) q t b e = cc

pub told_number : (o : Outcome ℕ) (q : Result ℕ Refusal) → Tells (λ (n : ℕ). n) o q → (n : ℕ) → q ≡ Ok n → o ≡ given n
told_number o q t n e =
    let s = told_given (λ n. n) o q t n e in
    s.1 ∙ ap given (sym s.2)

-- ---- a session that a lookup gives has a route that passed, and a frame and a cycle for each of its links
module _ (v : View) (n : ℕ) (s : Session) (e : lookup v n ≡ given s) where
  good : GoodSession v.network s
  good = shown_good v n s e

  pub few_hops : length s.route ≤ 8
  few_hops = (route_long v.network s.route good.route).1

  numbers_shown : place_numbers (shown_of s) ≡ session_numbers s
  numbers_shown =
      let n : ℕ = length s.route in
      rw (
        so_many_back 8 n s.route 0 refl few_hops,
        so_many_back 8 n s.held.frames 0 (frame_each v.network s good) few_hops,
        so_many_back 8 n s.held.cycles 0 (cycle_each v.network s good) few_hops,
      )

  numbers_by : (q : Shown) → q ≡ shown_of s → (room : ℕ) → on_given (lookup v n) (λ s. in_room (length (session_numbers s)) room (session_numbers s)) ≡ in_room (length (place_numbers q)) room (place_numbers q)
  numbers_by q f room = rw (e, f) (ap (λ (x : List ℕ). in_room (length x) room x) (sym numbers_shown))

-- ---- calls on the state, where there is one
module _ (file calls : List ℕ) (a : Result State Refusal) (shows : answered view_of a ≡ state_after file calls) where
  pub after_refused : (r : Refusal) → a ≡ Err r → state_after file calls ≡ refused (refusal_number r)
  after_refused r e = sym shows ∙ ap (answered view_of) e

  pub after_is : (st : State) → a ≡ Ok st → state_after file calls ≡ given (view_of st)
  after_is st e = sym shows ∙ ap (answered view_of) e

  -- lookup
  pub lookup_stopped : (r : Refusal) → a ≡ Err r → (number room : ℕ) → lookup_after file calls number room ≡ refused (refusal_number r)
  unfolding lookup_after
  lookup_stopped r e number room = rw (after_refused r e)

  module _ (st : State) (is : a ≡ Ok st) (number : ℕ) (s : Served Shown) (looks : Looks st number s) where
    pub lookup_refused : (r : Refusal) → s.answer ≡ Err r → (room : ℕ) → lookup_after file calls number room ≡ refused (refusal_number r)
    unfolding lookup_after
    lookup_refused r e room = rw (after_is st is, told_refused shown_of (lookup (view_of st) number) s.answer looks.shown r e)

    pub shown_fits : (q : Shown) → s.answer ≡ Ok q → q.hops ≤ 8
    shown_fits q e =
        let t = told_given shown_of (lookup (view_of st) number) s.answer looks.shown q e in
        rw t.2 (few_hops (view_of st) number t.0 t.1)

    pub lookup_shown : (q : Shown) → s.answer ≡ Ok q → (room : ℕ) → lookup_after file calls number room ≡ in_room (length (place_numbers q)) room (place_numbers q)
    unfolding lookup_after
    lookup_shown q e room =
        let t = told_given shown_of (lookup (view_of st) number) s.answer looks.shown q e in
        rw (after_is st is) (numbers_by (view_of st) number t.0 t.1 q t.2 room)

  -- free frames
  pub free_stopped : (r : Refusal) → a ≡ Err r → (link : ℕ) → free_after file calls link ≡ refused (refusal_number r)
  unfolding free_after
  free_stopped r e link = rw (after_refused r e)

  module _ (st : State) (is : a ≡ Ok st) (link : ℕ) (s : Served ℕ) (tallies : Tallies st link s) where
    pub free_refused : (r : Refusal) → s.answer ≡ Err r → free_after file calls link ≡ refused (refusal_number r)
    unfolding free_after
    free_refused r e = rw (after_is st is) (told_refused (λ n. n) (free_count (view_of st) link) s.answer tallies.counted r e)

    pub free_counted : (n : ℕ) → s.answer ≡ Ok n → free_after file calls link ≡ given n
    unfolding free_after
    free_counted n e = rw (after_is st is) (told_number (free_count (view_of st) link) s.answer tallies.counted n e)

  -- the number of ways
  pub ways_stopped : (r : Refusal) → a ≡ Err r → (route : List ℕ) (room : ℕ) → ways_after file calls route room ≡ refused (refusal_number r)
  unfolding ways_after
  ways_stopped r e route room = rw (after_refused r e)

  module _ (st : State) (is : a ≡ Ok st) (route : List ℕ) (s : Served ℕ) (surveys : Surveys st route s) where
    pub ways_refused : (r : Refusal) → s.answer ≡ Err r → (room : ℕ) → ways_after file calls route room ≡ refused (refusal_number r)
    unfolding ways_after
    ways_refused r e room = rw (after_is st is, told_refused (λ n. n) (ways_of (view_of st) route) s.answer surveys.numbered r e)

    pub ways_numbered : (n : ℕ) → s.answer ≡ Ok n → (room : ℕ) → ways_after file calls route room ≡ in_room 1 room (n ∷ [])
    unfolding ways_after
    ways_numbered n e room = rw (after_is st is, told_number (ways_of (view_of st) route) s.answer surveys.numbered n e)
