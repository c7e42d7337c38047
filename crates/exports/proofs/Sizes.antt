-- How long what is written is at most, how large a count, and which buffers always serve. Assumes nothing.
use mathlib.Core.Path.{◌≡◌, refl, ap, ◌∙◌}
use mathlib.Core.Bool.{Bool, true, false}
use mathlib.Core.List.{List, [], ◌∷◌, ◌++◌}
use Prim.Native.Nat.{ℕ, ◌^◌, ◌<◌, ◌≤◌}
use native.Mathlib.Omega.{arith}
use lib.ListN.{length, get_or, length-append}
use lib.Dec.{ltb}
use borrow.Author.Tests.{le-ltb, ltb-true}
use Rattle.lists.specs.Count.{count_below}
use Rattle.lists.proofs.Count.{count_le}
use Rattle.words.specs.Word.{bit_of, free_frames}
use Rattle.refusals.specs.Refusals.{Outcome, Ruling, given, refused, pass, refuse_if, refused_or, on_given}
use Rattle.numbers.specs.Numbers.{IsBytes}
use Rattle.network.specs.Network.{Topology}
use Rattle.network.specs.Checks.{network_check}
use Rattle.network.proofs.Tests.{frames_passed}
use Rattle.network_file.specs.Reading.{read_network}
use Rattle.network_file.specs.Lent.{in_room}
use Rattle.network_file.specs.Writing.{image_of, write_network}
use Rattle.network_file.proofs.Longest.{image_bound}
use Rattle.ledger.specs.Sessions.{Session, View, link_at, free_of}
use Rattle.ledger.specs.Routes.{unknown}
use Rattle.ledger.specs.Sound.{intact, broken_check}
use Rattle.ledger.specs.Calls.{lookup, free_count}
use Rattle.ledger.specs.Ways.{ways_of}
use Rattle.ledger.specs.Demand.{fresh}
use Rattle.ledger.proofs.Intact.{intact_is, frame_each, cycle_each}
use Rattle.ledger.proofs.Shown.{shown_good}
use Rattle.call_records.specs.Records.{calls_in, counted}
use Rattle.call_records.specs.Served.{view_after_all}
use Rattle.routes.proofs.Tests.{known_passed}
use Rattle.routes.proofs.Links.{link_passed}
use Rattle.sessions.proofs.Surveying.{ways_bounded}
use Rattle.report.specs.Transcript.{transcript}
use Rattle.report.specs.Reports.{text_bound, reported}
use Rattle.report.proofs.Bound.{text_bound_lem}
use Rattle.report.proofs.Numbers.{plain_other, file_number, network_number, lookup_number, ways_number}
use Rattle.report.proofs.Whole.{bound_most}
use Rattle.exports.specs.Exported.{state_after, session_numbers, lookup_after, free_after, ways_after, written_again, links_from, written_of, AnswersSized, ValuesSized}
use Rattle.exports.proofs.Answers.{after_intact}
use Rattle.exports.proofs.After.{few_hops}

-- what is written where there is room, and that there is none
room_gives : (b : Bool) (x y : List ℕ) → refused_or (refuse_if b 20) (given x) ≡ given y → x ≡ y
room_gives true x y e = let z : ◌≡◌ {A = ℕ} 0 1 = cc in cc
room_gives false x y e = cc

-- 20 comes only where the buffer is shorter
room_short : (least room : ℕ) (x : List ℕ) → in_room least room x ≡ refused 20 → room < least
room_short least room x e = go (ltb room least) refl e
  where
    go : (b : Bool) → ltb room least ≡ b → refused_or (refuse_if b 20) (given x) ≡ refused 20 → room < least
    go true q f = ltb-true room least q
    go false q f = let z : ◌≡◌ {A = ℕ} 0 1 = cc in omega arith

-- ---- an image
module _ (t : Topology) (room : ℕ) where
  image_sized : (x : List ℕ) → write_network t room ≡ given x → length x ≤ 387
  unfolding write_network
  image_sized x e = go (network_check t) refl e
    where
      go : (r : Ruling) → network_check t ≡ r → refused_or r (in_room (length (image_of t)) room (image_of t)) ≡ given x → length x ≤ 387
      go (given pass) q f = omega (arith, image_bound t q, ap length (room_gives (ltb room (length (image_of t))) (image_of t) x f))
      go (refused n) q f = let z : ◌≡◌ {A = ℕ} 0 1 = cc in omega arith

  image_served : 387 ≤ room → write_network t room ≡ refused 20 → ⊥
  unfolding write_network
  image_served h e = go (network_check t) refl e
    where
      go : (r : Ruling) → network_check t ≡ r → refused_or r (in_room (length (image_of t)) room (image_of t)) ≡ refused 20 → ⊥
      go (given pass) q f = omega (arith, image_bound t q, room_short (length (image_of t)) room (image_of t) f, h)
      go (refused n) q f =
          let is : n ≡ 20 = cc in
          plain_other n (network_number t n q) is

pub values_sized : ValuesSized
unfolding written_of
values_sized T ks zs cs ys room = (image_sized (record { ticks = T; links = links_from ks zs cs ys }) room, image_served (record { ticks = T; links = links_from ks zs cs ys }) room)

module _ (file : List ℕ) (room : ℕ) where
  again_sized : (x : List ℕ) → written_again file room ≡ given x → length x ≤ 387
  unfolding written_again
  again_sized x e = go (read_network file) e
    where
      go : (o : Outcome Topology) → on_given o (λ t. write_network t room) ≡ given x → length x ≤ 387
      go (given t) f = image_sized t room x f
      go (refused n) f = let z : ◌≡◌ {A = ℕ} 0 1 = cc in omega arith

  again_served_lem : 387 ≤ room → written_again file room ≡ refused 20 → ⊥
  unfolding written_again
  again_served_lem h e = go (read_network file) refl e
    where
      go : (o : Outcome Topology) → read_network file ≡ o → on_given o (λ t. write_network t room) ≡ refused 20 → ⊥
      go (given t) q f = image_served t room h f
      go (refused n) q f =
          let is : n ≡ 20 = cc in
          plain_other n (file_number file n q) is

-- ---- a session
numbers_few : (v : View) (number : ℕ) (s : Session) → lookup v number ≡ given s → length (session_numbers s) ≤ 26
numbers_few v number s q =
    let good = shown_good v number s q in
    omega (
      arith,
      few_hops v number s q,
      frame_each v.network s good,
      cycle_each v.network s good,
      length-append s.route (s.held.frames ++ s.held.cycles),
      length-append s.held.frames s.held.cycles,
    )

free_few : (v : View) (link n : ℕ) → intact v ≡ true → free_count v link ≡ given n → n ≤ 64
unfolding free_count free_frames
free_few v link n i e = go (broken_check v) (unknown (length v.network.links) link) refl e
  where
    go : (r : Ruling) (b : Bool) → unknown (length v.network.links) link ≡ b
        → refused_or r (refused_or (refuse_if b 13) (given (count_below (link_at v.network link).frames (bit_of (free_of v.network v.live link 0))))) ≡ given n → n ≤ 64
    go (refused k) b q f = let z : ◌≡◌ {A = ℕ} 0 1 = cc in omega arith
    go (given pass) true q f = let z : ◌≡◌ {A = ℕ} 0 1 = cc in omega arith
    go (given pass) false q f =
        let frames : ℕ = (link_at v.network link).frames in
        let good = link_passed v.network link (intact_is v i).network (known_passed (length v.network.links) link q) in
        let is : count_below frames (bit_of (free_of v.network v.live link 0)) ≡ n = cc in
        omega (arith, is, count_le frames (bit_of (free_of v.network v.live link 0)), (frames_passed v.network.ticks frames good.frames).1)

-- ---- on the state after call records
module _ (file calls : List ℕ) (bytes : IsBytes file) where
  -- it is given, or it is refused as the file is
  after_number : (n : ℕ) → state_after file calls ≡ refused n → n ≡ 20 → ⊥
  unfolding state_after
  after_number n e = go (read_network file) refl e
    where
      go : (o : Outcome Topology) → read_network file ≡ o → on_given o (λ net. given (view_after_all (fresh net) (calls_in (counted calls)))) ≡ refused n → n ≡ 20 → ⊥
      go (given net) q f = let z : ◌≡◌ {A = ℕ} 0 1 = cc in absurd (omega arith)
      go (refused k) q f =
          let is : k ≡ n = cc in
          λ e. plain_other k (file_number file k q) (is ∙ e)

  -- what is put into a buffer of what a call on it gives, by its numbers
  module _ {A : Type 0} (call : View → Outcome A) (numbers : A → List ℕ) (room : ℕ) where
    abbrev put : View → Outcome (List ℕ)
    put v = on_given (call v) (λ a. in_room (length (numbers a)) room (numbers a))

    record Gives (x : List ℕ) : Type 0 where
      pub view : View
      pub what : A
      pub is : call view ≡ given what
      pub puts : numbers what ≡ x

    put_given : (x : List ℕ) → on_given (state_after file calls) put ≡ given x → Gives x
    put_given x e = go (state_after file calls) e
      where
        at : (v : View) (o : Outcome A) → call v ≡ o → on_given o (λ a. in_room (length (numbers a)) room (numbers a)) ≡ given x → Gives x
        at v (given a) q f = record { view = v; what = a; is = q; puts = room_gives (ltb room (length (numbers a))) (numbers a) x f }
        at v (refused n) q f = let z : ◌≡◌ {A = ℕ} 0 1 = cc in absurd (omega arith)

        go : (o : Outcome View) → on_given o put ≡ given x → Gives x
        go (given v) f = at v (call v) refl f
        go (refused n) f = let z : ◌≡◌ {A = ℕ} 0 1 = cc in absurd (omega arith)

    put_served : (most : ℕ) → ((v : View) (a : A) → call v ≡ given a → length (numbers a) ≤ most) → ((v : View) (n : ℕ) → call v ≡ refused n → n ≡ 20 → ⊥)
        → most ≤ room → on_given (state_after file calls) put ≡ refused 20 → ⊥
    put_served most few other h e = go (state_after file calls) refl e
      where
        at : (v : View) (o : Outcome A) → call v ≡ o → on_given o (λ a. in_room (length (numbers a)) room (numbers a)) ≡ refused 20 → ⊥
        at v (given a) q f = omega (arith, few v a q, room_short (length (numbers a)) room (numbers a) f, h)
        at v (refused n) q f = let is : n ≡ 20 = cc in other v n q is

        go : (o : Outcome View) → state_after file calls ≡ o → on_given o put ≡ refused 20 → ⊥
        go (given v) q f = at v (call v) refl f
        go (refused n) q f = let is : n ≡ 20 = cc in after_number n q is

  session_sized : (number room : ℕ) (x : List ℕ) → lookup_after file calls number room ≡ given x → length x ≤ 26
  unfolding lookup_after
  session_sized number room x e =
      let g = put_given (λ v. lookup v number) session_numbers room x e in
      omega (arith, numbers_few g.view number g.what g.is, ap length g.puts)

  session_served_lem : (number room : ℕ) → 26 ≤ room → lookup_after file calls number room ≡ refused 20 → ⊥
  unfolding lookup_after
  session_served_lem number room h e =
      put_served (λ v. lookup v number) session_numbers room 26 (λ v. numbers_few v number) (λ v n q. plain_other n (lookup_number v number n q)) h e

  free_sized : (link n : ℕ) → free_after file calls link ≡ given n → n ≤ 64
  unfolding free_after
  free_sized link n e = go (state_after file calls) refl e
    where
      go : (o : Outcome View) → state_after file calls ≡ o → on_given o (λ v. free_count v link) ≡ given n → n ≤ 64
      go (given v) q f = free_few v link n (after_intact file calls bytes v q) f
      go (refused k) q f = let z : ◌≡◌ {A = ℕ} 0 1 = cc in omega arith

  ways_sized : (route : List ℕ) (room : ℕ) (x : List ℕ) → ways_after file calls route room ≡ given x → (length x ≡ 1) × (get_or x 0 0 ≤ 64 ^ 8)
  unfolding ways_after
  ways_sized route room x e =
      let g = put_given (λ v. ways_of v route) (λ n. n ∷ []) room x e in
      rw (← g.puts) (refl, ways_bounded g.view route g.what g.is)

  ways_served_lem : (route : List ℕ) (room : ℕ) → 1 ≤ room → ways_after file calls route room ≡ refused 20 → ⊥
  unfolding ways_after
  ways_served_lem route room h e = put_served (λ v. ways_of v route) (λ n. n ∷ []) room 1 (λ v n q. omega arith) (λ v n q. plain_other n (ways_number v route n q)) h e

  text_sized : (room : ℕ) (x : List ℕ) → reported file calls room ≡ given x → length x ≤ 720918
  unfolding reported
  text_sized room x e = omega (arith, text_bound_lem file calls bytes, bound_most (length calls), ap length (room_gives (ltb room (text_bound (length calls))) (transcript file calls) x e))

  text_served_lem : (room : ℕ) → 720918 ≤ room → reported file calls room ≡ given (transcript file calls)
  unfolding reported
  text_served_lem room h = rw (le-ltb room (text_bound (length calls)) (omega (arith, bound_most (length calls), h)))

-- EVERY ANSWER BELOW 1,000,000 IS A LENGTH OR A COUNT, and which buffers always serve
pub answers_sized : AnswersSized
answers_sized file calls bytes = record {
  text = text_sized file calls bytes;
  text_served = text_served_lem file calls bytes;
  session = session_sized file calls bytes;
  session_served = session_served_lem file calls bytes;
  free = free_sized file calls bytes;
  ways = ways_sized file calls bytes;
  ways_served = ways_served_lem file calls bytes;
  again = again_sized file;
  again_served = again_served_lem file;
}
