-- How long a text is at most. Assumes nothing.
use mathlib.Core.Path.{◌≡◌, refl, ap, ◌∙◌}
use mathlib.Core.Bool.{true}
use mathlib.Core.List.{List, [], ◌∷◌}
use Prim.Native.Nat.{ℕ, suc, ◌+◌, ◌*◌, ◌<◌, ◌≤◌, min}
use native.Mathlib.Nat.{mul-le-mul}
use native.Mathlib.Omega.{arith}
use lib.ListN.{length, get_or, take, length-append, length-map, length-take}
use Rattle.places.proofs.Firsts.{firsts_get}
use Rattle.refusals.specs.Refusals.{Ruling, Outcome, given, refused, pass}
use Rattle.network.specs.Network.{Topology}
use Rattle.network.specs.Checks.{network_check}
use Rattle.network_file.specs.Reading.{read_network}
use Rattle.network_file.proofs.RoundTrip.{read_passes}
use Rattle.forwarding.specs.declared.Hop.{Hop}
use Rattle.forwarding.specs.Forwarding.{Spot, choices}
use Rattle.forwarding.specs.Hops.{no_hop, blank_hop, AllReady}
use Rattle.forwarding.specs.Schedule.{frames_of, IsSchedule, OneColour, plain_from, CountOf}
use Rattle.forwarding.proofs.Holds.{choices_in}
use Rattle.forwarding.proofs.Schedules.{schedule_frame}
use Rattle.forwarding.proofs.Bounds.{count_bound, delay_bound, bound_one_colour}
use Rattle.forwarding.proofs.Cycles.{cycle_per_hop, cycles_bounded}
use Rattle.ledger.specs.Held.{Holding, held_over}
use Rattle.ledger.specs.Sessions.{Session, View, hops_of, hop_of}
use Rattle.ledger.specs.Routes.{route_check}
use Rattle.ledger.specs.Sound.{intact}
use Rattle.ledger.specs.Calls.{Call, links_of, SetUp, Quote, Release, Reply, freed, refusal, unless, call_check, granted, reply, next}
use Rattle.ledger.specs.Demand.{fresh, LeastOrBlocked, least, no_schedule}
use Rattle.ledger.proofs.Held.{frames_length, frames_over, cycles_over, delay_over}
use Rattle.ledger.proofs.Intact.{intact_is, fresh_intact}
use Rattle.ledger.proofs.Answered.{reply_intact, admitted, call_due}
use Rattle.ledger.proofs.Refused.{not_eighteen}
use Rattle.ledger.proofs.Kept.{next_intact}
use Rattle.routes.proofs.Hops.{route_ready, route_all_ready, one_colour}
use Rattle.call_records.specs.Records.{first_call, calls_in, counted}
use Rattle.call_records.proofs.Said.{TookBy}
use Rattle.call_records.proofs.Records.{first_took, by_records, no_calls, first_then_rest}
use Rattle.text.specs.Characters.{question_mark}
use Rattle.text.specs.Lines.{letter_of, line, live_line}
use Rattle.text.proofs.Long.{scheduled_long, freed_long, refused_long, blocked_long, live_long, network_long}
use Rattle.report.specs.Transcript.{lines_of, text_on, transcript}
use Rattle.report.specs.Reports.{text_bound, TextWithin}
use Rattle.report.proofs.Numbers.{plain_short, file_number, call_number}
use Rattle.report.proofs.Running.{lines_more, lines_none}

-- ---- a schedule's count
bound_most : (T : ℕ) (g : Hop) (hs : List Hop) → g.frames ≤ 64 → AllReady T hs → plain_from g hs ≤ 4096 * length hs
bound_most T g [] few p = omega arith
bound_most T g (h ∷ hs) few p =
    let most : choices h ≤ 64 = omega (arith, choices_in T h p.0, p.0.few_frames) in
    omega (arith, mul-le-mul {n₁ = g.frames} {m₁ = choices h} {n₂ = 64} {m₂ = 64} few most, bound_most T h hs p.0.few_frames p.1)

count_most : (T : ℕ) (hops : List Hop) (n : ℕ) → length hops ≤ 8 → AllReady T hops → OneColour hops → CountOf hops n → n < 100000
count_most T [] n l p one c = omega (arith, count_bound T [] n p c)
count_most T (h ∷ hs) n l p one c = omega (arith, count_bound T (h ∷ hs) n p c, bound_one_colour T (h ∷ hs) p one, bound_most T h hs p.0.few_frames p.1)

-- ---- the line of what is answered
module _ (net : Topology) (ss : List Session) (ok : network_check net ≡ given pass) where
  hops_long : (route : List ℕ) → length (hops_of net ss route) ≡ length route
  hops_long route = length-map route (hop_of net ss)

  -- a frame of a schedule has two digits
  frame_small : (route : List ℕ) → route_check net route ≡ given pass → (w : List Spot) → IsSchedule (hops_of net ss route) w → (i : ℕ) → i < length route → get_or (frames_of w) i 0 < 100
  frame_small route e w s i l =
      let ready = route_ready net ss route ok e in
      let hop = rw (firsts_get 8 i (hops_of net ss route) blank_hop no_hop (omega (arith, ready.few_hops)) (omega (arith, hops_long route))) at (ready.each i l) in
      omega (arith, schedule_frame (hops_of net ss route) w s i (omega (arith, hops_long route)), hop.few_frames)

  route_line : (place letter : ℕ) → place < 100000 → (route : List ℕ) → route_check net route ≡ given pass → (r : Reply) → LeastOrBlocked net.ticks (hops_of net ss route) r
      → length (line place letter r) ≤ 22 + 7 * length route
  route_line place letter h route e r (least d count w q g) =
      let hops : List Hop = hops_of net ss route in
      let p = route_all_ready net ss route ok e in
      let ready = route_ready net ss route ok e in
      let most = delay_bound net.ticks hops w ready.cycle (omega (arith, hops_long route, ready.few_hops)) p g.schedule in
      let c = count_most net.ticks hops count (omega (arith, hops_long route, ready.few_hops)) p (one_colour net ss route) g.count_is in
      let held : Holding = held_over hops d w in
      let f : length held.frames ≡ length hops = ap (λ (fs : List ℕ). length fs) (frames_over hops d w) ∙ frames_length hops w g.schedule in
      let k : length held.cycles ≡ length hops = ap (λ (cs : List ℕ). length cs) (cycles_over hops d w) ∙ cycle_per_hop hops w g.schedule in
      let frames : (i : ℕ) → i < length held.frames → get_or held.frames i 0 < 100 =
      λ i l. rw (frames_over hops d w) (frame_small route e w g.schedule i (omega (arith, l, f, hops_long route))) in
      let cycles : (i : ℕ) → i < length held.cycles → get_or held.cycles i 0 < 10 =
      λ i l. rw (cycles_over hops d w) (omega (arith, cycles_bounded hops (frames_of w) i, l, k, hops_long route, ready.few_hops)) in
      omega (arith, scheduled_long place letter held count h (omega (arith, most, g.delay_is, delay_over hops d w)) c frames cycles, f, k, hops_long route, ready.some_hop)
  route_line place letter h route e r (no_schedule count q is nowhere) =
      let ready = route_ready net ss route ok e in
      let c = count_most net.ticks (hops_of net ss route) count (omega (arith, hops_long route, ready.few_hops)) (route_all_ready net ss route ok e) (one_colour net ss route) is in
      omega (arith, blocked_long place letter count h c)

  call_line : (place letter : ℕ) → place < 100000 → (call : Call) (o : Ruling) → call_check net ss call ≡ o → length (line place letter (unless o (granted net ss call))) ≤ 22 + 7 * length (links_of call)
  call_line place letter h call (refused k) e =
      omega (arith, refused_long place letter k 0 h (plain_short k (call_number net ss call k e)) (not_eighteen net ss call k e))
  call_line place letter h (SetUp n route) (given pass) e = route_line place letter h route (admitted net ss n route e).passed _ (call_due net ss (SetUp n route))
  call_line place letter h (Quote route) (given pass) e = route_line place letter h route (unfold call_check in e) _ (call_due net ss (Quote route))
  call_line place letter h (Release n) (given pass) e =
      let q : granted net ss (Release n) ≡ freed = call_due net ss (Release n) in
      rw q (omega (arith, freed_long place letter h))

reply_line : (place letter : ℕ) → place < 100000 → (v : View) (call : Call) → intact v ≡ true → length (line place letter (reply v call)) ≤ 22 + 7 * length (links_of call)
reply_line place letter h v call e = rw (reply_intact v call e) (call_line v.network v.live (intact_is v e).network place letter h call (call_check v.network v.live call) refl)

-- ---- the lines of a run
live_most : (v : View) → intact v ≡ true → length (live_line (length v.live)) ≤ 8
live_most v e = live_long (length v.live) (omega (arith, (intact_is v e).few))

abbrev Most : List ℕ → Type 0
Most s = (place : ℕ) (v : View) → intact v ≡ true → place + length s < 100000 → length (lines_of place v (calls_in s)) ≤ 22 + 11 * length s

-- the line of a record, and the lines of those after it
module _ (rest : List ℕ) (m place : ℕ) (v : View) (e : intact v ≡ true) (h : place + m < 100000) where
  one_more : (o : Outcome Call) → TookBy 2 o rest m → Most rest → length (lines_of place v (o ∷ calls_in rest)) ≤ 22 + 11 * m
  one_more (given call) took most =
      omega (
        arith,
        ap length (lines_more place v (given call) (calls_in rest)),
        length-append (line place (letter_of call) (reply v call)) (lines_of (place + 1) (next v call) (calls_in rest)),
        reply_line place (letter_of call) (omega arith) v call e,
        took,
        most (place + 1) (next v call) (next_intact v call e) (omega (arith, took)),
      )
  one_more (refused k) took most =
      let none : lines_of (place + 1) v (calls_in rest) ≡ live_line (length v.live) =
      ap (λ (x : List ℕ). lines_of (place + 1) v (calls_in x)) took.1 ∙ ap (lines_of (place + 1) v) no_calls ∙ lines_none (place + 1) v in
      omega (
        arith,
        ap length (lines_more place v (refused k) (calls_in rest)),
        length-append (line place question_mark (refusal k 0)) (lines_of (place + 1) v (calls_in rest)),
        ap length none,
        live_most v e,
        refused_long place question_mark k 0 (omega arith) (omega (arith, took.0)) (λ z. omega (arith, took.0, z)),
      )

lines_most : (s : List ℕ) → Most s
lines_most = by_records Most
    (λ (place : ℕ) (v : View) (e : intact v ≡ true) (h : place + 0 < 100000). rw (no_calls, lines_none place v) (omega (arith, live_most v e)))
    (λ (b : ℕ) (s : List ℕ) (most : Most (first_call (b ∷ s)).rest) (place : ℕ) (v : View) (e : intact v ≡ true) (h : place + length (b ∷ s) < 100000).
    rw (first_then_rest b s) (one_more (first_call (b ∷ s)).rest (suc (length s)) place v e (omega arith) (first_call (b ∷ s)).call (first_took b s) most))

-- AS MANY BYTES SERVE FOR EVERY TEXT
pub text_bound_lem : TextWithin
unfolding transcript text_bound counted
text_bound_lem file calls bytes = go (read_network file) refl
  where
    go : (o : Outcome Topology) → read_network file ≡ o → length (text_on o calls) ≤ 22 + 11 * min (length calls) 65536
    go (given net) e =
        let n : length (take 65536 calls) ≡ min 65536 (length calls) = length-take 65536 calls in
        omega (arith, lines_most (take 65536 calls) 1 (fresh net) (fresh_intact net (read_passes file net bytes e)) (omega (arith, n)), n)
    go (refused n) e = omega (arith, network_long n (plain_short n (file_number file n e)))
