-- The answers of the exported functions as one number, and the state after call records. Assumes nothing.
use mathlib.Core.Path.{◌≡◌, refl, sym, ap, subst, ◌∙◌}
use mathlib.Core.Bool.{true}
use mathlib.Core.List.{List, [], ◌∷◌}
use Prim.Native.Nat.{ℕ}
use Rattle.std.specs.Prelude.{Result, Ok, Err}
use Rattle.refusals.specs.declared.Refusal.{Refusal}
use Rattle.refusals.specs.Refusals.{Outcome, given, refused, on_given, given_or, refusal_number, answered}
use Rattle.numbers.specs.Numbers.{IsBytes}
use Rattle.network.specs.Network.{Topology, topology_of}
use Rattle.network.specs.declared.Network.{Network}
use Rattle.network_file.specs.Reading.{read_network, Reads}
use Rattle.network_file.specs.Lent.{length_read, Writes}
use Rattle.network_file.specs.Writing.{write_network}
use Rattle.network_file.proofs.RoundTrip.{Says, refused_says, passed_says, read_passes, read_stands}
use Rattle.ledger.specs.Sessions.{View}
use Rattle.ledger.specs.Sound.{intact}
use Rattle.ledger.specs.Calls.{Call}
use Rattle.ledger.specs.Demand.{fresh, Demand3}
use Rattle.ledger.proofs.Intact.{fresh_intact}
use Rattle.ledger.proofs.Kept.{next_intact}
use Rattle.call_records.specs.Records.{calls_in, counted}
use Rattle.call_records.specs.Served.{view_after, view_after_all}
use Rattle.report.specs.Transcribed.{Transcribed}
use Rattle.report.proofs.Demands.{transcript_demand3}
use Rattle.exports.specs.Exported.{state_after, AfterIntact, AfterDemand3, written_again}

-- what is refused before anything is written
pub nothing_written : (o : Outcome (List ℕ)) (before : List ℕ) (n : ℕ) → o ≡ refused n → (r : Result ℕ Refusal) → length_read r ≡ refused n → Writes o before before r
nothing_written o before n e r q = rw e record { answer = q; buffer = refl }

-- ---- what a file says
module _ (file : List ℕ) (l : Result Network Refusal) (reads : Reads (read_network file) l) where
  pub file_refused : {A : Type 0} (r : Refusal) → l ≡ Err r → (f : Topology → Outcome A) → on_given (read_network file) f ≡ refused (refusal_number r)
  file_refused r e f = ap (λ (o : Outcome Topology). on_given o f) (refused_says file l reads r e)

  pub file_passed : {A : Type 0} → IsBytes file → (n : Network) → l ≡ Ok n → (f : Topology → Outcome A) → on_given (read_network file) f ≡ f (topology_of n)
  file_passed b n e f =
      let t : Says file n = passed_says file l reads n e in
      let s : answered topology_of l ≡ given t.network = read_stands file t.network l b t.is reads in
      ap (λ (o : Outcome Topology). on_given o f) (t.is ∙ sym s ∙ ap (answered topology_of) e)

  -- written again
  pub again_refused : (r : Refusal) → l ≡ Err r → (room : ℕ) → written_again file room ≡ refused (refusal_number r)
  unfolding written_again
  again_refused r e room = file_refused r e (λ t. write_network t room)

  pub again_is : IsBytes file → (n : Network) → l ≡ Ok n → (room : ℕ) → written_again file room ≡ write_network (topology_of n) room
  unfolding written_again
  again_is b n e room = file_passed b n e (λ t. write_network t room)

-- ---- the state after call records isn't broken
after_intact_by : (v : View) (o : Outcome Call) → intact v ≡ true → intact (view_after v o) ≡ true
after_intact_by v (given call) e = next_intact v call e
after_intact_by v (refused n) e = e

all_intact : (os : List (Outcome Call)) (v : View) → intact v ≡ true → intact (view_after_all v os) ≡ true
unfolding view_after_all
all_intact [] v e = e
all_intact (o ∷ os) v e = all_intact os (view_after v o) (after_intact_by v o e)

pub after_intact : AfterIntact
unfolding state_after
after_intact file calls bytes v e = go (read_network file) refl e
  where
    go : (o : Outcome Topology) → read_network file ≡ o → on_given o (λ net. given (view_after_all (fresh net) (calls_in (counted calls)))) ≡ given v → intact v ≡ true
    go (given net) q w =
        let is : view_after_all (fresh net) (calls_in (counted calls)) ≡ v = cc in
        subst (λ (x : View). intact x ≡ true) is (all_intact (calls_in (counted calls)) (fresh net) (fresh_intact net (read_passes file net bytes q)))
    go (refused n) q w = let z : ◌≡◌ {A = ℕ} 0 1 = cc in cc

-- THE STATE AFTER CALL RECORDS KEEPS DEMAND 3
pub after_demand3 : AfterDemand3
unfolding state_after
after_demand3 file calls net v bytes e q =
    let t : Transcribed file calls net = transcript_demand3 file calls net bytes e in
    let is : given t.last ≡ given v = ap given t.after ∙ sym (ap (λ (o : Outcome Topology). on_given o (λ n. given (view_after_all (fresh n) (calls_in (counted calls))))) e) ∙ q in
    let same : t.last ≡ v = ap (given_or v) is in
    record { steps = t.steps; made = t.made; demand = subst (λ (x : View). Demand3 net x t.steps) same t.demand }
