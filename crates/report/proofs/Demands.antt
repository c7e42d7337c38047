-- The lines of a run are the answers of a list of calls, to which demand 3 applies. Assumes nothing.
use mathlib.Core.Path.{◌≡◌, refl, sym, ap, ◌∙◌}
use mathlib.Core.List.{List, [], ◌∷◌, ◌++◌, map, append_assoc}
use Prim.Native.Nat.{ℕ, suc}
use lib.ListN.{length}
use Rattle.refusals.specs.Refusals.{Outcome, given, refused}
use Rattle.network_file.proofs.RoundTrip.{read_passes}
use Rattle.ledger.specs.Sessions.{View}
use Rattle.ledger.specs.Calls.{Call, refusal, reply, next}
use Rattle.ledger.specs.Ledger.{AnsweredCall, did, call_of}
use Rattle.ledger.specs.Demand.{fresh, Runs, over, call_then}
use Rattle.ledger.proofs.Whole.{demand3}
use Rattle.call_records.specs.Records.{first_call, calls_in, counted}
use Rattle.call_records.specs.Served.{view_after_all}
use Rattle.call_records.proofs.Said.{TookBy}
use Rattle.call_records.proofs.Records.{first_took, by_records, no_calls, first_then_rest}
use Rattle.text.specs.Characters.{question_mark}
use Rattle.text.specs.Lines.{letter_of, line, live_line}
use Rattle.report.specs.Transcript.{lines_of, transcript}
use Rattle.report.specs.Transcribed.{step_lines, made_in, unread_line, TranscriptDemand3}

-- a record that can't be read is the last
abbrev Ends : List (Outcome Call) → Type 0
Ends [] = Unit {0}
Ends (given call ∷ os) = Ends os
Ends (refused n ∷ os) = os ≡ []

one_ends : (o : Outcome Call) (rest : List ℕ) (m : ℕ) → TookBy 2 o rest m → Ends (calls_in rest) → Ends (o ∷ calls_in rest)
one_ends (given call) rest m took ends = ends
one_ends (refused k) rest m took ends = ap calls_in took.1 ∙ no_calls

calls_end : (s : List ℕ) → Ends (calls_in s)
calls_end = by_records (λ (s : List ℕ). Ends (calls_in s)) (rw no_calls tt)
    (λ (b : ℕ) (s : List ℕ) (ends : Ends (calls_in (first_call (b ∷ s)).rest)). rw (first_then_rest b s) (one_ends (first_call (b ∷ s)).call (first_call (b ∷ s)).rest (suc (length s)) (first_took b s) ends))

-- the lines from a place on, as steps
record Told (place : ℕ) (v : View) (os : List (Outcome Call)) : Type 0 where
  steps : List AnsweredCall
  last : View
  runs : Runs v steps last
  made : map call_of steps ≡ made_in os
  after : last ≡ view_after_all v os
  text : lines_of place v os ≡ step_lines place steps ++ (unread_line place os ++ live_line (length last.live))

told : (os : List (Outcome Call)) (place : ℕ) (v : View) → Ends os → Told place v os
unfolding lines_of view_after_all
told [] place v h = record { steps = []; last = v; runs = over; made = refl; after = refl; text = refl }
told (given call ∷ os) place v h =
    let t : Told (suc place) (next v call) os = told os (suc place) (next v call) h in
    let x : List ℕ = line place (letter_of call) (reply v call) in
    record {
      steps = did call (reply v call) ∷ t.steps;
      last = t.last;
      runs = call_then call t.runs;
      made = ap (λ (cs : List Call). call ∷ cs) t.made;
      after = t.after;
      text = ap (λ (y : List ℕ). x ++ y) t.text ∙ sym (append_assoc x (step_lines (suc place) t.steps) (unread_line (suc place) os ++ live_line (length t.last.live)));
    }
told (refused n ∷ os) place v h =
    record {
      steps = [];
      last = v;
      runs = over;
      made = ap made_in (sym h);
      after = ap (view_after_all v) (sym h);
      text = ap (λ (r : List (Outcome Call)). line place question_mark (refusal n 0) ++ lines_of (suc place) v r) h;
    }

-- THE TEXT OF A RUN SHOWS THE ANSWERS OF A LIST OF CALLS THAT KEEPS DEMAND 3
pub transcript_demand3 : TranscriptDemand3
unfolding transcript
transcript_demand3 file calls net bytes e =
    let t : Told 1 (fresh net) (calls_in (counted calls)) = told (calls_in (counted calls)) 1 (fresh net) (calls_end (counted calls)) in
    record {
      steps = t.steps;
      last = t.last;
      made = t.made;
      after = t.after;
      text = rw e t.text;
      demand = demand3 net (read_passes file net bytes e) t.steps t.last t.runs;
    }
