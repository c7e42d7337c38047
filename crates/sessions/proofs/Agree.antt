-- States that show the same agree, and what a quote depends on. Assumes nothing.
use mathlib.Core.Path.{◌≡◌, refl, sym, ap, ap₂, subst, ◌∙◌}
use Prim.Native.Nat.{ℕ}
use mathlib.Core.List.{List, ◌∷◌, map, nil≢cons, head-eq_of_cons-eq, tail-eq_of_cons-eq}
use Rattle.std.specs.Prelude.{Result, Err}
use Rattle.refusals.specs.Refusals.{Outcome, given, refused}
use Rattle.refusals.specs.declared.Refusal.{Refusal}
use Rattle.refusals.proofs.Refusals.{refusal_only}
use Rattle.ledger.specs.Sessions.{View}
use Rattle.ledger.specs.Calls.{Call, Quote, Reply, schedule, freed, refusal, reply, next, lookup, free_count}
use Rattle.ledger.specs.Ways.{ways_of}
use Rattle.ledger.specs.Ledger.{AnsweredCall, did, call_of}
use Rattle.ledger.specs.Demand.{Runs, over, call_then}
use Rattle.ledger.proofs.Quoted.{quote_depends}
use Rattle.state.specs.declared.Quoted.{Quoted}
use Rattle.state.specs.State.{view_of, Quotes}
use Rattle.state.proofs.Replies.{quotes_back}
use Rattle.sessions.specs.Calls.{Tells, shown_of}
use Rattle.sessions.specs.Stored.{ArrangementFree, StoredQuoteDepends}
use Rattle.sessions.proofs.Stored.{stored_by_rules, number_tells}
use Rattle.sessions.proofs.Meets.{Named, lookup_named, count_named, ways_named}

-- ---- two answers to one outcome are the same
tells_same : {A B : Type 0} (of : A → B) (o : Outcome A) → Named o → (a b : Result B Refusal) → Tells of o a → Tells of o b → a ≡ b
tells_same of (given x) h a b p q = p ∙ sym q
tells_same of (refused k) h a b p q = p.2 ∙ ap Err (number_tells k p.0 q.0 p.1 q.1 h.2) ∙ sym q.2

quotes_same : (r : Reply) (a b : Result Quoted Refusal) → Quotes r a → Quotes r b → a ≡ b
quotes_same (schedule held count) a b p q = p ∙ sym q
quotes_same freed a b p q = absurd p
quotes_same (refusal k count) a b p q = p.3 ∙ ap Err (refusal_only p.0 q.0 (p.1 ∙ sym q.1) (p.2 ∙ sym q.2)) ∙ sym q.3

-- ---- the calls of a list tell its steps and what the last view shows
runs_same : {v last end : View} {steps others : List AnsweredCall} → Runs v steps last → Runs v others end → map call_of steps ≡ map call_of others
    → (steps ≡ others) × (last ≡ end)
runs_same over over e = (refl, refl)
runs_same over (call_then call rest) e = absurd (nil≢cons e)
runs_same (call_then call rest) over e = absurd (nil≢cons (sym e))
runs_same {v} {last} {end} (call_then call rest) (call_then {steps = others} call' rest') e =
    let c : call' ≡ call = sym (head-eq_of_cons-eq e) in
    let more = runs_same rest (subst (λ (x : Call). Runs (next v x) others end) c rest') (tail-eq_of_cons-eq e) in
    (ap₂ ◌∷◌ (ap (λ (x : Call). did x (reply v x)) (sym c)) more.0, more.1)

-- STATES THAT SHOW THE SAME AGREE
pub arrangement_free : ArrangementFree
arrangement_free st other e =
    record {
      lookups = λ n r q a b.
          tells_same shown_of (lookup (view_of st) n) (lookup_named (view_of st) n) r.answer q.answer a.shown
          (subst (λ (v : View). Tells shown_of (lookup v n) q.answer) (sym e) b.shown);
      counts = λ l r q a b.
          tells_same (λ (n : ℕ). n) (free_count (view_of st) l) (count_named (view_of st) l) r.answer q.answer a.counted
          (subst (λ (v : View). Tells (λ (n : ℕ). n) (free_count v l) q.answer) (sym e) b.counted);
      ways = λ route r q a b.
          tells_same (λ (n : ℕ). n) (ways_of (view_of st) route) (ways_named (view_of st) route) r.answer q.answer a.numbered
          (subst (λ (v : View). Tells (λ (n : ℕ). n) (ways_of v route) q.answer) (sym e) b.numbered);
      lists = λ steps others last end a b.
          runs_same (stored_by_rules st last steps a)
          (subst (λ (v : View). Runs v others (view_of end)) (sym e) (stored_by_rules other end others b));
    }

-- A QUOTE DEPENDS ON T, THE ROUTE AND THOSE LINKS' K, Z, Y AND FREE FRAMES ALONE, at the call
pub stored_quote_depends : StoredQuoteDepends
stored_quote_depends st other route r q a b r0 q0 r13 q13 ticks hops =
    let x = quotes_back (view_of st) (Quote route) r.answer a.answer in
    let y = quotes_back (view_of other) (Quote route) q.answer b.answer in
    let same : reply (view_of st) (Quote route) ≡ reply (view_of other) (Quote route) =
    quote_depends (view_of st) (view_of other) route (λ e. r0 (x ∙ e)) (λ e. q0 (y ∙ e)) (λ e. r13 (x ∙ e)) (λ e. q13 (y ∙ e)) ticks hops in
    quotes_same (reply (view_of st) (Quote route)) r.answer q.answer a.answer
    (subst (λ (o : Reply). Quotes o q.answer) (sym same) b.answer)
