-- The lines of a run, one call after the other. Assumes nothing.
use mathlib.Core.Path.{◌≡◌, refl, sym, ap}
use mathlib.Core.Bool.{true}
use mathlib.Core.List.{List, [], ◌∷◌, ◌++◌, append-nil}
use Prim.Native.Nat.{ℕ, ◌+◌, ◌^◌, ◌<◌, ◌≤◌}
use native.Mathlib.Numerals.{add-one}
use native.Mathlib.Omega.{arith}
use lib.ListN.{length}
use Rattle.refusals.specs.Refusals.{Outcome}
use Rattle.ledger.specs.Sessions.{View}
use Rattle.ledger.specs.Sound.{intact}
use Rattle.ledger.specs.Calls.{Call}
use Rattle.call_records.specs.Records.{calls_in}
use Rattle.call_records.specs.Served.{view_after}
use Rattle.call_records.proofs.Records.{calls_few}
use Rattle.state.specs.declared.State.{State}
use Rattle.state.specs.State.{view_of}
use Rattle.text.specs.declared.Page.{Page}
use Rattle.text.specs.Lines.{live_line}
use Rattle.text.specs.Inner.{HasRoom, Adds}
use Rattle.text.proofs.Chains.{joined, Upto, none_yet, two_parts, piece_fits, piece_put, all_put}
use Rattle.report.specs.Transcript.{line_of, lines_of}
use Rattle.report.specs.Inner.{Turns}

pub lines_more : (place : ℕ) (v : View) (o : Outcome Call) (os : List (Outcome Call)) → lines_of place v (o ∷ os) ≡ line_of place v o ++ lines_of (place + 1) (view_after v o) os
unfolding lines_of
lines_more place v o os = ap (λ (k : ℕ). line_of place v o ++ lines_of k (view_after v o) os) (sym (add-one place))

pub lines_none : (place : ℕ) (v : View) → lines_of place v [] ≡ live_line (length v.live)
unfolding lines_of
lines_none place v = refl

-- the lines of the calls before `place` are put, and those of the calls that are left are still to come
pub record Running (text : List ℕ) (o : Page) (st : State) (os : List (Outcome Call)) (place : ℕ) (p : Page) : Type 0 where
  pub early : place + length os ≤ 65537
  pub unbroken : intact (view_of st) ≡ true
  pub upto : Upto text o (lines_of place (view_of st) os ∷ []) p

pub none_run : (calls : List ℕ) (o : Page) (st : State) → intact (view_of st) ≡ true → length calls ≤ 65536 → HasRoom (lines_of 1 (view_of st) (calls_in calls)) o
    → Running (lines_of 1 (view_of st) (calls_in calls)) o st (calls_in calls) 1 o
unfolding joined
none_run calls o st ok few room =
    let text : List ℕ = lines_of 1 (view_of st) (calls_in calls) in
    record { early = omega (arith, few, calls_few calls); unbroken = ok; upto = none_yet o (sym (append-nil text)) room }

module _ {text : List ℕ} {o : Page} {st : State} {os : List (Outcome Call)} {p : Page} (n : ℕ) (run : Running text o st os (n + 1) p) where
  -- call i is the first of those that are left
  module _ (i : ℕ) (is : i ≡ n) (x : Outcome Call) (rest : List (Outcome Call)) (e : os ≡ x ∷ rest) where
    more : Upto text o (line_of (i + 1) (view_of st) x ∷ lines_of (i + 1 + 1) (view_after (view_of st) x) rest ∷ []) p
    more = rw is (two_parts (rw (e, lines_more (n + 1) (view_of st) x rest) at run.upto))

    pub line_room : HasRoom (line_of (i + 1) (view_of st) x) p
    line_room = piece_fits more

    pub one_run : (m : ℕ) → m ≡ n + 1 → (q : Page) (r : State) → Turns st x (i + 1) p q r → Running text o r rest (m + 1) q
    one_run m k q r t = record { early = omega (arith, k, run.early, ap length e); unbroken = t.unbroken; upto = rw (k, ← is, t.view) (piece_put more t.put) }

-- no call is left
module _ {text : List ℕ} {o : Page} {st : State} {os : List (Outcome Call)} {place : ℕ} {p : Page} (run : Running text o st os place p) (e : os ≡ []) where
  last : Upto text o (live_line (length (view_of st).live) ∷ []) p
  last = rw (e, lines_none place (view_of st)) at run.upto

  pub last_room : (live : ℕ) → live ≡ length (view_of st).live → HasRoom (live_line live) p
  last_room live q = rw q (piece_fits last)

  pub all_run : (live : ℕ) → live ≡ length (view_of st).live → (q : Page) → Adds (live_line live) p q → Adds text o q
  all_run live e q put = all_put (piece_put last (rw e at put))

-- so few calls are counted
pub items_fit : (calls : List ℕ) → length calls ≤ 65536 → 0 + length (calls_in calls) < 2 ^ 64
items_fit calls few = omega (arith, few, calls_few calls)
