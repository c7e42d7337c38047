-- The line of each kind of call, and the state after it. Assumes nothing.
use mathlib.Core.Path.{◌≡◌, refl}
use mathlib.Core.Bool.{true}
use mathlib.Core.List.{List}
use Prim.Native.Nat.{ℕ, ◌≤◌}
use native.Mathlib.Omega.{arith}
use lib.ListN.{length}
use Rattle.std.specs.Prelude.{Result, Ok, Err, ⊤}
use Rattle.refusals.specs.Refusals.{given, refused}
use Rattle.refusals.specs.declared.Refusal.{Refusal}
use Rattle.ledger.specs.Sessions.{View}
use Rattle.ledger.specs.Sound.{intact}
use Rattle.ledger.specs.Calls.{Call, links_of, Quote, Release, Reply, schedule, freed, refusal, reply, left, next}
use Rattle.ledger.proofs.Scheduled.{scheduled}
use Rattle.routes.proofs.Routes.{route_long}
use Rattle.state.specs.declared.State.{State}
use Rattle.state.specs.declared.Quoted.{Quoted}
use Rattle.state.specs.declared.Served.{Served}
use Rattle.state.specs.State.{view_of, Quotes, quoted_in, released_in, Leaves, Releases}
use Rattle.state.proofs.Replies.{left_intact, quotes_back}
use Rattle.text.specs.declared.Page.{Page}
use Rattle.text.specs.Characters.{letter_r, question_mark}
use Rattle.text.specs.Lines.{letter_of, line}
use Rattle.text.specs.Inner.{HasRoom, Adds}
use Rattle.report.specs.Transcript.{line_of}
use Rattle.report.specs.Inner.{InPlaces, Turns}

-- an answer that is a schedule has a route that passed, and so at most eight links
in_places_lem : (v : View) (call : Call) (q : Result Quoted Refusal) → Quotes (reply v call) q → InPlaces q (length (links_of call))
in_places_lem v call (Err r) w = tt
in_places_lem v call (Ok q) w = go (reply v call) refl w
  where
    go : (r : Reply) → reply v call ≡ r → Quotes r (Ok q) → length (links_of call) ≤ 8
    go (schedule held count) g k = (route_long v.network (links_of call) (scheduled v call held count g).passed).1
    go freed g k = absurd k
    go (refusal n c) g k = let z : ◌≡◌ {A = ℕ} 0 1 = cc in absurd (omega arith)

module _ (st : State) (ok : intact (view_of st) ≡ true) (place : ℕ) (p : Page) where
  -- ---- the line of a set-up or a quote
  module _ (call : Call) (q : Result Quoted Refusal) (w : Quotes (reply (view_of st) call) q) where
    pub answer_room : HasRoom (line_of place (view_of st) (given call)) p → InPlaces q (length (links_of call)) × HasRoom (line place (letter_of call) (quoted_in (length (links_of call)) q)) p
    answer_room h = (in_places_lem (view_of st) call q w, rw (quotes_back (view_of st) call q w) h)

    module _ (after : Page) (put : Adds (line place (letter_of call) (quoted_in (length (links_of call)) q)) p after) where
      same : Adds (line_of place (view_of st) (given call)) p after
      same = rw (quotes_back (view_of st) call q w) at put

      pub set_up_turn : (r : State) → Leaves st call r → Turns st (given call) place p after r
      set_up_turn r l = record { put = same; view = l.view; unbroken = left_intact st call r l ok }

      pub quote_turn : (route : List ℕ) → call ≡ Quote route → Turns st (given call) place p after st
      unfolding left next
      quote_turn route is = record { put = same; view = rw is refl; unbroken = ok }

  -- ---- the line of a release
  pub release_turn : (n : ℕ) (a : Served ⊤) → Releases st n a → (after : Page) → Adds (line place letter_r (released_in a.answer)) p after → Turns st (given (Release n)) place p after a.state
  release_turn n a w after put = record { put = rw w.answer at put; view = w.after.view; unbroken = left_intact st (Release n) a.state w.after ok }

-- a record that can't be read makes no call
pub unread_turn : (st : State) → intact (view_of st) ≡ true → (place n : ℕ) (p after : Page) → Adds (line place question_mark (refusal n 0)) p after → Turns st (refused n) place p after st
unread_turn st ok place n p after put = record { put = put; view = refl; unbroken = ok }
