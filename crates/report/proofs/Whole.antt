-- The whole text, and the buffer that it is put into. Assumes nothing.
use mathlib.Core.Path.{◌≡◌, sym, ap, ◌∙◌}
use mathlib.Core.Bool.{true}
use mathlib.Core.List.{List}
use Prim.Native.Nat.{ℕ, ◌+◌, ◌*◌, ◌<◌, ◌≤◌, min}
use native.Mathlib.Nat.{zero-add}
use native.Mathlib.Omega.{arith}
use lib.ListN.{length, take}
use Rattle.std.specs.Prelude.{Result, Ok, Err}
use Rattle.places.proofs.Puts.{put_zero}
use Rattle.refusals.specs.Refusals.{given, answered, refusal_number}
use Rattle.refusals.specs.declared.Refusal.{Refusal}
use Rattle.numbers.specs.Numbers.{IsBytes}
use Rattle.network.specs.Network.{Topology, topology_of}
use Rattle.network.specs.declared.Network.{Network}
use Rattle.network_file.specs.Reading.{read_network, Reads}
use Rattle.network_file.proofs.Lent.{short_written, long_written}
use Rattle.network_file.proofs.RoundTrip.{Says, refused_says, passed_says, read_stands, loaded_passes}
use Rattle.ledger.specs.Sound.{intact}
use Rattle.ledger.specs.Demand.{fresh}
use Rattle.state.specs.declared.State.{State}
use Rattle.state.specs.State.{view_of, fresh_state}
use Rattle.state.proofs.Replies.{first_view, first_intact}
use Rattle.call_records.specs.Records.{calls_in}
use Rattle.call_records.proofs.Records.{counted_part}
use Rattle.text.specs.declared.Page.{Page}
use Rattle.text.specs.Lines.{network_line}
use Rattle.text.specs.Inner.{HasRoom, Adds}
use Rattle.report.specs.Transcript.{lines_of, transcript}
use Rattle.report.specs.Reports.{text_bound, BoundMost, reported, Reports}

pub bound_is : (n k : ℕ) → k ≡ min n 65536 → 22 + 11 * k ≡ text_bound n
unfolding text_bound
bound_is n k e = rw e

-- the longest text that there is
pub bound_most : BoundMost
unfolding text_bound
bound_most n = omega arith

-- ---- the text on a file that is refused, and on one that is read
module _ (file calls : List ℕ) (l : Result Network Refusal) (reads : Reads (read_network file) l) where
  pub refused_text : (r : Refusal) → l ≡ Err r → transcript file calls ≡ network_line (refusal_number r)
  unfolding transcript
  refused_text r e = rw (refused_says file l reads r e)

  module _ (bytes : IsBytes file) (net : Network) (e : l ≡ Ok net) (st : State) (begun : st ≡ fresh_state net) (n : ℕ) (q : n ≡ min (length calls) 65536) where
    said_view : (t : Topology) → read_network file ≡ given t → view_of st ≡ fresh t
    said_view t is =
        let s : given (topology_of net) ≡ given t = ap (answered topology_of) (sym e) ∙ read_stands file t l bytes is reads in
        let same : topology_of net ≡ t = cc in
        first_view net st begun ∙ ap fresh same

    pub read_text : transcript file calls ≡ lines_of 1 (view_of st) (calls_in (take n calls))
    unfolding transcript
    read_text =
        let x : Says file net = passed_says file l reads net e in
        rw (x.is, said_view x.network x.is, (counted_part calls n q).0)

    pub read_room : (p : Page) → HasRoom (transcript file calls) p → (intact (view_of st) ≡ true) × (length (take n calls) ≤ 65536) × HasRoom (lines_of 1 (view_of st) (calls_in (take n calls))) p
    read_room p h = (first_intact net st begun (loaded_passes file l bytes reads net e), (counted_part calls n q).1, rw read_text at h)

-- ---- the text in the buffer
module _ (file calls before : List ℕ) (within : length (transcript file calls) ≤ text_bound (length calls)) where
  pub short_report : (bound : ℕ) → bound ≡ text_bound (length calls) → length before < bound → (r : Refusal) → refusal_number r ≡ 20 → Reports file calls before before (Err r)
  unfolding reported
  short_report bound is h r e = record { written = short_written (text_bound (length calls)) (transcript file calls) before (omega (arith, is)) r e; within = within }

  -- a page without text took it
  module _ (bound : ℕ) (is : bound ≡ text_bound (length calls)) (h : bound ≤ length before) (p q : Page) (at : p.at ≡ 0) (out : p.out.now ≡ before) where
    pub long_report : Adds (transcript file calls) p q → (after : List ℕ) → after ≡ q.out.now → Reports file calls before after (Ok q.at)
    unfolding reported
    long_report a after e =
        let text : List ℕ = transcript file calls in
        record {
          written = long_written (text_bound (length calls)) text before (omega (arith, is, h)) after q.at (rw at at a.next ∙ zero-add (length text)) (e ∙ rw (at, out) at a.holds ∙ put_zero text before);
          within = within;
        }
