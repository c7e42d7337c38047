-- `sessions::answer_lookup` meets its contract. Assumes nothing.
use native.Mathlib.Omega.{arith}
use mathlib.Core.Path.{refl}
use Rattle.sessions.proofs.First.{broken_lookup}
use Rattle.sessions.proofs.Showing.{live_few, lookup_refused, place_in, place_hops, lookup_shown}
use Rattle.sessions.proofs.answer_lookup.Goals as goal

pub returns-in_err-check_state : goal.returns-in_err-check_state
returns-in_err-check_state c = broken_lookup c.args.st.now _ c.check_state.ensures _ c.in_err-check_state.was _ _ c.from_residual.ensures

pub place_of-requires : goal.place_of-requires
place_of-requires c = live_few c.args.st.now _ c.check_state.ensures _ c.in_ok-check_state.was

pub returns-in_default : goal.returns-in_default
returns-in_default c = lookup_refused c.args.st.now _ c.check_state.ensures _ c.in_ok-check_state.was _ _ c.place_of.ensures c.in_default.is _ refl

pub offset_bounds-table-at : goal.offset_bounds-table-at
offset_bounds-table-at c = omega (arith, live_few c.args.st.now _ c.check_state.ensures _ c.in_ok-check_state.was, place_in c.args.st.now _ c.check_state.ensures _ c.in_ok-check_state.was _ _ c.place_of.ensures _ c.in-Some.is)

pub bounds-table-at : goal.bounds-table-at
bounds-table-at c = omega (arith, live_few c.args.st.now _ c.check_state.ensures _ c.in_ok-check_state.was, place_in c.args.st.now _ c.check_state.ensures _ c.in_ok-check_state.was _ _ c.place_of.ensures _ c.in-Some.is)

pub shown_place-requires : goal.shown_place-requires
shown_place-requires c = place_hops c.args.st.now _ c.check_state.ensures _ c.in_ok-check_state.was _ _ c.place_of.ensures _ c.in-Some.is

pub returns : goal.returns
returns c = lookup_shown c.args.st.now _ c.check_state.ensures _ c.in_ok-check_state.was _ _ c.place_of.ensures _ c.in-Some.is _ c.shown_place.ensures
