-- `sessions::answer_free_frames` meets its contract. Assumes nothing.
use native.Mathlib.Omega.{arith}
use mathlib.Core.Path.{refl}
use Rattle.sessions.proofs.First.{broken_count}
use Rattle.sessions.proofs.Showing.{live_within, link_refused, link_in, link_frames, link_counted}
use Rattle.sessions.proofs.answer_free_frames.Goals as goal

pub returns-in_err-check_state : goal.returns-in_err-check_state
returns-in_err-check_state c = broken_count c.args.st.now _ c.check_state.ensures _ c.in_err-check_state.was _ _ c.from_residual.ensures

pub returns-then-network-at : goal.returns-then-network-at
returns-then-network-at c = link_refused c.args.st.now _ c.check_state.ensures _ c.in_ok-check_state.was _ _ c.from-at.ensures c.if-network-at.true _ refl

pub held_words-held-requires : goal.held_words-held-requires
held_words-held-requires c = live_within c.args.st.now _ c.check_state.ensures _ c.in_ok-check_state.was

pub bounds-network-at : goal.bounds-network-at
bounds-network-at c = link_in c.args.st.now _ c.check_state.ensures _ c.in_ok-check_state.was _ _ c.from-at.ensures c.if-network-at.false

pub bank-place-requires : goal.bank-place-requires
bank-place-requires c = let below = link_in c.args.st.now _ c.check_state.ensures _ c.in_ok-check_state.was _ _ c.from-at.ensures c.if-network-at.false in (omega (arith, c.from-at.ensures), omega arith)

pub bounds-held-place : goal.bounds-held-place
bounds-held-place c = omega (arith, c.bank-place.ensures, c.from-at.ensures, link_in c.args.st.now _ c.check_state.ensures _ c.in_ok-check_state.was _ _ c.from-at.ensures c.if-network-at.false)

pub free_frames-requires : goal.free_frames-requires
free_frames-requires c = link_frames c.args.st.now _ c.check_state.ensures _ c.in_ok-check_state.was _ _ c.from-at.ensures c.if-network-at.false

pub returns : goal.returns
returns c = link_counted c.args.st.now _ c.check_state.ensures _ c.in_ok-check_state.was _ _ c.from-at.ensures c.if-network-at.false _ c.held_words-held.ensures _ c.bank-place.ensures _ c.free_frames.ensures
