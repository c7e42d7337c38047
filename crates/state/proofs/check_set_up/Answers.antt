-- `state::check_set_up` meets its contract. Assumes nothing.
use borrow.Author.Rules.{rules}
use mathlib.Core.Path.{refl, ◌∙◌}
use Rattle.ledger.proofs.Intact.{intact_is}
use Rattle.refusals.proofs.Refusals.{passed_on}
use Rattle.state.proofs.Within.{few_live}
use Rattle.state.proofs.SetUps.{checked_route, checked_number, checked_places, checked_all, full_told}
use Rattle.state.proofs.check_set_up.Goals as goal

pub check_route-requires : goal.check_route-requires
check_route-requires c = (intact_is _ c.requires).network

pub returns-in_err-check_route : goal.returns-in_err-check_route
returns-in_err-check_route c = passed_on _ _ _ c.from_residual.ensures ∙ checked_route _ _ _ _ _ c.check_route.ensures _ c.in_err-check_route.was

pub is_live-live-requires : goal.is_live-live-requires
is_live-live-requires c = few_live c.args.st.now c.requires

pub returns-then-live : goal.returns-then-live
returns-then-live c = checked_number _ _ _ _ _ c.check_route.ensures _ c.in_ok-check_route.was _ c.is_live-live.ensures c.if-live.true _ refl

pub returns-then-full : goal.returns-then-full
returns-then-full c = checked_places _ _ _ _ _ c.check_route.ensures _ c.in_ok-check_route.was _ c.is_live-live.ensures (search rules) _ (full_told c.args.st.now.table _ c.is_full-full.ensures) c.if-full.true _ refl

pub returns : goal.returns
returns c = checked_all _ _ _ _ _ c.check_route.ensures _ c.in_ok-check_route.was _ c.is_live-live.ensures c.if-live.false _ (full_told c.args.st.now.table _ c.is_full-full.ensures) c.if-full.false
