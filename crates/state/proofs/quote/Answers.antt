-- `state::quote` meets its contract. Assumes nothing.
use mathlib.Core.Path.{sym, ◌∙◌}
use Rattle.ledger.specs.Calls.{Quote}
use Rattle.ledger.proofs.Intact.{intact_is}
use Rattle.state.proofs.Replies.{check_passed, same_err, quote_check}
use Rattle.state.proofs.Searches.{free_room, free_lent, free_ready}
use Rattle.state.proofs.SetUps.{quotes_refused, quote_quotes}
use Rattle.state.proofs.quote.Goals as goal

pub check_route-requires : goal.check_route-requires
check_route-requires c = (intact_is _ c.requires).network

pub returns-in_err-check_route : goal.returns-in_err-check_route
returns-in_err-check_route c = quotes_refused c.args.st c.requires (Quote _) _ (c.check_route.ensures ∙ sym (quote_check _ _ _)) _ c.in_err-check_route.was _ (same_err _ _ c.from_residual.ensures)

pub free_hops-eight-requires : goal.free_hops-eight-requires
free_hops-eight-requires c = (c.requires, check_passed _ _ c.check_route.ensures _ c.in_ok-check_route.was)

pub slice_bounds-eight-end : goal.slice_bounds-eight-end
slice_bounds-eight-end c = (free_room c.args.st c.requires _ (check_passed _ _ c.check_route.ensures _ c.in_ok-check_route.was) _ c.free_hops-eight.ensures).0

pub slice_bounds-answer_over-end : goal.slice_bounds-answer_over-end
slice_bounds-answer_over-end c = (free_room c.args.st c.requires _ (check_passed _ _ c.check_route.ensures _ c.in_ok-check_route.was) _ c.free_hops-eight.ensures).1

pub answer_over-requires : goal.answer_over-requires
answer_over-requires c = let checked = check_passed _ _ c.check_route.ensures _ c.in_ok-check_route.was in
    free_ready c.args.st c.requires _ checked _ (free_lent c.args.st c.requires _ checked _ c.free_hops-eight.ensures)

pub returns : goal.returns
returns c = let checked = check_passed _ _ c.check_route.ensures _ c.in_ok-check_route.was in
    quote_quotes c.args.st c.requires _ checked _ (free_lent c.args.st c.requires _ checked _ c.free_hops-eight.ensures) _ c.answer_over.ensures
