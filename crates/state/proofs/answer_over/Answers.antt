-- `state::answer_over` meets its contract. Assumes nothing.
use mathlib.Core.Path.{ap, ◌∙◌}
use Rattle.std.specs.Prelude.{Err}
use Rattle.routes.proofs.HopCycles.{schedule_laid}
use Rattle.state.proofs.Replies.{same_err}
use Rattle.state.proofs.Searches.{searched}
use Rattle.state.proofs.SetUps.{none_or, some_or, found_frames, quotes_blocked, schedule_found, quotes_found}
use Rattle.state.proofs.answer_over.Goals as goal

pub returns-in_err-schedule : goal.returns-in_err-schedule
returns-in_err-schedule c = let s = searched _ c.args.hops.now _ c.search-finding.ensures in
    let none = none_or _ _ _ _ s _ _ c.ok_or.ensures.value _ c.in_err-schedule.was in
    quotes_blocked _ _ _ _ s none.0 _ (same_err _ _ c.from_residual.ensures ∙ ap Err none.1)

pub scheduled-requires : goal.scheduled-requires
scheduled-requires c = let s = searched _ c.args.hops.now _ c.search-finding.ensures in
    let some = some_or _ _ _ _ s _ _ c.ok_or.ensures.value _ c.in_ok-schedule.was in
    schedule_laid _ c.args.hops.now _ _ c.requires (found_frames _ _ _ _ s _ some) (schedule_found _ _ _ _ s _ some)

pub returns : goal.returns
returns c = let s = searched _ c.args.hops.now _ c.search-finding.ensures in
    quotes_found _ _ _ _ s _ (some_or _ _ _ _ s _ _ c.ok_or.ensures.value _ c.in_ok-schedule.was) _ c.scheduled.ensures
