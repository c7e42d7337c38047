-- `state::set_up` meets its contract. Assumes nothing.
use Rattle.ledger.specs.Calls.{SetUp}
use Rattle.state.proofs.Searches.{free_room, free_lent, free_ready}
use Rattle.state.proofs.SetUps.{serves_refused, few_links, room_left, route_passed, set_up_blocked, set_up_laid, set_up_held}
use Rattle.state.proofs.set_up.Goals as goal

pub returns-in-Err : goal.returns-in-Err
returns-in-Err c = serves_refused c.args.st c.requires (SetUp _ _) _ c.check_set_up.ensures _ c.in-Err.is

pub free_hops-eight-requires : goal.free_hops-eight-requires
free_hops-eight-requires c = (c.requires, route_passed c.args.st c.requires _ _ _ c.check_set_up.ensures _ c.in_default.is)

pub slice_bounds-eight-end : goal.slice_bounds-eight-end
slice_bounds-eight-end c = (free_room c.args.st c.requires _ (route_passed c.args.st c.requires _ _ _ c.check_set_up.ensures _ c.in_default.is) _ c.free_hops-eight.ensures).0

pub slice_bounds-hops-end : goal.slice_bounds-hops-end
slice_bounds-hops-end c = (free_room c.args.st c.requires _ (route_passed c.args.st c.requires _ _ _ c.check_set_up.ensures _ c.in_default.is) _ c.free_hops-eight.ensures).1

pub search-finding-requires : goal.search-finding-requires
search-finding-requires c = free_ready c.args.st c.requires _ (route_passed c.args.st c.requires _ _ _ c.check_set_up.ensures _ c.in_default.is) _ (free_lent c.args.st c.requires _ (route_passed c.args.st c.requires _ _ _ c.check_set_up.ensures _ c.in_default.is) _ c.free_hops-eight.ensures)

pub returns-in_default-schedule : goal.returns-in_default-schedule
returns-in_default-schedule c = set_up_blocked c.args.st c.requires _ _ _ c.check_set_up.ensures _ c.in_default.is _ (free_lent c.args.st c.requires _ (route_passed c.args.st c.requires _ _ _ c.check_set_up.ensures _ c.in_default.is) _ c.free_hops-eight.ensures) _ c.search-finding.ensures c.in_default-schedule.is

pub scheduled-quoted-requires : goal.scheduled-quoted-requires
scheduled-quoted-requires c = set_up_laid c.args.st c.requires _ _ _ c.check_set_up.ensures _ c.in_default.is _ (free_lent c.args.st c.requires _ (route_passed c.args.st c.requires _ _ _ c.check_set_up.ensures _ c.in_default.is) _ c.free_hops-eight.ensures) _ c.search-finding.ensures _ c.in-Some.is

pub new_place-place-requires : goal.new_place-place-requires
new_place-place-requires c = few_links c.args.st c.requires _ _ _ c.check_set_up.ensures _ c.in_default.is

pub with_place-requires : goal.with_place-requires
with_place-requires c = room_left c.args.st c.requires _ _ _ c.check_set_up.ensures _ c.in_default.is

pub returns : goal.returns
returns c = set_up_held c.args.st c.requires _ _ _ c.check_set_up.ensures _ c.in_default.is _ (free_lent c.args.st c.requires _ (route_passed c.args.st c.requires _ _ _ c.check_set_up.ensures _ c.in_default.is) _ c.free_hops-eight.ensures) _ c.search-finding.ensures _ c.in-Some.is _ c.scheduled-quoted.ensures _ c.new_place-place.ensures _ c.with_place.ensures
