-- `state_check::good_session` meets its contract. Assumes nothing.
use Rattle.std.proofs.Common.{rules}
use Rattle.state_check.proofs.Sessions.{too_long, route_fails, walk_room, walk_long, walk_ready, walked_laid, session_walked, session_unfit}
use Rattle.state_check.proofs.good_session.Goals as goal

pub returns-then-hops-gt8 : goal.returns-then-hops-gt8
returns-then-hops-gt8 c = too_long _ _ c.if-hops-gt8.true

pub returns-then-is_err : goal.returns-then-is_err
returns-then-is_err c = route_fails _ c.args.place c.if-hops-gt8.false (search rules) _ c.check_route.ensures _ c.is_err.ensures.value c.if-is_err.true

pub slice_bounds-eight-end : goal.slice_bounds-eight-end
slice_bounds-eight-end c = walk_room _ c.args.place c.if-hops-gt8.false (search rules) _ c.check_route.ensures _ c.is_err.ensures.value c.if-is_err.false c.requires _ c.route_hops-eight.ensures

pub slice_bounds-laid-end : goal.slice_bounds-laid-end
slice_bounds-laid-end c = walk_long _ c.args.place c.if-hops-gt8.false (search rules) _ c.check_route.ensures _ c.is_err.ensures.value c.if-is_err.false c.requires _ c.route_hops-eight.ensures

pub walk-requires : goal.walk-requires
walk-requires c = walk_ready _ c.args.place c.if-hops-gt8.false (search rules) _ c.check_route.ensures _ c.is_err.ensures.value c.if-is_err.false c.requires _ c.route_hops-eight.ensures

pub cycles-cycles-requires : goal.cycles-cycles-requires
cycles-cycles-requires c = walked_laid _ c.args.place c.if-hops-gt8.false (search rules) _ c.check_route.ensures _ c.is_err.ensures.value c.if-is_err.false c.requires _ c.route_hops-eight.ensures _ c.walk.ensures _ c.in-Some.is

pub returns-in-Some : goal.returns-in-Some
returns-in-Some c = session_walked _ c.args.place c.if-hops-gt8.false (search rules) _ c.check_route.ensures _ c.is_err.ensures.value c.if-is_err.false c.requires _ c.route_hops-eight.ensures _ c.walk.ensures _ c.in-Some.is
    (search rules) _ c.cycles-cycles.ensures _ c.same_held.ensures

pub returns-in-None : goal.returns-in-None
returns-in-None c = session_unfit _ c.args.place c.if-hops-gt8.false (search rules) _ c.check_route.ensures _ c.is_err.ensures.value c.if-is_err.false c.requires _ c.route_hops-eight.ensures _ c.walk.ensures c.in-None.is
