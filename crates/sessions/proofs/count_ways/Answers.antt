-- `sessions::count_ways` meets its contract. Assumes nothing.
use Rattle.network.specs.Network.{topology_of}
use Rattle.ledger.proofs.Intact.{intact_is}
use Rattle.table.specs.Table.{live_of}
use Rattle.routes.proofs.Hops.{one_each}
use Rattle.state.proofs.Searches.{free_room, free_lent, free_ready}
use Rattle.sessions.proofs.Counting.{passed, check_answers, number_answers}
use Rattle.sessions.proofs.count_ways.Goals as goal

pub check_route-requires : goal.check_route-requires
check_route-requires c = (intact_is _ c.requires).network

pub returns-in_err-check_route : goal.returns-in_err-check_route
returns-in_err-check_route c = check_answers c.args.st.now _ c.requires _ c.check_route.ensures _ c.in_err-check_route.was _ c.from_residual.ensures

pub free_hops-eight-requires : goal.free_hops-eight-requires
free_hops-eight-requires c = (c.requires, passed c.args.st.now _ c.requires _ c.check_route.ensures _ c.in_ok-check_route.was)

pub slice_bounds-eight-end : goal.slice_bounds-eight-end
slice_bounds-eight-end c = (free_room c.args.st.now c.requires _ (passed c.args.st.now _ c.requires _ c.check_route.ensures _ c.in_ok-check_route.was) _ c.free_hops-eight.ensures).0

pub slice_bounds-number_over-end : goal.slice_bounds-number_over-end
slice_bounds-number_over-end c = (free_room c.args.st.now c.requires _ (passed c.args.st.now _ c.requires _ c.check_route.ensures _ c.in_ok-check_route.was) _ c.free_hops-eight.ensures).1

pub number_over-requires : goal.number_over-requires
number_over-requires c = let checked = passed c.args.st.now _ c.requires _ c.check_route.ensures _ c.in_ok-check_route.was in
    let lent = free_lent c.args.st.now c.requires _ checked _ c.free_hops-eight.ensures in (
      (_, free_ready c.args.st.now c.requires _ checked _ lent),
      one_each (topology_of c.args.st.now.network) (live_of c.args.st.now.table) c.args.route.now _ lent,
    )

pub returns : goal.returns
returns c = number_answers c.args.st.now _ c.requires _ c.check_route.ensures _ c.in_ok-check_route.was _ (free_lent c.args.st.now c.requires _ (passed c.args.st.now _ c.requires _ c.check_route.ensures _ c.in_ok-check_route.was) _ c.free_hops-eight.ensures) _ c.number_over.ensures
