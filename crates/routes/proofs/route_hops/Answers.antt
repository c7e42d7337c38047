use Rattle.routes.proofs.Links.{in_places_lem, at_place, at_frames}
use Rattle.routes.proofs.Routes.{passed_place}
use Rattle.routes.proofs.Hops.{none_laid}
use Rattle.routes.proofs.route_hops.Goals as goal

pub loop-j-init : goal.loop-j-init
loop-j-init c = none_laid c.args.network.links c.args.held.now c.args.route.now _ c.no_hop-hops.ensures

pub bounds-network-from : goal.bounds-network-from
bounds-network-from c = at_place c.args.network _ (passed_place c.args.network _ c.requires.1 c.loop-j.j c.loop-j-test.true) c.requires.0 _ c.from.ensures

pub hop_of-requires : goal.hop_of-requires
hop_of-requires c = let known = passed_place c.args.network _ c.requires.1 c.loop-j.j c.loop-j-test.true in
    let frames = at_frames c.args.network _ known c.requires.0 _ c.from.ensures in
    (frames.0, frames.1, in_places_lem c.args.network _ known c.requires.0)
