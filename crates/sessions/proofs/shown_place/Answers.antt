-- `sessions::shown_place` meets its contract. Assumes nothing.
use borrow.Author.Rules.{rules}
use mathlib.Core.Path.{◌≡◌}
use native.Mathlib.Omega.{arith}
use lib.ListN.{length}
use Rattle.table.proofs.Eight.{part_filled}
use Rattle.sessions.proofs.Showing.{place_shown}
use Rattle.sessions.proofs.shown_place.Goals as goal

pub returns : goal.returns
returns c = let long : length c.args.place.route ≡ 8 = search rules in
    place_shown c.args.place _ c.from-hops.ensures _ _ (part_filled c.from-hops.result c.args.place.route _ (omega (arith, c.requires, c.from-hops.ensures, long)) c.in_eight-route.ensures) c.cleared-held.ensures
