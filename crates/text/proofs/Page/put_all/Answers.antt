-- `text::Page::put_all` meets its contract. Assumes nothing.
use Rattle.text.proofs.Chains.{piece_fits, piece_put}
use Rattle.text.proofs.Pieces.{none_spaced, one_spaced, all_spaced}
use Rattle.text.proofs.Page.put_all.Goals as goal

pub loop-n-init : goal.loop-n-init
loop-n-init c = none_spaced c.args.ns.now c.args.self.now c.requires

pub put_spaced-requires : goal.put_spaced-requires
put_spaced-requires c = let loop = c.loop-n in
    rw c.from.ensures (piece_fits (one_spaced c.args.ns.now c.args.self.now loop.n-index loop.self c.loop-n-test.true loop.invariant))

pub loop-n-preserved : goal.loop-n-preserved
loop-n-preserved c = let loop = c.loop-n in
    piece_put (one_spaced c.args.ns.now c.args.self.now loop.n-index loop.self c.loop-n-test.true loop.invariant) (rw c.from.ensures at c.put_spaced.ensures)

pub returns : goal.returns
returns c = let loop = c.loop-n in all_spaced c.args.ns.now c.args.self.now loop.n-index loop.self c.loop-n-test.false loop.invariant
