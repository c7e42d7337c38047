use Rattle.places.proofs.Pieces.{none_placed, part_room, one_lent, all_placed}
use Rattle.network_file.proofs.Images.{links_pieces}
use Rattle.network_file.proofs.write_links.Goals as goal

pub loop-link-init : goal.loop-link-init
loop-link-init c = none_placed _ _ _ (links_pieces _) _ _ c.requires

pub write_link-at-requires : goal.write_link-at-requires
write_link-at-requires c = part_room _ _ _ (links_pieces c.args.links.now) 3 c.args.buffer.now c.requires c.loop-link.buffer c.loop-link.at c.loop-link.link-index c.loop-link.invariant c.loop-link-test.true

pub loop-link-preserved : goal.loop-link-preserved
loop-link-preserved c = one_lent _ _ _ (links_pieces c.args.links.now) 3 c.args.buffer.now c.requires c.loop-link.buffer c.loop-link.at c.loop-link.link-index c.loop-link.invariant c.loop-link-test.true _ _ c.write_link-at.ensures

pub returns : goal.returns
returns c = (all_placed _ _ _ (links_pieces _) _ _ c.requires _ _ _ c.loop-link.invariant c.loop-link-test.false).1
