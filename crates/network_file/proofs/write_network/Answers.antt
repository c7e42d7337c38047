-- `network_file::write_network` meets its contract. Assumes nothing.
use mathlib.Core.Path.{sym}
use borrow.Author.Rules.{rules}
use native.Mathlib.Omega.{arith}
use Rattle.std.proofs.lemmas.Grind.{common_steps}
use Rattle.refusals.proofs.Refusals.{passed_on}
use Rattle.network_file.proofs.Images.{few, check_refused, short, two_room, three_room, image_written}
use Rattle.network_file.proofs.write_network.Goals as goal

pub returns-in_err-check_network : goal.returns-in_err-check_network
returns-in_err-check_network c = check_refused c.args.network _ c.in_err-check_network.ensures _ _ (passed_on _ _ _ c.from_residual.ensures)

pub slice_bounds-places-end : goal.slice_bounds-places-end
slice_bounds-places-end c = let few = few c.args.network (sym c.in_ok-check_network.ensures) in search rules

pub slice_bounds-links-end : goal.slice_bounds-links-end
slice_bounds-links-end c = let few = few c.args.network (sym c.in_ok-check_network.ensures) in grind (arith, common_steps)

pub links_length-length-requires : goal.links_length-length-requires
links_length-length-requires c = let few = few c.args.network (sym c.in_ok-check_network.ensures) in grind (arith, common_steps)

pub returns-then-buffer-length : goal.returns-then-buffer-length
returns-then-buffer-length c = short c.args.network (sym c.in_ok-check_network.ensures) (let few = few c.args.network (sym c.in_ok-check_network.ensures) in search rules) _ c.links_length-length.ensures.0 _ c.if-buffer-length.true

pub overflow_cast-buffer : goal.overflow_cast-buffer
overflow_cast-buffer c = omega (arith, few c.args.network (sym c.in_ok-check_network.ensures))

pub bounds-buffer-2 : goal.bounds-buffer-2
bounds-buffer-2 c = two_room c.args.network (sym c.in_ok-check_network.ensures) (let few = few c.args.network (sym c.in_ok-check_network.ensures) in search rules) _ c.links_length-length.ensures.0 c.args.buffer.now c.if-buffer-length.false _ (rw c.from.ensures at c.write_number.ensures)

pub write_links-requires : goal.write_links-requires
write_links-requires c = three_room c.args.network (sym c.in_ok-check_network.ensures) (let few = few c.args.network (sym c.in_ok-check_network.ensures) in search rules) _ c.links_length-length.ensures.0 c.args.buffer.now c.if-buffer-length.false _ (rw c.from.ensures at c.write_number.ensures)

pub returns : goal.returns
returns c = image_written c.args.network (sym c.in_ok-check_network.ensures) (let few = few c.args.network (sym c.in_ok-check_network.ensures) in search rules) _ c.links_length-length.ensures.0 c.args.buffer.now c.if-buffer-length.false _ (rw c.from.ensures at c.write_number.ensures) _ c.write_links.ensures
