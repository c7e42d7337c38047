-- `exports::image` meets its contract. Assumes nothing.
use Rattle.refusals.proofs.Refusals.{passed_on}
use Rattle.exports.proofs.Answers.{nothing_written, again_refused, again_is}
use Rattle.exports.proofs.image.Goals as goal

pub returns-in_err-network : goal.returns-in_err-network
returns-in_err-network c = nothing_written _ _ _ (again_refused _ _ c.read_network.ensures _ c.in_err-network.was _) _ (passed_on _ _ _ c.from_residual.ensures)

pub returns : goal.returns
returns c = rw (again_is _ _ c.read_network.ensures (λ i. (c.type_inv.file i).fits) _ c.in_ok-network.was _) c.write_network.ensures
