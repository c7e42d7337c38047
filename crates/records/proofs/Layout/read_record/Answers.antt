-- `records::Layout::read_record` meets its contract. Assumes nothing.
use mathlib.Core.Path.{◌∙◌}
use native.Mathlib.Omega.{arith}
use Rattle.records.proofs.Cases.{all_in_places}
use Rattle.records.proofs.Layout.read_record.Goals as goal

pub returns : goal.returns
returns g c = c.read_record.ensures ∙ all_in_places g.row.N c.args.self.now.fields _ c.args.self.now.laid.layout (λ i. (c.type_inv.rest i).fits) (omega arith)
