-- `state::is_live` meets its contract. Assumes nothing.
use mathlib.Core.Path.{ap, ◌∙◌}
use Rattle.std.specs.Option.{is_some}
use Rattle.table.specs.Table.{live_of}
use Rattle.table.proofs.Looking.{placed_live}
use Rattle.state.proofs.is_live.Goals as goal

pub returns : goal.returns
returns c = c.is_some.ensures ∙ ap is_some c.place_of.ensures ∙ placed_live c.args.number (live_of c.args.table)
