-- `report::release` meets its contract. Assumes nothing.
use Rattle.report.proofs.Answering.{release_turn}
use Rattle.report.proofs.release.Goals as goal

pub returns : goal.returns
returns c = release_turn c.args.st c.requires.0 c.args.place c.args.page.now c.args.number _ c.release-served.ensures _ c.put_release.ensures
