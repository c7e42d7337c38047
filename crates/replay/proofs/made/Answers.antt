-- `replay::made` meets its contract. Assumes nothing.
use Rattle.replay.proofs.Replaying.{set_up_made, quote_made, release_made}
use Rattle.replay.proofs.made.Goals as goal

pub returns-in-SetUp : goal.returns-in-SetUp
returns-in-SetUp c = set_up_made c.args.st c.requires c.args.call _ _ c.in-SetUp.is _ c.set_up.ensures

pub returns-in-Quote : goal.returns-in-Quote
returns-in-Quote c = quote_made c.args.st c.requires c.args.call _ c.in-Quote.is

pub returns-in-Release : goal.returns-in-Release
returns-in-Release c = release_made c.args.st c.requires c.args.call _ c.in-Release.is _ c.release.ensures
