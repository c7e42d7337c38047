use Rattle.numbers.proofs.Loops.{put_more, put_all}
use Rattle.numbers.proofs.write_number.Goals as goal

pub loop-i-preserved : goal.loop-i-preserved
loop-i-preserved c = put_more _ _ _ _ _ _ c.loop-i-test.true c.requires c.loop-i.invariant

pub returns : goal.returns
returns c = put_all _ _ _ _ _ _ c.loop-i-test.false c.loop-i.invariant
