-- The hop number falls at each call.
use Rattle.search.proofs.+recover.Given as goal

abbrev pub decreases-recover : goal.decreases-recover
decreases-recover l = l.j
