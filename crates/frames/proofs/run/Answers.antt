-- `frames::run` meets its contract: the text's length is within the buffer. Assumes nothing.
use mathlib.Core.Path.{sym}
use lib.Seq.{length-take-le}
use Rattle.network_file.proofs.Lent.{length_within}
use Rattle.frames.proofs.run.Goals as goal

pub slice_bounds-out-end : goal.slice_bounds-out-end
slice_bounds-out-end c = length_within _ _ _ _ c.report.ensures.written _ c.in-Ok.is

pub slice_bounds-write_all-end : goal.slice_bounds-write_all-end
slice_bounds-write_all-end c =
    sym (length-take-le _ c.report.new.out (length_within _ _ _ _ c.report.ensures.written _ c.in-Ok.is))
