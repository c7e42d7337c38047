-- `network_file::read_network` meets its contract. Assumes nothing.
use Rattle.network_file.proofs.Files.{file_short, count_bad, ticks_small, cycle_bad, count_good, head_good}
use Rattle.network_file.proofs.read_network.Goals as goal

pub returns-then-file-lt3 : goal.returns-then-file-lt3
returns-then-file-lt3 c = file_short _ c.if-file-lt3.true

pub returns-then-bad_count : goal.returns-then-bad_count
returns-then-bad_count c = count_bad _ c.if-file-lt3.false _ c.from-count.ensures _ c.bad_count.ensures c.if-bad_count.true

pub overflow_cast-ticks : goal.overflow_cast-ticks
overflow_cast-ticks c = record { fits = ticks_small _ (λ i. (c.type_inv.file i).fits) _ c.read_number-ticks.ensures }

pub returns-then-bad_cycle : goal.returns-then-bad_cycle
returns-then-bad_cycle c = cycle_bad _ c.if-file-lt3.false _ c.from-count.ensures _ c.bad_count.ensures c.if-bad_count.false _ c.read_number-ticks.ensures _ c.bad_cycle.ensures c.if-bad_cycle.true

pub read_links-requires : goal.read_links-requires
read_links-requires c = count_good c.args.file.now c.if-file-lt3.false _ c.from-count.ensures _ c.bad_count.ensures c.if-bad_count.false

pub returns : goal.returns
returns c = head_good _ c.if-file-lt3.false _ c.from-count.ensures _ c.bad_count.ensures c.if-bad_count.false _ c.read_number-ticks.ensures _ c.bad_cycle.ensures c.if-bad_cycle.false _ c.read_links.ensures
