-- `network_file::read_link` meets its contract. Assumes nothing.
use mathlib.Core.Path.{◌∙◌}
use Rattle.refusals.proofs.Refusals.{passed_on}
use Rattle.network_file.proofs.Records.{record_small, record_refused, link_refused, link_read_lem}
use Rattle.network_file.proofs.read_link.Goals as goal

pub returns-in_err-record : goal.returns-in_err-record
returns-in_err-record c = passed_on _ _ _ c.from_residual.ensures ∙ record_refused _ _ _ c.link_layout.ensures _ c.in_err-record.ensures

pub link_of-link-requires : goal.link_of-link-requires
link_of-link-requires c = record_small 0 _ _ c.link_layout.ensures _ c.in_ok-record.ensures (λ i. (c.type_inv.rest i).fits)

pub returns-in_err-check_link : goal.returns-in_err-check_link
returns-in_err-check_link c = passed_on _ _ _ c.from_residual-in_err-check_link.ensures ∙ link_refused _ _ _ c.link_layout.ensures _ c.in_ok-record.ensures _ c.link_of-link.ensures _ c.in_err-check_link.ensures

pub returns : goal.returns
returns c = link_read_lem _ _ _ c.link_layout.ensures _ c.in_ok-record.ensures _ c.link_of-link.ensures c.in_ok-check_link.ensures
