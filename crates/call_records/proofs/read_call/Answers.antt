-- `call_records::read_call` meets its contract. Assumes nothing.
use mathlib.Core.Path.{◌∙◌}
use borrow.Author.Rules.{rules}
use Rattle.call_records.specs.Records.{first_call}
use Rattle.call_records.proofs.Cases.{first_none, first_by, first_other}
use Rattle.call_records.proofs.read_call.Goals as goal

pub returns-in_err-kind : goal.returns-in_err-kind
returns-in_err-kind c = rw c.from_residual.ensures (first_none _ c.in_err-kind.ensures.cases)

pub returns-in-1 : goal.returns-in-1
unfolding first_call
returns-in-1 c = c.read_set_up.ensures ∙ first_by _ _ _ c.in_ok-kind.ensures.cases.0 1 c.in-1.is

pub returns-in-2 : goal.returns-in-2
unfolding first_call
returns-in-2 c = c.read_quote.ensures ∙ first_by _ _ _ c.in_ok-kind.ensures.cases.0 2 c.in-2.is

pub returns-in-3 : goal.returns-in-3
unfolding first_call
returns-in-3 c = c.read_release.ensures ∙ first_by _ _ _ c.in_ok-kind.ensures.cases.0 3 c.in-3.is

pub returns-in-4 : goal.returns-in-4
unfolding first_call
returns-in-4 c = c.read_set_up-in-4.ensures ∙ first_by _ _ _ c.in_ok-kind.ensures.cases.0 4 c.in-4.is

pub returns-in-5 : goal.returns-in-5
unfolding first_call
returns-in-5 c = c.read_release-in-5.ensures ∙ first_by _ _ _ c.in_ok-kind.ensures.cases.0 5 c.in-5.is

pub returns-in_default : goal.returns-in_default
returns-in_default c = first_other _ _ _ c.in_ok-kind.ensures.cases.0 (search rules) (search rules) (search rules) (search rules) (search rules)
