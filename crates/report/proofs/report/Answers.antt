-- `report::report` meets its contract. Assumes nothing.
use mathlib.Core.Path.{refl, sym}
use native.Mathlib.Omega.{arith}
use borrow.Author.Rules.{rules}
use Rattle.report.proofs.Bound.{text_bound_lem}
use Rattle.report.proofs.Whole.{short_report, long_report}
use Rattle.report.proofs.report.Goals as goal

pub returns-then-out-text_bound : goal.returns-then-out-text_bound
returns-then-out-text_bound c = let within = text_bound_lem c.args.file.now c.args.calls.now (λ i. (c.type_inv.file i).fits) in
    short_report _ _ _ within _ c.text_bound.ensures c.if-out-text_bound.true _ refl

pub put_text-requires : goal.put_text-requires
put_text-requires c = let within = text_bound_lem c.args.file.now c.args.calls.now (λ i. (c.type_inv.file i).fits) in
    omega (arith, within, c.text_bound.ensures, c.if-out-text_bound.false)

pub returns : goal.returns
returns c = let within = text_bound_lem c.args.file.now c.args.calls.now (λ i. (c.type_inv.file i).fits) in
    let n = sym c.put_text.ensures.same in
    long_report _ _ c.args.out.now within _ c.text_bound.ensures c.if-out-text_bound.false _ c.put_text.new.page refl refl c.put_text.ensures _ (search (rules, n))
