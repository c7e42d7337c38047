-- `call_records::Calls::next` meets its contract. Assumes nothing.
use mathlib.Core.Path.{◌≡◌}
use borrow.Author.Rules.{rules}
use lib.ListN.{length}
use Rattle.call_records.proofs.Records.{calls_none, calls_more, calls_fewer}
use Rattle.call_records.proofs.CallsIterator.next.Goals as goal

pub returns-then-is_empty-clause-steps : goal.returns-then-is_empty-clause-steps
returns-then-is_empty-clause-steps c = let h : length c.args.self.now.0.now ≡ 0 = search rules in (calls_none _ h, calls_none _ h)

pub returns-in-Ok-clause-steps : goal.returns-in-Ok-clause-steps
returns-in-Ok-clause-steps c = let h : length c.args.self.now.0.now ≡ 0 → ⊥ = search rules in calls_more _ h _ c.in-Ok.ensures.says

pub returns-in-Ok-clause-goes : goal.returns-in-Ok-clause-goes
returns-in-Ok-clause-goes c = let h : length c.args.self.now.0.now ≡ 0 → ⊥ = search rules in
    let q = calls_fewer _ h _ c.in-Ok.ensures.says in
    record { on = λ f. (tt, tt, q); keeps = tt; rests = λ f. tt }

pub returns-in-Err-clause-steps : goal.returns-in-Err-clause-steps
returns-in-Err-clause-steps c = let h : length c.args.self.now.0.now ≡ 0 → ⊥ = search rules in calls_more _ h _ c.in-Err.ensures.says

pub returns-in-Err-clause-goes : goal.returns-in-Err-clause-goes
returns-in-Err-clause-goes c = let h : length c.args.self.now.0.now ≡ 0 → ⊥ = search rules in
    let q = calls_fewer _ h _ c.in-Err.ensures.says in
    record { on = λ f. (tt, tt, q); keeps = tt; rests = λ f. tt }
