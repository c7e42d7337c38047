-- `report::quote` meets its contract. Assumes nothing.
use mathlib.Core.Path.{refl}
use Rattle.ledger.specs.Calls.{Quote}
use Rattle.report.proofs.Answering.{answer_room, quote_turn}
use Rattle.report.proofs.quote.Goals as goal

pub put_answer-requires : goal.put_answer-requires
put_answer-requires c = answer_room c.args.st c.requires.0 c.args.place c.args.page.now (Quote c.args.route.now) _ c.quote-answer.ensures c.requires.1

pub returns : goal.returns
returns c = quote_turn c.args.st c.requires.0 c.args.place c.args.page.now _ _ c.quote-answer.ensures _ c.put_answer.ensures _ refl
