-- `report::set_up` meets its contract. Assumes nothing.
use Rattle.report.proofs.Answering.{answer_room, set_up_turn}
use Rattle.report.proofs.set_up.Goals as goal

pub put_answer-requires : goal.put_answer-requires
put_answer-requires c = answer_room c.args.st c.requires.0 c.args.place c.args.page.now _ _ c.set_up-served.ensures.answer c.requires.1

pub returns : goal.returns
returns c = set_up_turn c.args.st c.requires.0 c.args.place c.args.page.now _ _ c.set_up-served.ensures.answer _ c.put_answer.ensures _ c.set_up-served.ensures.after
