use Rattle.std.proofs.Common.{◌≤◌, length, take, eqb, ◌∙◌, rules, tests}
use Rattle.std.proofs.lemmas.Iterator.{YieldsList-from_slice}
use Rattle.std.proofs.lemmas.Iterator.Search.{position_from_yields_List}
use Rattle.table.specs.declared.Place.{Place}
use Rattle.table.proofs.Looking.{stored_place}
use Rattle.table.proofs.place_of.Goals as goal

pub returns : goal.returns
returns c =
    let t = c.args.table in
    let few : t.live ≤ length t.places = search rules in
    position_from_yields_List (λ (p : Place). eqb p.number c.args.number) _ _ _ c.position.ensures.ran (YieldsList-from_slice (take t.live t.places) cc) (λ x b q k. search (rules, tests)) ∙ stored_place _ _ _ few
