-- `records::needed` meets its contract. Assumes nothing.
use mathlib.Core.Path.{◌≡◌, ◌∙◌}
use borrow.Author.Rules.{rules}
use Rattle.std.proofs.iter.Serving.{serving}
use Rattle.std.specs.List.{sum_by}
use Prim.Native.Nat.{ℕ, ◌<◌}
use lib.ListN.{length, get_or}
use Rattle.records.specs.declared.Field.{Field}
use Rattle.records.specs.Reading.{size_in}
use Rattle.records.proofs.Layouts.{layout_low}
use Rattle.records.proofs.Turns.{sizes_summed, sizes_small}
use Rattle.records.proofs.needed.Goals as goal

pub sum-requires-clause-can : goal.sum-requires-clause-can
sum-requires-clause-can c =
    let low : (k : ℕ) (d : Field) → k < length c.map.result.iter.rest.now → (get_or c.map.result.iter.rest.now k d).bit < 8 = rw (c.map.ensures.source, c.iter.ensures.rest) (layout_low c.args.fields.now c.requires.layout) in
    grind serving

pub sum-requires-clause-fits : goal.sum-requires-clause-fits
sum-requires-clause-fits c = let small = sizes_small c.args.map c.args.fields.now c.requires in search rules

pub returns : goal.returns
returns c =
    let sum : c.sum.result ≡ sum_by (size_in c.args.map) c.args.fields.now = search rules in
    (sum ∙ sizes_summed _ _, rw sum (sizes_small c.args.map c.args.fields.now c.requires))
