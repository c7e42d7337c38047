-- `records::read_record` meets its contract. Assumes nothing.
use mathlib.Core.Path.{refl, ap}
use Prim.Native.Nat.{ℕ, ◌+◌}
use Rattle.records.proofs.Cases.{values_first, none_left, too_short, stray, again, said, refused_too, said_too}
use Rattle.records.proofs.read_record.Goals as goal

pub returns-then-is_empty : goal.returns-then-is_empty
returns-then-is_empty g c = refused_too _ _ _ _ (none_left _ _ _ c.is_empty.ensures c.if-is_empty.true)

pub returns-then-rest-used : goal.returns-then-rest-used
returns-then-rest-used g c = refused_too _ _ _ _ (too_short _ _ _ c.is_empty.ensures c.if-is_empty.false _ _ c.from-map.ensures (ap (λ (k : ℕ). 1 + k) c.needed-used.ensures.0) c.if-rest-used.true)

pub returns-then-stray-ne0 : goal.returns-then-stray-ne0
returns-then-stray-ne0 g c = refused_too _ _ _ _ (stray _ _ _ c.is_empty.ensures c.if-is_empty.false _ _ c.from-map.ensures (ap (λ (k : ℕ). 1 + k) c.needed-used.ensures.0) c.if-rest-used.false _ c.stray_bits-stray.ensures c.if-stray-ne0.true)

pub returns-then-restated : goal.returns-then-restated
returns-then-restated g c =
    let none = rw (values_first g.row.N c.args.fields.now _ _ _ c.requires.1 c.values_in-values.ensures) at c.restated.ensures in
    refused_too _ _ _ _ (again _ _ _ c.is_empty.ensures c.if-is_empty.false _ _ c.from-map.ensures (ap (λ (k : ℕ). 1 + k) c.needed-used.ensures.0) c.if-rest-used.false _ c.stray_bits-stray.ensures c.if-stray-ne0.false _ refl _ none c.if-restated.true)

pub returns : goal.returns
returns g c =
    let none = rw (values_first g.row.N c.args.fields.now _ _ _ c.requires.1 c.values_in-values.ensures) at c.restated.ensures in
    said_too _ _ _ _ _ _ (said _ _ _ c.is_empty.ensures c.if-is_empty.false _ _ c.from-map.ensures (ap (λ (k : ℕ). 1 + k) c.needed-used.ensures.0) c.if-rest-used.false _ c.stray_bits-stray.ensures c.if-stray-ne0.false _ refl _ none c.if-restated.false) c.values_in-values.ensures
