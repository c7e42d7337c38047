-- Writing: the turns of each loop over the fields, and the record that they make. Assumes nothing.
use mathlib.Core.Path.{◌≡◌, refl, sym, ap, ◌∙◌}
use mathlib.Core.Bool.{Bool, true, false, not, cond}
use mathlib.Core.List.{List, [], ◌∷◌, ◌++◌, append_assoc, append-nil}
use Prim.Native.Nat.{ℕ, ◌+◌, ◌*◌, ◌-◌, ◌<◌, ◌≤◌}
use native.Mathlib.Nat.{add-zero}
use native.Mathlib.Omega.{arith}
use borrow.Rule.Slice.PartMut.{put_mid}
use lib.ListN.{length, length-append, drop, take, set, length-set}
use lib.Dec.{eqb}
use Rattle.places.specs.Put.{put_at}
use Rattle.places.proofs.Puts.{Grown, grow, grown_none, put_nil, put_part, put_set, put_zero}
use Rattle.numbers.specs.Numbers.{bytes_of}
use Rattle.numbers.proofs.Laws.{length_bytes}
use Rattle.words.specs.Word.{with_bit}
use Rattle.records.specs.declared.Field.{Field}
use Rattle.records.specs.Writing.{is_written, map_of, field_of, body_of, record_of}
use Rattle.records.specs.Layout.{is_layout, Laid}
use Rattle.records.proofs.Maps.{map_with, map_rule, map_low}
use Rattle.records.proofs.Sizes.{field_some, field_none, length_some, length_none, length_small}
use Rattle.records.proofs.Layouts.{Left, Starts, Next, all_left, first_left, one_left}

-- ---- a field
pub is_written_lem : (f : Field) (v : ℕ) → not (eqb v f.absent) ≡ is_written f v
unfolding is_written
is_written_lem f v = refl

module _ (f : Field) (v : ℕ) (b : Bool) (eb : b ≡ is_written f v) where
  pub some_long : b ≡ true → f.size ≡ length (field_of f v)
  some_long h = sym (length_some f v (sym eb ∙ h))

  pub none_long : b ≡ false → 0 ≡ length (field_of f v)
  none_long h = sym (length_none f v (sym eb ∙ h))

  module _ (d : List ℕ) (at : ℕ) where
    pub none_put : b ≡ false → (at ≡ at + length (field_of f v)) × (d ≡ put_at at (field_of f v) d)
    none_put h = rw (field_none f v (sym eb ∙ h)) (sym (add-zero at), sym (put_nil at d))

    module _ (h : b ≡ true) (room : at + length (field_of f v) ≤ length d) where
      pub some_room : at + f.size ≤ length d
      some_room = omega (arith, some_long h)

      pub some_put : (p : List ℕ) → p ≡ bytes_of f.size v ++ drop f.size (take (length d - at) (drop at d)) → (at + f.size ≡ at + length (field_of f v)) × (put_mid at (length d - at) d p ≡ put_at at (field_of f v) d)
      some_put p e =
          let l : at ≤ length d = omega (arith, some_room) in
          (ap (λ (k : ℕ). at + k) (some_long h), rw (field_some f v (sym eb ∙ h)) (put_part at (bytes_of f.size v) d p l (e ∙ rw (length_bytes f.size v))))

module _ (fs : List Field) (vs : List ℕ) where
  -- ---- the map byte: the fields before these are in it
  pub record Mapped (map : ℕ) (fields : List Field) (values : List ℕ) : Type 0 where
    pub left : Left fields values
    pub same : map_with fs 0 vs ≡ map_with fields map values

  pub none_mapped : (fields : List Field) (values : List ℕ) → Starts fs vs fields values → Mapped 0 fields values
  none_mapped fields values s = record { left = all_left fs vs fields values s; same = rw (s.same_fields, s.same_values) }

  pub all_mapped : (map : ℕ) (fields : List Field) (values : List ℕ) → is_layout fs ≡ true → Mapped map fields values → length fields ≡ 0 → (map ≡ map_of fs vs) × (map < 256)
  unfolding map_with
  all_mapped map [] values l m e =
      let e : map ≡ map_of fs vs = sym m.same ∙ map_rule fs vs l in
      (e, rw e (map_low fs vs))
  all_mapped map (f ∷ fields) values l m e = absurd (omega arith)

  -- ---- the length: that of the fields before these is in it
  pub record Measured (total : ℕ) (fields : List Field) (values : List ℕ) : Type 0 where
    pub left : Left fields values
    pub sum : total + length (body_of fields values) ≡ 1 + length (body_of fs vs)
    pub small : total + 8 * length fields ≤ 1 + 8 * length fs

  pub none_measured : (fields : List Field) (values : List ℕ) → Starts fs vs fields values → Measured 1 fields values
  none_measured fields values s = record { left = all_left fs vs fields values s; sum = rw (s.same_fields, s.same_values); small = rw s.same_fields (omega arith) }

  pub all_measured : (total : ℕ) (fields : List Field) (values : List ℕ) → Laid fs → Measured total fields values → length fields ≡ 0 → (total ≡ length (record_of fs vs)) × (total ≤ 65)
  unfolding record_of body_of
  all_measured total [] values l m e = (omega (arith, m.sum), omega (arith, m.small, l.few))
  all_measured total (f ∷ fields) values l m e = absurd (omega arith)

  -- ---- the bytes after the map byte: those of the fields before these stand in the buffer
  pub record Placed (before buffer : List ℕ) (at : ℕ) (fields : List Field) (values : List ℕ) : Type 0 where
    pub left : Left fields values
    pub done : List ℕ
    pub whole : body_of fs vs ≡ done ++ body_of fields values
    pub grown : Grown 1 before done buffer at

  module _ (before : List ℕ) (room : 1 + length (body_of fs vs) ≤ length before) where
    pub none_placed : (fields : List Field) (values : List ℕ) → Starts fs vs fields values → Placed before before 1 fields values
    none_placed fields values s = record { left = all_left fs vs fields values s; done = []; whole = rw (s.same_fields, s.same_values); grown = grown_none 1 before (omega arith) }

    pub all_placed : (buffer : List ℕ) (at : ℕ) (fields : List Field) (values : List ℕ) → Placed before buffer at fields values → length fields ≡ 0 → (at ≡ 1 + length (body_of fs vs)) × (buffer ≡ put_at 1 (body_of fs vs) before)
    unfolding body_of
    all_placed buffer at [] values d e =
        let w : body_of fs vs ≡ d.done = d.whole ∙ append-nil d.done in
        (rw w d.grown.next, rw w d.grown.holds)
    all_placed buffer at (f ∷ fields) values d e = absurd (omega arith)

  -- ---- one field more
  module _ (f : Field) (v : ℕ) (fields : List Field) (values : List ℕ) (fields₀ : List Field) (values₀ : List ℕ) (x : Next f v fields values fields₀ values₀) where
    pub one_mapped : (map r : ℕ) → Mapped map fields₀ values₀ → r ≡ cond (is_written f v) (with_bit 64 map f.bit) map → Mapped r fields values
    unfolding map_with
    one_mapped map r m e = record { left = one_left f v fields values fields₀ values₀ x m.left; same = m.same ∙ rw (x.0, x.1, e) }

    split : body_of fields₀ values₀ ≡ field_of f v ++ body_of fields values
    unfolding body_of
    split = rw (x.0, x.1)

    split_long : length (body_of fields₀ values₀) ≡ length (field_of f v) + length (body_of fields values)
    split_long = ap length split ∙ length-append (field_of f v) (body_of fields values)

    pub one_measured : (total r : ℕ) → Measured total fields₀ values₀ → r ≡ length (field_of f v) → Measured (total + r) fields values
    one_measured total r m e =
        let w : length (field_of f v) ≤ 8 = length_small f v (first_left f v fields values fields₀ values₀ x m.left).small in
        record {
          left = one_left f v fields values fields₀ values₀ x m.left;
          sum = omega (arith, m.sum, split_long);
          small = omega (arith, m.small, ap length x.0);
        }

    module _ (before buffer : List ℕ) (at : ℕ) (room : 1 + length (body_of fs vs) ≤ length before) (d : Placed before buffer at fields₀ values₀) where
      fits : at + length (field_of f v) ≤ length before
      fits = omega (arith, ap length d.whole, length-append d.done (body_of fields₀ values₀), split_long, d.grown.next)

      pub field_room : at + length (field_of f v) ≤ length buffer
      field_room = omega (arith, fits, d.grown.long)

      pub one_placed : (r : ℕ) (b : List ℕ) → (r ≡ at + length (field_of f v)) × (b ≡ put_at at (field_of f v) buffer) → Placed before b r fields values
      one_placed r b e = record {
        left = one_left f v fields values fields₀ values₀ x d.left;
        done = d.done ++ field_of f v;
        whole = d.whole ∙ rw split (sym (append_assoc d.done (field_of f v) (body_of fields values)));
        grown = grow 1 before d.done buffer at d.grown (field_of f v) b r fits e.1 e.0;
      }

  -- ---- the whole record
  module _ (rest : List ℕ) (room : length (record_of fs vs) ≤ length rest) (map : ℕ) (em : map ≡ map_of fs vs) where
    pub some_byte : 0 < length rest
    unfolding record_of
    some_byte = omega arith

    pub body_room : 1 + length (body_of fs vs) ≤ length (set rest 0 map)
    unfolding record_of
    body_room = omega (arith, length-set rest 0 map)

    pub record_put : (r : ℕ) (b : List ℕ) → (r ≡ 1 + length (body_of fs vs)) × (b ≡ put_at 1 (body_of fs vs) (set rest 0 map)) → (r ≡ length (record_of fs vs)) × (b ≡ record_of fs vs ++ drop r rest)
    unfolding record_of
    record_put r b e =
        let a : Grown 0 rest (map ∷ []) (set rest 0 map) 1 = record { next = refl; room = some_byte; long = length-set rest 0 map; holds = put_set 0 map rest some_byte } in
        let g : Grown 0 rest ((map ∷ []) ++ body_of fs vs) b r = grow 0 rest (map ∷ []) (set rest 0 map) 1 a (body_of fs vs) b r (omega arith) e.1 e.0 in
        let z : b ≡ (map ∷ body_of fs vs) ++ drop (length (map ∷ body_of fs vs)) rest = g.holds ∙ put_zero (map ∷ body_of fs vs) rest in
        let q : length (map ∷ body_of fs vs) ≡ r = omega arith in
        (omega arith, z ∙ rw em (ap (λ (k : ℕ). map_of fs vs ∷ (body_of fs vs ++ drop k rest)) q))
