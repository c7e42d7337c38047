-- A link record: its layout, its values, and the cases of reading it. Assumes nothing.
use mathlib.Core.Path.{◌≡◌, refl, sym, ◌∙◌}
use mathlib.Core.Bool.{true, false, true≢false}
use mathlib.Core.List.{List}
use Prim.Native.Nat.{ℕ, zero, suc, ◌<◌, ◌≤◌}
use native.Mathlib.Omega.{arith}
use borrow.Author.Tests.{ne_eqb}
use lib.ListN.{get_or}
use Rattle.refusals.specs.Refusals.{given, refused, pass, refused_or}
use Rattle.words.proofs.Words.{word_below}
use Rattle.words.proofs.Bits.{bit_high}
use Rattle.network.specs.declared.Link.{Link}
use Rattle.network.specs.Checks.{link_check}
use Rattle.records.specs.declared.Record.{Record}
use Rattle.records.specs.declared.Field.{Field}
use Rattle.records.specs.Reading.{Said, read_record, said_of}
use Rattle.records.specs.Layout.{is_bit, is_layout, Laid, Fits}
use Rattle.records.proofs.Layouts.{fits_at}
use Rattle.records.proofs.Maps.{none_stray, stray_none}
use Rattle.records.proofs.ReadWrite.{Whole, record_only}
use Rattle.network_file.specs.Fields.{link_layout, link_of}
use Rattle.network_file.specs.Reading.{read_link, StrayAbove, AboveStray}

pub link_layout_lem : is_layout link_layout ≡ true
unfolding is_layout is_bit link_layout
link_layout_lem = refl

pub link_laid : Laid link_layout
unfolding link_layout
link_laid = record { few = omega arith; layout = link_layout_lem }

-- 5, "A map byte has a bit above bit" 3, in its own words: no bit is stray exactly where the map byte is below 16
no_bit : (i : ℕ) → 4 ≤ i → is_bit link_layout i ≡ false
unfolding is_bit link_layout
no_bit i h = rw (ne_eqb i 0 (λ e. omega arith), ne_eqb i 1 (λ e. omega arith), ne_eqb i 2 (λ e. omega arith), ne_eqb i 3 (λ e. omega arith))

some_bit : (i : ℕ) → is_bit link_layout i ≡ false → 4 ≤ i
unfolding is_bit link_layout
some_bit zero e = absurd (true≢false e)
some_bit (suc zero) e = absurd (true≢false e)
some_bit (suc (suc zero)) e = absurd (true≢false e)
some_bit (suc (suc (suc zero))) e = absurd (true≢false e)
some_bit (suc (suc (suc (suc i)))) e = omega arith

pub stray_above : StrayAbove
stray_above map h e = word_below 64 4 map (omega arith) (omega arith) (λ i g. stray_none link_layout map h e i (no_bit i g))

pub above_stray : AboveStray
above_stray map h = none_stray link_layout map (λ i e. bit_high 4 map i h (some_bit i e))

-- K, Z and Y that fit in their fields fit in a byte
pub fields_small : (vs : List ℕ) → Fits link_layout vs → (get_or vs 0 0 < 256) × (get_or vs 1 0 < 256) × (get_or vs 3 0 < 256)
unfolding link_layout
fields_small vs h = (fits_at link_layout vs h 0 (omega arith), fits_at link_layout vs h 1 (omega arith), fits_at link_layout vs h 3 (omega arith))

-- ---- reading
pub link_said : (T : ℕ) (s : List ℕ) (x : Said) → read_record link_layout s ≡ given x → read_link T s ≡ refused_or (link_check T (link_of x.values)) (given (record { link = link_of x.values; used = x.used }))
unfolding read_link
link_said T s x e = rw e

module _ (T : ℕ) (s : List ℕ) (fields : List Field) (ef : fields ≡ link_layout) where
  pub record_refused : (m : ℕ) → refused m ≡ read_record fields s → refused m ≡ read_link T s
  unfolding read_link
  record_refused m e = rw (← ef, ← e)

  module _ (r : Record 4) (e : given (said_of r) ≡ read_record fields s) where
    said : read_record link_layout s ≡ given (said_of r)
    said = sym (rw ef at e)

    pub record_small : ((i : ℕ) → get_or s i 0 < 256) → (get_or r.values 0 0 < 256) × (get_or r.values 1 0 < 256) × (get_or r.values 3 0 < 256)
    record_small b =
        let w : Whole link_layout s (said_of r) = record_only link_layout s (said_of r) link_layout_lem b said in
        fields_small r.values w.fit

    module _ (l : Link) (el : l ≡ link_of r.values) where
      split : read_link T s ≡ refused_or (link_check T l) (given (record { link = l; used = r.used }))
      split = link_said T s (said_of r) said ∙ rw el

      pub link_refused : (m : ℕ) → refused m ≡ link_check T l → refused m ≡ read_link T s
      link_refused m p = sym (split ∙ rw (← p))

      pub link_read_lem : given pass ≡ link_check T l → given (record { link = l; used = r.used }) ≡ read_link T s
      link_read_lem p = sym (split ∙ rw (← p))
