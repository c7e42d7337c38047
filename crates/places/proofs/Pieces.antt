-- Pieces one after the other: the one argument for each loop that measures or puts a piece a turn. Assumes nothing.
use mathlib.Core.Path.{◌≡◌, refl, sym, ap, ◌∙◌}
use mathlib.Core.List.{List, [], ◌++◌, append_assoc, append-nil}
use Prim.Native.Nat.{ℕ, ◌+◌, ◌-◌, ◌*◌, ◌<◌, ◌≤◌}
use native.Mathlib.Numerals.{add-one}
use native.Mathlib.Omega.{arith}
use native.Mathlib.Nat.{mul-suc}
use lib.ListN.{length, take, drop, length-append, length-drop}
use borrow.Rule.Slice.PartMut.{put_mid}
use Rattle.places.specs.Put.{put_at}
use Rattle.places.proofs.Puts.{Grown, grow, grow_part, grown_none}
use Rattle.places.proofs.Parts.{part_rest}

-- n pieces, and what is still to come from piece j on
pub record Pieces (n : ℕ) (piece rest : ℕ → List ℕ) : Type 0 where
  pub more : (j : ℕ) → j < n → rest j ≡ piece j ++ rest (j + 1)
  pub end : (j : ℕ) → n ≤ j → rest j ≡ []

-- the pieces before j have this length, after a bytes, none of them longer than k
pub record Measured (n : ℕ) (rest : ℕ → List ℕ) (a k total j : ℕ) : Type 0 where
  pub within : j ≤ n
  pub sum : total + length (rest j) ≡ a + length (rest 0)
  pub small : total ≤ a + k * j

-- the pieces before j stand in the buffer from place a on
pub record Placed (n : ℕ) (rest : ℕ → List ℕ) (a : ℕ) (buffer₀ buffer : List ℕ) (at j : ℕ) : Type 0 where
  pub within : j ≤ n
  pub done : List ℕ
  pub whole : rest 0 ≡ done ++ rest j
  pub grown : Grown a buffer₀ done buffer at

pub none_measured : (n : ℕ) (rest : ℕ → List ℕ) (a k : ℕ) → Measured n rest a k a 0
none_measured n rest a k = record { within = omega arith; sum = refl; small = omega arith }

module _ (n : ℕ) (piece rest : ℕ → List ℕ) (p : Pieces n piece rest) where
  more_long : (j : ℕ) → j < n → length (rest j) ≡ length (piece j) + length (rest (j + 1))
  more_long j h = ap length (p.more j h) ∙ length-append (piece j) (rest (j + 1))

  pub one_measured : (a k total j r : ℕ) → Measured n rest a k total j → j < n → r ≡ length (piece j) → r ≤ k → Measured n rest a k (total + r) (j + 1)
  one_measured a k total j r m h e l = record {
    within = omega arith;
    sum = omega (arith, m.sum, more_long j h);
    small = rw (add-one j, mul-suc k j) (omega (arith, m.small));
  }

  pub all_measured : (a k total j : ℕ) → Measured n rest a k total j → n ≤ j → (total ≡ a + length (rest 0)) × (total ≤ a + k * n)
  all_measured a k total j m h =
      let e : j ≡ n = omega (arith, m.within) in
      (omega (arith, m.sum, ap length (p.end j h)), rw e at m.small)

  module _ (a : ℕ) (buffer₀ : List ℕ) (room : a + length (rest 0) ≤ length buffer₀) where
    pub none_placed : Placed n rest a buffer₀ buffer₀ a 0
    none_placed = record { within = omega arith; done = []; whole = refl; grown = grown_none a buffer₀ (omega arith) }

    module _ (buffer : List ℕ) (at j : ℕ) (d : Placed n rest a buffer₀ buffer at j) where
      module _ (h : j < n) where
        fits : at + length (piece j) ≤ length buffer₀
        fits = omega (arith, ap length d.whole, length-append d.done (rest j), more_long j h, d.grown.next)

        pub piece_room : at + length (piece j) ≤ length buffer
        piece_room = omega (arith, fits, d.grown.long)

        -- in the part of the buffer that starts there
        pub part_room : length (piece j) ≤ length (take (length buffer - at) (drop at buffer))
        part_room = rw (part_rest at buffer, length-drop) (omega (arith, piece_room))

        next : (r : ℕ) (b : List ℕ) → Grown a buffer₀ (d.done ++ piece j) b r → Placed n rest a buffer₀ b r (j + 1)
        next r b g = record {
          within = omega arith;
          done = d.done ++ piece j;
          whole = d.whole ∙ rw (p.more j h) (sym (append_assoc d.done (piece j) (rest (j + 1))));
          grown = g;
        }

        -- put at its place
        pub one_placed : (r : ℕ) (b : List ℕ) → (r ≡ at + length (piece j)) × (b ≡ put_at at (piece j) buffer) → Placed n rest a buffer₀ b r (j + 1)
        one_placed r b e = next r b (grow a buffer₀ d.done buffer at d.grown (piece j) b r fits e.1 e.0)

        -- put at the start of the part that was lent
        pub one_lent : (r : ℕ) (b : List ℕ) → (r ≡ length (piece j)) × (b ≡ piece j ++ drop r (take (length buffer - at) (drop at buffer))) → Placed n rest a buffer₀ (put_mid at (length buffer - at) buffer b) (at + r) (j + 1)
        one_lent r b e =
            let q : b ≡ piece j ++ drop (length (piece j)) (take (length buffer - at) (drop at buffer)) = rw e.0 at e.1 in
            next (at + r) (put_mid at (length buffer - at) buffer b) (grow_part a buffer₀ d.done buffer at d.grown (piece j) b (at + r) fits q (ap (λ (k : ℕ). at + k) e.0))

      pub all_placed : n ≤ j → (at ≡ a + length (rest 0)) × (buffer ≡ put_at a (rest 0) buffer₀)
      all_placed h =
          let e : rest 0 ≡ d.done = d.whole ∙ rw (p.end j h) (append-nil d.done) in
          (rw e d.grown.next, rw e d.grown.holds)
