-- Pieces put one after the other: the room of each, and the whole that they make. Assumes nothing.
use mathlib.Core.Path.{◌≡◌, refl, sym, ap, ◌∙◌}
use mathlib.Core.List.{List, [], ◌∷◌, ◌++◌, append_assoc}
use Prim.Native.Nat.{ℕ, ◌+◌, ◌-◌, ◌≤◌}
use native.Mathlib.Nat.{add-zero}
use native.Mathlib.Omega.{arith}
use lib.ListN.{length, length-append}
use lib.Seq.{drop-drop}
use borrow.Rule.Slice.PartMut.{put_mid}
use Rattle.places.specs.Put.{put_at}
use Rattle.places.proofs.Puts.{put_length, put_nil, put_put}
use Rattle.text.specs.declared.Page.{Page}
use Rattle.text.specs.Inner.{HasRoom, Adds}

pub adds_none : (p : Page) → Adds [] p p
adds_none p = record { next = sym (add-zero p.at); holds = sym (put_nil p.at p.out.now); same = refl }

-- ---- x, and then y
module _ (x y : List ℕ) (p : Page) (h : HasRoom (x ++ y) p) where
  pub room_first : HasRoom x p
  room_first = omega (arith, h, length-append x y)

  module _ (q : Page) (e : Adds x p q) where
    pub room_after : HasRoom y q
    room_after = omega (arith, h, length-append x y, e.next, ap length e.holds, put_length p.at x p.out.now room_first)

    pub adds_then : (r : Page) → Adds y q r → Adds (x ++ y) p r
    adds_then r f =
        let l : p.at + length x + length y ≤ length p.out.now = omega (arith, h, length-append x y) in
        record {
          next = omega (arith, e.next, f.next, length-append x y);
          holds = f.holds ∙ rw (e.next, e.holds) (put_put p.at x y p.out.now l);
          same = f.same ∙ e.same;
        }

-- ---- any number of pieces
unfoldable pub joined : List (List ℕ) → List ℕ
joined [] = []
joined (x ∷ xs) = x ++ joined xs

-- a whole text is to be put on page o: the pieces before `rest` were put, which gave page p
pub record Upto (whole : List ℕ) (o : Page) (rest : List (List ℕ)) (p : Page) : Type 0 where
  pub fits : HasRoom (joined rest) p
  pub ends : (q : Page) → Adds (joined rest) p q → Adds whole o q

pub none_yet : (o : Page) {whole : List ℕ} {pieces : List (List ℕ)} → whole ≡ joined pieces → HasRoom whole o → Upto whole o pieces o
none_yet o {whole} {pieces} e h = record { fits = rw e at h; ends = λ (q : Page) (f : Adds (joined pieces) o q). rw e f }

module _ {whole : List ℕ} {o : Page} where
  pub piece_fits : {x : List ℕ} {p : Page} {rest : List (List ℕ)} → Upto whole o (x ∷ rest) p → HasRoom x p
  unfolding joined
  piece_fits {x} {p} {rest} u = room_first x (joined rest) p u.fits

  pub piece_put : {x : List ℕ} {p q : Page} {rest : List (List ℕ)} → Upto whole o (x ∷ rest) p → Adds x p q → Upto whole o rest q
  unfolding joined
  piece_put {x} {p} {q} {rest} u e = record {
    fits = room_after x (joined rest) p u.fits q e;
    ends = λ (r : Page) (f : Adds (joined rest) q r). u.ends r (adds_then x (joined rest) p u.fits q e r f);
  }

  -- a piece in two parts
  pub two_parts : {x y : List ℕ} {p : Page} {rest : List (List ℕ)} → Upto whole o ((x ++ y) ∷ rest) p → Upto whole o (x ∷ y ∷ rest) p
  unfolding joined
  two_parts {x} {y} {p} {rest} u =
      let e : (x ++ y) ++ joined rest ≡ x ++ (y ++ joined rest) = append_assoc x y (joined rest) in
      record { fits = rw e at u.fits; ends = λ (q : Page) (f : Adds (x ++ (y ++ joined rest)) p q). u.ends q (rw e f) }

  pub all_put : {p : Page} → Upto whole o [] p → Adds whole o p
  unfolding joined
  all_put {p} u = u.ends p (adds_none p)

-- bytes that were copied to a part of a buffer
pub put_slice : (at : ℕ) (x o p : List ℕ) → p ≡ x → put_mid at (at + length x - at) o p ≡ put_at at x o
unfolding put_at
put_slice at x o p e = let n : at + length x - at ≡ length x = omega arith in rw (n, e, drop-drop (length x) at o)
