-- Laws of `put_at`. Assumes nothing.
use mathlib.Core.Path.{◌≡◌, refl, sym, ap, ◌∙◌}
use mathlib.Core.List.{List, [], ◌∷◌, ◌++◌, append_assoc, append-nil}
use Prim.Native.Nat.{ℕ, ◌+◌, ◌-◌, ◌≤◌, ◌<◌}
use native.Mathlib.Nat.{add-zero, zero-add, add_assoc}
use native.Mathlib.Numerals.{add-one}
use native.Mathlib.Omega.{arith}
use lib.ListN.{length, drop, take, set, length-append, length-drop, take-append-drop, drop_of_length-le}
use lib.Seq.{length-take-le, take_at, drop-append-add, drop-drop, set_split}
use borrow.Rule.Slice.PartMut.{put_mid}
use Rattle.places.specs.Put.{put_at}
use Rattle.places.proofs.Parts.{part_rest}

pub put_length : (a : ℕ) (x d : List ℕ) → a + length x ≤ length d → length (put_at a x d) ≡ length d
unfolding put_at
put_length a x d h =
    let g : a ≤ length d = omega arith in
    rw (length-append (take a d), length-append x, length-take-le, length-drop) (omega arith)

pub put_nil : (a : ℕ) (d : List ℕ) → put_at a [] d ≡ d
unfolding put_at
put_nil a d = rw (add-zero, take-append-drop)

pub put_zero : (x d : List ℕ) → put_at 0 x d ≡ x ++ drop (length x) d
unfolding put_at
put_zero x d = rw zero-add

pub put_set : (a v : ℕ) (d : List ℕ) → a < length d → set d a v ≡ put_at a (v ∷ []) d
unfolding put_at
put_set a v d h = rw (add-one) (set_split d a v h)

pub put_put : (a : ℕ) (x y d : List ℕ) → a + length x + length y ≤ length d → put_at (a + length x) y (put_at a x d) ≡ put_at a (x ++ y) d
unfolding put_at
put_put a x y d h =
    let g : a ≤ length d = omega arith in
    let p : List ℕ = take a d ++ x in
    let n : length p ≡ a + length x = length-append (take a d) x ∙ rw length-take-le in
    let q : List ℕ = drop (a + length x) d in
    let e : take a d ++ (x ++ q) ≡ p ++ q = sym (append_assoc (take a d) x q) in
    let t : take (a + length x) (p ++ q) ≡ p = take_at p q (a + length x) n in
    let z : drop (a + length x + length y) (p ++ q) ≡ drop (a + length x + length y) d = ap (λ (k : ℕ). drop (k + length y) (p ++ q)) (sym n) ∙ drop-append-add p q (length y) ∙ drop-drop (length y) (a + length x) d in
    rw (e, t, z, append_assoc (take a d) x, append_assoc x y, length-append x y, ← add_assoc a (length x) (length y))

-- a part to the end that was lent, and into which x was put at its start
pub put_part : (a : ℕ) (x d p : List ℕ) → a ≤ length d → p ≡ x ++ drop (length x) (take (length d - a) (drop a d)) → put_mid a (length d - a) d p ≡ put_at a x d
unfolding put_at
put_part a x d p h e =
    let f : length (drop a d) ≤ length d - a = rw length-drop (omega arith) in
    let z : drop (length d - a) (drop a d) ≡ [] = drop_of_length-le (drop a d) f in
    let q : p ≡ x ++ drop (a + length x) d = e ∙ rw (part_rest, drop-drop) in
    rw (z, append-nil, q)

-- x has been put into d₀ from a on, which gave d; the next place is n
pub record Grown (a : ℕ) (d₀ x d : List ℕ) (n : ℕ) : Type 0 where
  pub next : n ≡ a + length x
  pub room : n ≤ length d₀
  pub long : length d ≡ length d₀
  pub holds : d ≡ put_at a x d₀

pub grown_none : (a : ℕ) (d : List ℕ) → a ≤ length d → Grown a d [] d a
grown_none a d h = record { next = sym (add-zero a); room = h; long = refl; holds = sym (put_nil a d) }

pub grow : (a : ℕ) (d₀ x d : List ℕ) (n : ℕ) → Grown a d₀ x d n → (y d' : List ℕ) (r : ℕ) → n + length y ≤ length d₀ → d' ≡ put_at n y d → r ≡ n + length y → Grown a d₀ (x ++ y) d' r
grow a d₀ x d n g y d' r h e q =
    let l : a + length x + length y ≤ length d₀ = omega (arith, g.next) in
    let f : n + length y ≤ length d = omega (arith, g.long) in
    record {
      next = omega (arith, g.next, length-append x y);
      room = omega arith;
      long = ap length e ∙ put_length n y d f ∙ g.long;
      holds = e ∙ rw (g.holds, g.next) (put_put a x y d₀ l);
    }

-- the same where the part from n on was lent, and y was put at its start
pub grow_part : (a : ℕ) (d₀ x d : List ℕ) (n : ℕ) → Grown a d₀ x d n → (y p : List ℕ) (r : ℕ) → n + length y ≤ length d₀ → p ≡ y ++ drop (length y) (take (length d - n) (drop n d)) → r ≡ n + length y → Grown a d₀ (x ++ y) (put_mid n (length d - n) d p) r
grow_part a d₀ x d n g y p r h e q =
    let f : n ≤ length d = omega (arith, g.long) in
    grow a d₀ x d n g y (put_mid n (length d - n) d p) r h (put_part n y d p f e) q
