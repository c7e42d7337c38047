-- The rule has one answer. Assumes nothing.
use mathlib.Core.Path.{◌≡◌, refl, sym, ◌∙◌, ap, ap₂}
use mathlib.Core.List.{List, [], ◌∷◌, reverse, reverse-reverse}
use Prim.Native.Nat.{ℕ}
use Rattle.lists.proofs.Order.{precedes_antisym}
use Rattle.trellis.specs.Trellis.{Trellis, entry, ◌▸◌, Leads, behind, IsPath, path_key, Least}
use Rattle.trellis.specs.Answer.{found, blocked, AnswerOnly}

-- a path is known by its key
same_before : (t : Trellis) (i j : ℕ) (p q : List ℕ) → Leads t i p → Leads t j q → behind t i p ≡ behind t j q → p ≡ q
same_before (entry n s) i j [] [] h l e = refl
same_before (entry n s) i j [] (k ∷ q) h l e = absurd l
same_before (entry n s) i j (k ∷ p) q h l e = absurd h
same_before (t ▸ st) i j [] q h l e = absurd h
same_before (t ▸ st) i j (k ∷ p) [] h l e = absurd l
same_before (t ▸ st) i j (k ∷ p) (k' ∷ q) h l e =
    let a : k ≡ k' = cc in
    let b : behind t k p ≡ behind t k' q = cc in
    ap₂ ◌∷◌ a (same_before t k k' p q h.2 l.2 b)

same_path : (t : Trellis) (p q : List ℕ) → IsPath t p → IsPath t q → path_key t p ≡ path_key t q → p ≡ q
same_path t [] q h l e = absurd h
same_path t (i ∷ p) [] h l e = absurd l
same_path t (i ∷ p) (j ∷ q) h l e =
    let a : i ≡ j = cc in
    let b : behind t i p ≡ behind t j q = cc in
    ap₂ ◌∷◌ a (same_before t i j p q h l b)

-- there is one least path at most
pub least_only : (t : Trellis) (p q : List ℕ) → Least t p → Least t q → p ≡ q
least_only t p q a b =
    same_path t p q a.path b.path (precedes_antisym (path_key t p) (path_key t q) (a.first q b.path) (b.first p a.path))

-- THE RULE HAS ONE ANSWER
pub answer_only : AnswerOnly
answer_only t (found c n p) (found c' n' p') h l =
    let e : p ≡ p' = sym (reverse-reverse p) ∙ ap reverse (least_only t (reverse p) (reverse p') h.0 l.0) ∙ reverse-reverse p' in
    cc (h.1, l.1, h.2, l.2)
answer_only t (found c n p) (blocked n') h l = absurd (l.0 (reverse p) h.0.path)
answer_only t (blocked n) (found c' n' p') h l = absurd (h.0 (reverse p') l.0.path)
answer_only t (blocked n) (blocked n') h l = ap blocked (h.1 ∙ sym l.1)
