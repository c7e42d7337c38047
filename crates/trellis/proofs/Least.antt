-- Survivor search gives the least of the list of all paths: the answer that the rules ask for.
-- Assumes nothing.
use mathlib.Core.Path.{◌≡◌, refl, sym, ◌∙◌, ap₂, subst}
use mathlib.Core.Bool.{Bool, true, false, cond}
use mathlib.Core.List.Memᴰ
use mathlib.Core.List.{List, [], ◌∷◌, reverse-reverse, Memᴰ}
use mathlib.Core.Logic.{inl, inr, ⊎_elim}
use Prim.Native.Nat.{ℕ, ◌+◌}
use native.Mathlib.Omega.{arith}
use lib.ListN.{get_or, length}
use Rattle.lists.specs.Order.{Precedes, precedes}
use Rattle.lists.proofs.Order.{precedes_refl, precedes_trans, test_precedes, test_follows}
use Rattle.trellis.specs.Trellis.{Reach, never, after, Trellis, entry, ◌▸◌, Leads, cost_to, behind, key, IsPath, path_key}
use Rattle.trellis.specs.Paths.{reached, all_paths}
use Rattle.trellis.specs.Considered.{ends_path, considered}
use Rattle.trellis.specs.Answer.{blocked, least_by, answer_from, answer, IsAnswer, AnswerRight}
use Rattle.trellis.proofs.Paths.{path_below, path_listed, listed_path, ends_path_lem, path_ends}
use Rattle.trellis.proofs.Survivor.{Offer, none, offer, Best, nobody, best, row, back, last_offer, final, scanned, answer_of, survivor}
use Rattle.trellis.proofs.Select.{IsBest, is_best, offer_not_none}
use Rattle.trellis.proofs.Optimal.{LeastTo, Survives, survives, length_row}
use Rattle.trellis.proofs.Only.{answer_only}

-- the row tells which nodes some path ends in
row_ends : (t : Trellis) (k : ℕ) → reached (get_or (row t) k never) ≡ ends_path t k
row_ends t k = go (get_or (row t) k never) (survives t k) (ends_path t k) refl
  where
    go : (x : Reach) → Survives t k (back t k) x → (b : Bool) → ends_path t k ≡ b → reached x ≡ b
    go never s false e = refl
    go never s true e = let w = ends_path_lem t k e in absurd (s w.0 w.1)
    go (after c) s b e = sym (path_ends t k (back t k) s.path) ∙ e

-- the steps scanned are those to be considered
pub scanned_right : (t : Trellis) → scanned t ≡ considered t
scanned_right (entry n s) = refl
scanned_right (t ▸ st) = ap₂ ◌+◌ (scanned_right t) (simp (row_ends, length_row))

-- keys of survivors to the nodes of the last stage are ordered as cost and node
last_first : (g : ℕ → List ℕ) (c k c' k' : ℕ) → Precedes (c ∷ 0 ∷ k ∷ []) (c' ∷ 0 ∷ k' ∷ []) → Precedes (c ∷ k ∷ g k) (c' ∷ k' ∷ g k')
last_first g c k c' k' (inl a) = inl a
last_first g c k c' k' (inr (e, inl a)) = absurd (omega arith)
last_first g c k c' k' (inr (e, inr (e₂, inl a))) = inr (e, inl a)
last_first g c k c' k' (inr (e, inr (e₂, inr (e₃, u)))) =
    inr (e, inr (e₃, subst (λ (x : ℕ). Precedes (g k) (g x)) e₃ (precedes_refl (g k))))

module _ (t : Trellis) where
  abbrev closes : ℕ → Offer
  closes i = last_offer (get_or (row t) i never)

  -- a path to i has the node offer itself, at the cost of the survivor
  last_offers : (i : ℕ) (p : List ℕ) (x : Reach) → Survives t i (back t i) x → Leads t i p → last_offer x ≡ offer (cost_to t i (back t i)) 0
  last_offers i p never s h = absurd (s p h)
  last_offers i p (after c) s h = rw s.costs

  last_offered : (i c r : ℕ) (x : Reach) → Survives t i (back t i) x → last_offer x ≡ offer c r → LeastTo t i (back t i) c × (r ≡ 0)
  last_offered i c r never s e = offer_not_none none c r refl e
  last_offered i c r (after d) s e = let h : d ≡ c = cc in (subst (λ (x : ℕ). LeastTo t i (back t i) x) h s, cc)

  not_past : (i : ℕ) (p : List ℕ) (x : Reach) → Survives t i (back t i) x → Leads t i p → Precedes (key t i (back t i)) (key t i p)
  not_past i p never s h = absurd (s p h)
  not_past i p (after c) s h = s.first p h

  none_ends : IsBest closes (length (row t)) nobody → (p : List ℕ) → IsPath t p → ⊥
  none_ends h [] l = l
  none_ends h (i ∷ p) l =
      offer_not_none (closes i) (cost_to t i (back t i)) 0 (h i (omega (arith, path_below t i p l, length_row t)))
      (last_offers i p (get_or (row t) i never) (survives t i) l)

  all_after : (c i : ℕ) → IsBest closes (length (row t)) (best c 0 i) → cost_to t i (back t i) ≡ c
      → (q : List ℕ) → IsPath t q → Precedes (key t i (back t i)) (path_key t q)
  all_after c i h e [] l = absurd l
  all_after c i h e (j ∷ q) l =
      let c' : ℕ = cost_to t j (back t j) in
      precedes_trans (key t i (back t i)) (key t j (back t j)) (key t j q)
      (rw e (last_first (λ n. behind t n (back t n)) c i c' j
      (h.2 j c' 0 (omega (arith, path_below t j q l, length_row t)) (last_offers j q (get_or (row t) j never) (survives t j) l))))
      (not_past j q (get_or (row t) j never) (survives t j) l)

  closing : (b : Best) → IsBest closes (length (row t)) b → IsAnswer t (answer_of t (scanned t) b)
  closing nobody h = (none_ends h, scanned_right t)
  closing (best c r i) h =
      let w = last_offered i c r (get_or (row t) i never) (survives t i) h.1 in
      let h₀ : IsBest closes (length (row t)) (best c 0 i) = subst (λ (x : ℕ). IsBest closes (length (row t)) (best c x i)) w.1 h in
      rw (reverse-reverse (i ∷ back t i))
      (record { path = w.0.path; first = all_after c i h₀ w.0.costs }, w.0.costs, scanned_right t)

-- SURVIVOR SEARCH IS RIGHT
pub survivor_right : (t : Trellis) → IsAnswer t (survivor t)
survivor_right t = closing t (final t) (is_best (λ i. last_offer (get_or (row t) i never)) (length (row t)))

-- the least of a list is in it, and no member comes before it
module _ (key : List ℕ → List ℕ) where
  picked_in : (b : Bool) (x y : List ℕ) (l : List (List ℕ)) (z : List ℕ) → Memᴰ z (cond b x y ∷ l) → Memᴰ z (x ∷ y ∷ l)
  picked_in b x y l z m = ⊎_elim (λ e. go b e) (λ r. Memᴰ.tail (Memᴰ.tail r)) (Memᴰ.cases_cons m)
    where
      go : (b : Bool) → z ≡ cond b x y → Memᴰ z (x ∷ y ∷ l)
      go true e = Memᴰ.head e
      go false e = Memᴰ.tail (Memᴰ.head e)

  least_in : (x : List ℕ) (l : List (List ℕ)) → Memᴰ (least_by key x l) (x ∷ l)
  least_in x [] = Memᴰ.head refl
  least_in x (y ∷ l) = picked_in (precedes (key x) (key y)) x y l (least_by key (cond (precedes (key x) (key y)) x y) l) (least_in (cond (precedes (key x) (key y)) x y) l)

  cond_first : (x y : List ℕ) → Precedes (key (cond (precedes (key x) (key y)) x y)) (key x) × Precedes (key (cond (precedes (key x) (key y)) x y)) (key y)
  cond_first x y = go (precedes (key x) (key y)) refl
    where
      go : (b : Bool) → precedes (key x) (key y) ≡ b → Precedes (key (cond b x y)) (key x) × Precedes (key (cond b x y)) (key y)
      go true e = (precedes_refl (key x), test_precedes (key x) (key y) e)
      go false e = (test_follows (key x) (key y) e, precedes_refl (key y))

  least_first : (x : List ℕ) (l : List (List ℕ)) (z : List ℕ) → Memᴰ z (x ∷ l) → Precedes (key (least_by key x l)) (key z)
  least_first x [] z m = ⊎_elim (λ e. rw e (precedes_refl (key x))) (λ r. absurd (Memᴰ.not-nil r)) (Memᴰ.cases_cons m)
  least_first x (y ∷ l) z m =
      let w : List ℕ = cond (precedes (key x) (key y)) x y in
      let f : Precedes (key (least_by key w l)) (key w) = least_first w l w (Memᴰ.head refl) in
      ⊎_elim (λ e. rw e (precedes_trans (key (least_by key w l)) (key w) (key x) f (cond_first x y).0))
      (λ r. ⊎_elim (λ e. rw e (precedes_trans (key (least_by key w l)) (key w) (key y) f (cond_first x y).1))
      (λ s. least_first w l z (Memᴰ.tail s)) (Memᴰ.cases_cons r)) (Memᴰ.cases_cons m)

from_list : (t : Trellis) (l : List (List ℕ)) → ((p : List ℕ) → IsPath t p → Memᴰ p l) → ((p : List ℕ) → Memᴰ p l → IsPath t p) → IsAnswer t (answer_from t l)
from_list t [] all listed = (λ p h. Memᴰ.not-nil (all p h), refl)
from_list t (p ∷ l) all listed =
    rw (reverse-reverse (least_by (path_key t) p l))
    (record { path = listed (least_by (path_key t) p l) (least_in (path_key t) p l); first = λ q h. least_first (path_key t) p l q (all q h) }, refl, refl)

-- THE RULE'S ANSWER is the least path with its cost and the count, or blocked where there is no
-- path
pub answer_right : AnswerRight
answer_right t = from_list t (all_paths t) (λ p h. path_listed t p h) (λ p m. listed_path t p m)

-- SURVIVOR SEARCH GIVES THE RULE'S ANSWER
pub survivor_least : (t : Trellis) → survivor t ≡ answer t
survivor_least t = answer_only t (survivor t) (answer t) (survivor_right t) (answer_right t)

-- BLOCKED EXACTLY WHEN THERE IS NO PATH
pub blocked_none : (t : Trellis) (n : ℕ) → answer t ≡ blocked n → (p : List ℕ) → IsPath t p → ⊥
blocked_none t n e = (subst (IsAnswer t) e (answer_right t)).0

pub none_blocked : (t : Trellis) → ((p : List ℕ) → IsPath t p → ⊥) → answer t ≡ blocked (considered t)
none_blocked t free = answer_only t (answer t) (blocked (considered t)) (answer_right t) (free, refl)
