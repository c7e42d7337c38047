-- A frame has one holder at most. Assumes nothing.
use mathlib.Core.Path.{◌≡◌, sym, ap, ap₂, ◌∙◌}
use mathlib.Core.Logic.{◌⊎◌, inl, inr, ⊎_elim}
use mathlib.Core.Bool.{Bool, true, false, ◌&&◌}
use mathlib.Core.List.Memᴰ
use mathlib.Core.List.{List, [], ◌∷◌, Memᴰ}
use Prim.Native.Nat.{ℕ}
use lib.Dec.{eqb}
use borrow.Author.Tests.{eqb-true}
use Rattle.lists.proofs.Count as tests
use Rattle.ledger.specs.Lists.{any_of, any_two}
use Rattle.ledger.specs.Sessions.{Session, Slot, slot, same_slot, slots_of, holds}
use Rattle.ledger.specs.Sound.{share_slot, frame_twice}
use Rattle.ledger.proofs.Lists.{clash, either, left_or, right_or, none_member}

same_slot_lem : (x y : Slot) → same_slot x y ≡ true → y ≡ x
same_slot_lem x y h =
    let both = tests.and_both (eqb y.link x.link) (eqb y.frame x.frame && eqb y.colour x.colour) h in
    let rest = tests.and_both (eqb y.frame x.frame) (eqb y.colour x.colour) both.1 in
    ap₂ (λ (l i : ℕ). slot l i y.colour) (eqb-true y.link x.link both.0) (eqb-true y.frame x.frame rest.0)
    ∙ ap (slot x.link x.frame) (eqb-true y.colour x.colour rest.1)

-- where a frame stands that passes a test, some frame passes it
slot_some : (p : Slot → Bool) (x : Slot) (xs : List Slot) → any_of (same_slot x) xs ≡ true → p x ≡ true → any_of p xs ≡ true
slot_some p x [] h k = h
slot_some p x (y ∷ ys) h k =
    ⊎_elim (λ e. left_or (p y) (any_of p ys) (ap p (same_slot_lem x y e) ∙ k)) (λ e. right_or (p y) (any_of p ys) (slot_some p x ys e k))
    (either (same_slot x y) (any_of (same_slot x) ys) h)

-- sessions that hold one frame share it
pub not_shared : {X : Type 0} (s u : Session) (x : Slot) → share_slot s u ≡ false → holds x s ≡ true → holds x u ≡ true → X
not_shared s u x a h k = clash (share_slot s u) (slot_some (λ y. holds y s) x (slots_of u) k h) a

pub one_holder_lem : (ss : List Session) (s u : Session) (x : Slot) → frame_twice ss ≡ false → Memᴰ s ss → Memᴰ u ss
    → holds x s ≡ true → holds x u ≡ true → s ≡ u
unfolding frame_twice
one_holder_lem [] s u x h m k p q = absurd (Memᴰ.not-nil m)
one_holder_lem (t ∷ ss) s u x h m k p q =
    let both = tests.or_neither (any_of (share_slot t) ss) (any_two share_slot ss) h in
    go both.0 (Memᴰ.cases_cons m) (Memᴰ.cases_cons k) (λ a b. one_holder_lem ss s u x both.1 a b p q)
  where
    go : any_of (share_slot t) ss ≡ false → (s ≡ t) ⊎ Memᴰ s ss → (u ≡ t) ⊎ Memᴰ u ss → (Memᴰ s ss → Memᴰ u ss → s ≡ u) → s ≡ u
    go apart (inl a) (inl b) ih = a ∙ sym b
    go apart (inl a) (inr b) ih = not_shared t u x (none_member (share_slot t) ss apart b) (ap (holds x) (sym a) ∙ p) q
    go apart (inr a) (inl b) ih = not_shared t s x (none_member (share_slot t) ss apart a) (ap (holds x) (sym b) ∙ q) p
    go apart (inr a) (inr b) ih = ih a b
