-- Laws of tests and of the tests over lists. Assumes nothing.
use mathlib.Core.Path.{◌≡◌, refl, sym, ap, ap₂, ◌∙◌}
use mathlib.Core.Logic.{◌⊎◌, inl, inr, ⊎_elim}
use mathlib.Core.Bool.{Bool, true, false, not, ◌&&◌, ◌||◌, cond, true≢false, false≢true, or-false, or_assoc, and-true, and_assoc}
use mathlib.Core.List.Memᴰ
use mathlib.Core.List.{List, [], ◌∷◌, ◌++◌, Memᴰ}
use Prim.Native.Nat.{ℕ, zero, suc, ◌<◌, ◌≤◌}
use native.Mathlib.Nat.{not-suc-le-zero, le_of_suc-le-suc}
use native.Mathlib.Omega.{arith}
use lib.ListN.{length, get_or}
use lib.Dec.{eqb}
use borrow.Author.Tests.{eq-eqb, eqb-true, ne_eqb, eqb-false}
use Rattle.lists.proofs.Count as tests
use Rattle.ledger.specs.Lists.{all_of, any_of, any_two, keep, same_list}

-- ---- tests
pub neither_or : (a b : Bool) → a ≡ false → b ≡ false → a || b ≡ false
neither_or a b p q = rw (p, q)

pub left_or : (a b : Bool) → a ≡ true → a || b ≡ true
left_or a b p = rw p

pub right_or : (a b : Bool) → b ≡ true → a || b ≡ true
right_or true b p = refl
right_or false b p = p

pub either : (a b : Bool) → a || b ≡ true → (a ≡ true) ⊎ (b ≡ true)
either true b e = inl refl
either false b e = inr e

-- a test doesn't both pass and fail
pub clash : {X : Type 0} (a : Bool) → a ≡ true → a ≡ false → X
clash a p q = absurd (true≢false (sym p ∙ q))

pub eqb_flip : (a b : ℕ) → eqb a b ≡ eqb b a
eqb_flip a b = go (eqb b a) refl
  where
    go : (t : Bool) → eqb b a ≡ t → eqb a b ≡ t
    go true e = eq-eqb a b (sym (eqb-true b a e))
    go false e = ne_eqb a b (λ q. eqb-false b a e (sym q))

-- four tests, the inner two in the other order
pub or_middle : (a b c d : Bool) → ((a || b) || (c || d)) ≡ ((a || c) || (b || d))
or_middle true b c d = refl
or_middle false true true d = refl
or_middle false true false d = refl
or_middle false false c d = refl

-- ---- lists
module _ {A : Type 0} where
  -- with one element more
  pub all_snoc : (p : A → Bool) (xs : List A) (x : A) → all_of p (xs ++ (x ∷ [])) ≡ (all_of p xs && p x)
  all_snoc p [] x = and-true (p x)
  all_snoc p (y ∷ ys) x = ap (λ (b : Bool). p y && b) (all_snoc p ys x) ∙ sym (and_assoc (p y) (all_of p ys) (p x))

  pub any_snoc : (p : A → Bool) (xs : List A) (x : A) → any_of p (xs ++ (x ∷ [])) ≡ (any_of p xs || p x)
  any_snoc p [] x = or-false (p x)
  any_snoc p (y ∷ ys) x = ap (λ (b : Bool). p y || b) (any_snoc p ys x) ∙ sym (or_assoc (p y) (any_of p ys) (p x))

  pub any_two_snoc : (r : A → A → Bool) (xs : List A) (x : A) → any_two r (xs ++ (x ∷ [])) ≡ (any_two r xs || any_of (λ y. r y x) xs)
  any_two_snoc r [] x = refl
  any_two_snoc r (y ∷ ys) x =
      ap₂ (λ (a b : Bool). a || b) (any_snoc (r y) ys x) (any_two_snoc r ys x)
      ∙ or_middle (any_of (r y) ys) (r y x) (any_two r ys) (any_of (λ z. r z x) ys)

  -- by tests that say the same
  pub any_cong : (p q : A → Bool) (xs : List A) → ((x : A) → p x ≡ q x) → any_of p xs ≡ any_of q xs
  any_cong p q [] same = refl
  any_cong p q (y ∷ ys) same = rw (same y, any_cong p q ys same)

  -- one or the other test
  pub any_or : (p q : A → Bool) (xs : List A) → any_of (λ x. p x || q x) xs ≡ (any_of p xs || any_of q xs)
  any_or p q [] = refl
  any_or p q (y ∷ ys) = ap (λ (b : Bool). (p y || q y) || b) (any_or p q ys) ∙ or_middle (p y) (q y) (any_of p ys) (any_of q ys)

  any_none : (xs : List A) → any_of (λ x. false) xs ≡ false
  any_none [] = refl
  any_none (x ∷ xs) = any_none xs

  -- lists that agree place by place are equal, and back
  pub same_list_lem : (r : A → A → Bool) → ((x y : A) → r x y ≡ true → x ≡ y) → (xs ys : List A) → same_list r xs ys ≡ true → xs ≡ ys
  same_list_lem r equal [] [] h = refl
  same_list_lem r equal [] (y ∷ ys) h = absurd (false≢true h)
  same_list_lem r equal (x ∷ xs) [] h = absurd (false≢true h)
  same_list_lem r equal (x ∷ xs) (y ∷ ys) h =
      let both = tests.and_both (r x y) (same_list r xs ys) h in
      ap₂ ◌∷◌ (equal x y both.0) (same_list_lem r equal xs ys both.1)

  pub list_same : (r : A → A → Bool) → ((x : A) → r x x ≡ true) → (xs : List A) → same_list r xs xs ≡ true
  list_same r self [] = refl
  list_same r self (x ∷ xs) = tests.both_and (r x x) (same_list r xs xs) (self x) (list_same r self xs)

  -- what a test over a list says of a member
  pub all_member : (p : A → Bool) {x : A} (xs : List A) → all_of p xs ≡ true → Memᴰ x xs → p x ≡ true
  all_member p [] h m = absurd (Memᴰ.not-nil m)
  all_member p (y ∷ ys) h m =
      let both = tests.and_both (p y) (all_of p ys) h in
      ⊎_elim (λ e. ap p e ∙ both.0) (λ k. all_member p ys both.1 k) (Memᴰ.cases_cons m)

  pub none_member : (p : A → Bool) {x : A} (xs : List A) → any_of p xs ≡ false → Memᴰ x xs → p x ≡ false
  none_member p [] h m = absurd (Memᴰ.not-nil m)
  none_member p (y ∷ ys) h m =
      let both = tests.or_neither (p y) (any_of p ys) h in
      ⊎_elim (λ e. ap p e ∙ both.0) (λ k. none_member p ys both.1 k) (Memᴰ.cases_cons m)

  -- where no element passes, every one fails
  pub none_all : (p : A → Bool) (xs : List A) → any_of p xs ≡ false → all_of (λ x. not (p x)) xs ≡ true
  none_all p [] h = refl
  none_all p (y ∷ ys) h =
      let both = tests.or_neither (p y) (any_of p ys) h in
      tests.both_and (not (p y)) (all_of (λ x. not (p x)) ys) (ap not both.0) (none_all p ys both.1)

  -- what holds of a list holds of the elements kept
  pub all_keep : (p q : A → Bool) (xs : List A) → all_of p xs ≡ true → all_of p (keep q xs) ≡ true
  all_keep p q [] h = h
  all_keep p q (y ∷ ys) h = let both = tests.and_both (p y) (all_of p ys) h in go (q y) both.0 (all_keep p q ys both.1)
    where
      go : (b : Bool) → p y ≡ true → all_of p (keep q ys) ≡ true → all_of p (cond b (y ∷ keep q ys) (keep q ys)) ≡ true
      go true e ih = tests.both_and (p y) (all_of p (keep q ys)) e ih
      go false e ih = ih

  pub any_keep : (p q : A → Bool) (xs : List A) → any_of p xs ≡ false → any_of p (keep q xs) ≡ false
  any_keep p q [] h = h
  any_keep p q (y ∷ ys) h = let both = tests.or_neither (p y) (any_of p ys) h in go (q y) both.0 (any_keep p q ys both.1)
    where
      go : (b : Bool) → p y ≡ false → any_of p (keep q ys) ≡ false → any_of p (cond b (y ∷ keep q ys) (keep q ys)) ≡ false
      go true e ih = neither_or (p y) (any_of p (keep q ys)) e ih
      go false e ih = ih

  pub any_two_keep : (r : A → A → Bool) (q : A → Bool) (xs : List A) → any_two r xs ≡ false → any_two r (keep q xs) ≡ false
  any_two_keep r q [] h = h
  any_two_keep r q (y ∷ ys) h =
      let both = tests.or_neither (any_of (r y) ys) (any_two r ys) h in
      go (q y) (any_keep (r y) q ys both.0) (any_two_keep r q ys both.1)
    where
      go : (b : Bool) → any_of (r y) (keep q ys) ≡ false → any_two r (keep q ys) ≡ false → any_two r (cond b (y ∷ keep q ys) (keep q ys)) ≡ false
      go true e ih = neither_or (any_of (r y) (keep q ys)) (any_two r (keep q ys)) e ih
      go false e ih = ih

  pub length_keep : (q : A → Bool) (xs : List A) → length (keep q xs) ≤ length xs
  length_keep q [] = omega arith
  length_keep q (y ∷ ys) = go (q y) (length_keep q ys)
    where
      go : (b : Bool) → length (keep q ys) ≤ length ys → length (cond b (y ∷ keep q ys) (keep q ys)) ≤ suc (length ys)
      go true ih = omega arith
      go false ih = omega arith

  -- where every element passes, all are kept
  pub keep_all : (q : A → Bool) (xs : List A) → all_of q xs ≡ true → keep q xs ≡ xs
  keep_all q [] h = refl
  keep_all q (y ∷ ys) h = let both = tests.and_both (q y) (all_of q ys) h in go (q y) both.0 (keep_all q ys both.1)
    where
      go : (b : Bool) → b ≡ true → keep q ys ≡ ys → cond b (y ∷ keep q ys) (keep q ys) ≡ y ∷ ys
      go true e ih = ap (λ (l : List A). y ∷ l) ih
      go false e ih = absurd (false≢true e)

  -- the members kept are the members that pass
  pub kept_member : (q : A → Bool) {x : A} (xs : List A) → Memᴰ x (keep q xs) → Memᴰ x xs × (q x ≡ true)
  kept_member q [] m = absurd (Memᴰ.not-nil m)
  kept_member q {x} (y ∷ ys) m = go (q y) refl (λ k. kept_member q ys k) m
    where
      go : (b : Bool) → q y ≡ b → (Memᴰ x (keep q ys) → Memᴰ x ys × (q x ≡ true)) → Memᴰ x (cond b (y ∷ keep q ys) (keep q ys))
          → Memᴰ x (y ∷ ys) × (q x ≡ true)
      go true e ih k =
          ⊎_elim (λ s. (Memᴰ.head s, ap q s ∙ e)) (λ t. let r = ih t in (Memᴰ.tail r.0, r.1)) (Memᴰ.cases_cons k)
      go false e ih k = let r = ih k in (Memᴰ.tail r.0, r.1)

  pub member_kept : (q : A → Bool) {x : A} (xs : List A) → Memᴰ x xs → q x ≡ true → Memᴰ x (keep q xs)
  member_kept q [] m h = absurd (Memᴰ.not-nil m)
  member_kept q {x} (y ∷ ys) m h = go (q y) refl (λ k. member_kept q ys k h) (Memᴰ.cases_cons m)
    where
      go : (b : Bool) → q y ≡ b → (Memᴰ x ys → Memᴰ x (keep q ys)) → (x ≡ y) ⊎ Memᴰ x ys → Memᴰ x (cond b (y ∷ keep q ys) (keep q ys))
      go true e ih (inl s) = Memᴰ.head s
      go true e ih (inr t) = Memᴰ.tail (ih t)
      go false e ih (inl s) = clash (q y) (ap q (sym s) ∙ h) e
      go false e ih (inr t) = ih t

  -- what stands at a place of a list is a member
  pub member_at : (xs : List A) (k : ℕ) (d : A) → k < length xs → Memᴰ (get_or xs k d) xs
  member_at [] k d h = absurd (not-suc-le-zero h)
  member_at (y ∷ ys) zero d h = Memᴰ.head refl
  member_at (y ∷ ys) (suc k) d h = Memᴰ.tail (member_at ys k d (le_of_suc-le-suc h))

  -- at two places
  pub any_two_at : (r : A → A → Bool) (xs : List A) (j k : ℕ) (d : A) → any_two r xs ≡ false → j < k → k < length xs → r (get_or xs j d) (get_or xs k d) ≡ false
  any_two_at r [] j k d h l m = absurd (not-suc-le-zero m)
  any_two_at r (y ∷ ys) j zero d h l m = absurd (not-suc-le-zero l)
  any_two_at r (y ∷ ys) zero (suc k) d h l m =
      none_member (r y) ys (tests.or_neither (any_of (r y) ys) (any_two r ys) h).0 (member_at ys k d (le_of_suc-le-suc m))
  any_two_at r (y ∷ ys) (suc j) (suc k) d h l m =
      any_two_at r ys j k d (tests.or_neither (any_of (r y) ys) (any_two r ys) h).1 (le_of_suc-le-suc l) (le_of_suc-le-suc m)

-- some of one list with some of another: either list may come first
pub any_swap : {A B : Type 0} (r : A → B → Bool) (xs : List A) (ys : List B) → any_of (λ x. any_of (r x) ys) xs ≡ any_of (λ y. any_of (λ x. r x y) xs) ys
any_swap r [] ys = sym (any_none ys)
any_swap r (x ∷ xs) ys = ap (λ (b : Bool). any_of (r x) ys || b) (any_swap r xs ys) ∙ sym (any_or (r x) (λ y. any_of (λ z. r z y) xs) ys)
