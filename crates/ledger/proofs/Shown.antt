-- What lookup shows, and the numbers of the live sessions, each once. Assumes nothing.
use mathlib.Core.Path.{◌≡◌, refl, sym, ap, subst, ◌∙◌}
use mathlib.Core.Logic.{◌⊎◌, inl, inr}
use mathlib.Core.Bool.{Bool, true, false, not, cond}
use mathlib.Core.List.Memᴰ
use mathlib.Core.List.{List, [], ◌∷◌, map, Memᴰ}
use Prim.Native.Nat.{ℕ}
use lib.Dec.{eqb}
use borrow.Author.Tests.{eq-eqb, eqb-true, not-false}
use Rattle.lists.specs.Once.{EachOnce}
use Rattle.lists.proofs.Count as tests
use Rattle.refusals.specs.Refusals.{given, refused}
use Rattle.refusals.proofs.Refusals.{not_given, past}
use Rattle.ledger.specs.Lists.{any_of, any_two}
use Rattle.ledger.specs.Sessions.{Session, View, is_live}
use Rattle.ledger.specs.Sound.{same_number, number_twice, good_session, intact}
use Rattle.ledger.specs.Calls.{look_in, lookup}
use Rattle.ledger.specs.Demand.{LiveNumbers}
use Rattle.ledger.proofs.Lists.{clash, none_member, all_member}
use Rattle.ledger.proofs.Intact.{intact_is, GoodSession, session_good}

pub lookup_intact : (v : View) (n : ℕ) → intact v ≡ true → lookup v n ≡ look_in n v.live
unfolding lookup
lookup_intact v n e = rw e

-- lookup gives a session of a state that isn't broken alone
pub lookup_given : (v : View) (n : ℕ) (s : Session) → lookup v n ≡ given s → (intact v ≡ true) × (look_in n v.live ≡ given s)
unfolding lookup
lookup_given v n s h = let a = past (not (intact v)) 0 (look_in n v.live) s h in (not-false (intact v) a.0, a.1)

-- what lookup gives is a session of the list with that number
pub looked_up : (n : ℕ) (ss : List Session) (s : Session) → look_in n ss ≡ given s → Memᴰ s ss × (s.number ≡ n)
looked_up n [] s h = absurd (not_given 19 s h)
looked_up n (x ∷ ss) s h = go (eqb x.number n) refl h (λ k. looked_up n ss s k)
  where
    go : (b : Bool) → eqb x.number n ≡ b → cond b (given x) (look_in n ss) ≡ given s
        → (look_in n ss ≡ given s → Memᴰ s ss × (s.number ≡ n)) → Memᴰ s (x ∷ ss) × (s.number ≡ n)
    go true e k ih =
        let same : s ≡ x = cc in
        (Memᴰ.head same, ap (λ (u : Session). u.number) same ∙ eqb-true x.number n e)
    go false e k ih = let r = ih k in (Memᴰ.tail r.0, r.1)

-- and one that keeps the rules
pub shown_good : (v : View) (n : ℕ) (s : Session) → lookup v n ≡ given s → GoodSession v.network s
shown_good v n s h =
    let g = lookup_given v n s h in
    session_good v.network s (all_member (good_session v.network) v.live (intact_is v g.0).sessions (looked_up n v.live s g.1).0)

-- each session of the list is given for its number
pub shown : (ss : List Session) (s : Session) → number_twice ss ≡ false → Memᴰ s ss → look_in s.number ss ≡ given s
unfolding number_twice
shown [] s h m = absurd (Memᴰ.not-nil m)
shown (x ∷ ss) s h m =
    let both = tests.or_neither (any_of (same_number x) ss) (any_two same_number ss) h in
    go (eqb x.number s.number) refl both.0 (Memᴰ.cases_cons m) (λ k. shown ss s both.1 k)
  where
    go : (b : Bool) → eqb x.number s.number ≡ b → any_of (same_number x) ss ≡ false → (s ≡ x) ⊎ Memᴰ s ss
        → (Memᴰ s ss → look_in s.number ss ≡ given s) → cond b (given x) (look_in s.number ss) ≡ given s
    go true e apart (inl p) ih = ap given (sym p)
    go true e apart (inr k) ih =
        clash (same_number x s) (eq-eqb s.number x.number (sym (eqb-true x.number s.number e))) (none_member (same_number x) ss apart k)
    go false e apart (inl p) ih = clash (eqb x.number s.number) (eq-eqb x.number s.number (ap (λ (u : Session). u.number) (sym p))) e
    go false e apart (inr k) ih = ih k

-- 19 for every other number
pub not_shown_lem : (n : ℕ) (ss : List Session) → is_live n ss ≡ false → look_in n ss ≡ refused 19
not_shown_lem n [] h = refl
not_shown_lem n (x ∷ ss) h = let both = tests.or_neither (eqb x.number n) (is_live n ss) h in rw both.0 (not_shown_lem n ss both.1)

-- ---- the numbers of the live sessions
abbrev pub numbers_of : List Session → List ℕ
numbers_of ss = map (λ s. s.number) ss

numbers_once : (ss : List Session) → number_twice ss ≡ false → EachOnce (numbers_of ss)
unfolding number_twice
numbers_once [] h = tt
numbers_once (s ∷ ss) h =
    let both = tests.or_neither (any_of (same_number s) ss) (any_two same_number ss) h in (
      λ m. let w = Memᴰ.of_map (λ u. u.number) ss m in
          clash (same_number s w.0) (eq-eqb w.0.number s.number w.2) (none_member (same_number s) ss both.0 w.1),
      numbers_once ss both.1,
    )

pub live_numbers : (v : View) → intact v ≡ true → LiveNumbers v (numbers_of v.live)
live_numbers v e =
    record {
      once = numbers_once v.live (intact_is v e).numbers;
      live = λ n. (λ m. given_for n m, λ w. number_of n w.0 w.1);
    }
  where
    given_for : (n : ℕ) → Memᴰ n (numbers_of v.live) → (s : Session) × (lookup v n ≡ given s)
    given_for n m =
        let w = Memᴰ.of_map (λ u. u.number) v.live m in
        (w.0, lookup_intact v n e ∙ subst (λ (k : ℕ). look_in k v.live ≡ given w.0) w.2 (shown v.live w.0 (intact_is v e).numbers w.1))

    number_of : (n : ℕ) (s : Session) → lookup v n ≡ given s → Memᴰ n (numbers_of v.live)
    number_of n s h =
        let w = looked_up n v.live s (lookup_given v n s h).1 in
        subst (λ (k : ℕ). Memᴰ k (numbers_of v.live)) w.1 (Memᴰ.map (λ u. u.number) w.0)
