-- A release frees exactly its session's frames. Assumes nothing.
use mathlib.Core.Path.{◌≡◌, refl, sym, ap, ◌∙◌}
use mathlib.Core.Bool.{Bool, true, false, not, ◌&&◌, ◌||◌, cond}
use mathlib.Core.List.{List, [], ◌∷◌, Memᴰ}
use Prim.Native.Nat.{ℕ}
use lib.Dec.{eqb}
use borrow.Author.Tests.{eqb-true, eqb-false}
use Rattle.refusals.specs.Refusals.{given}
use Rattle.refusals.proofs.Refusals.{not_given}
use Rattle.ledger.specs.Lists.{keep}
use Rattle.ledger.specs.Sessions.{Session, View, Slot, holds, held_in, is_live}
use Rattle.ledger.specs.Sound.{intact}
use Rattle.ledger.specs.Calls.{Release, Reply, freed, call_check, granted, reply, effect, other_than, live_after, left, next, look_in, ReleaseFrees}
use Rattle.ledger.proofs.Intact.{intact_is}
use Rattle.ledger.proofs.Answered.{reply_intact}
use Rattle.ledger.proofs.Shown.{lookup_given, looked_up, shown}
use Rattle.ledger.proofs.Holders.{one_holder_lem}

-- ---- a frame held by one or by others
frame_by_frame : (h x a : Bool) → (h ≡ true → x ≡ true → ⊥) → (x || (a && not h)) ≡ ((x || a) && not h)
frame_by_frame true true a no_both = absurd (no_both refl refl)
frame_by_frame true false a no_both = refl
frame_by_frame false true a no_both = refl
frame_by_frame false false a no_both = refl

own_frame : (h a : Bool) → (a && not h) ≡ ((h || a) && not h)
own_frame true true = refl
own_frame true false = refl
own_frame false a = refl

-- ---- the sessions other than s, the only one of its number and the only one with its frame
module _ (n : ℕ) (x : Slot) (s : Session) (named : s.number ≡ n) where
  others_hold : (ss : List Session) → ((u : Session) → Memᴰ u ss → u.number ≡ n → u ≡ s)
      → ((u : Session) → Memᴰ u ss → holds x u ≡ true → holds x s ≡ true → u ≡ s)
      → held_in (keep (other_than n) ss) x ≡ (held_in ss x && not (holds x s))
  others_hold [] one sole = refl
  others_hold (t ∷ ss) one sole =
      go (eqb t.number n) refl
      (others_hold ss (λ u m e. one u (Memᴰ.tail m) e) (λ u m p q. sole u (Memᴰ.tail m) p q))
    where
      go : (b : Bool) → eqb t.number n ≡ b → held_in (keep (other_than n) ss) x ≡ (held_in ss x && not (holds x s))
          → held_in (cond (not b) (t ∷ keep (other_than n) ss) (keep (other_than n) ss)) x ≡ ((holds x t || held_in ss x) && not (holds x s))
      go true e ih =
          ih ∙ own_frame (holds x s) (held_in ss x)
          ∙ ap (λ (u : Session). (holds x u || held_in ss x) && not (holds x s)) (sym (one t (Memᴰ.head refl) (eqb-true t.number n e)))
      go false e ih =
          ap (λ (b : Bool). holds x t || b) ih
          ∙ frame_by_frame (holds x s) (holds x t) (held_in ss x)
          (λ p q. eqb-false t.number n e (ap (λ (u : Session). u.number) (sole t (Memᴰ.head refl) q p) ∙ named))

-- ---- what a release leaves
given_live : (n : ℕ) (ss : List Session) (s : Session) → look_in n ss ≡ given s → is_live n ss ≡ true
given_live n [] s h = absurd (not_given 19 s h)
given_live n (u ∷ ss) s h = go (eqb u.number n) h (given_live n ss s)
  where
    go : (b : Bool) → cond b (given u) (look_in n ss) ≡ given s → (look_in n ss ≡ given s → is_live n ss ≡ true) → (b || is_live n ss) ≡ true
    go true k ih = refl
    go false k ih = ih k

release_freed : (v : View) (n : ℕ) → intact v ≡ true → is_live n v.live ≡ true → reply v (Release n) ≡ freed
unfolding call_check granted
release_freed v n e live = reply_intact v (Release n) e ∙ rw live

release_left : (v : View) (n : ℕ) → intact v ≡ true → is_live n v.live ≡ true → (next v (Release n)).live ≡ keep (other_than n) v.live
unfolding next left
release_left v n e live = ap (λ (r : Reply). live_after v.live (effect (Release n) r)) (release_freed v n e live)

-- A RELEASE FREES EXACTLY ITS SESSION'S FRAMES
pub release_frees : ReleaseFrees
release_frees v n s g x = ap (λ (ss : List Session). held_in ss x) rest ∙ others_hold n x s found.1 v.live one sole
  where
    i : intact v ≡ true
    i = (lookup_given v n s g).0

    looked : look_in n v.live ≡ given s
    looked = (lookup_given v n s g).1

    found : Memᴰ s v.live × (s.number ≡ n)
    found = looked_up n v.live s looked

    one : (u : Session) → Memᴰ u v.live → u.number ≡ n → u ≡ s
    one u m q = given_same u s (sym (shown v.live u (intact_is v i).numbers m) ∙ ap (λ (k : ℕ). look_in k v.live) q ∙ looked)
      where
        given_same : (a b : Session) → given a ≡ given b → a ≡ b
        given_same a b w = cc

    sole : (u : Session) → Memᴰ u v.live → holds x u ≡ true → holds x s ≡ true → u ≡ s
    sole u m p q = one_holder_lem v.live u s x (intact_is v i).frames m found.0 p q

    rest : (next v (Release n)).live ≡ keep (other_than n) v.live
    rest = release_left v n i (given_live n v.live s looked)
