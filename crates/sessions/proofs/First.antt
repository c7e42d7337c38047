-- Check 0 comes first: what each call answers on a broken state, and that it changes nothing there. Assumes nothing.
use mathlib.Core.Path.{◌≡◌, refl, sym, ap, ap₂, subst, ◌∙◌}
use mathlib.Core.Bool.{Bool, true, false, not}
use mathlib.Core.List.{List}
use Prim.Native.Nat.{ℕ}
use native.Mathlib.Omega.{arith}
use Rattle.std.specs.Prelude.{Result, Ok, Err, IsErr, IsErrAnd, ⊤}
use Rattle.refusals.specs.Refusals.{refusal_number, refusal_count, Outcome, given, pass, refused, refuse_if, ruling}
use Rattle.refusals.specs.declared.Refusal.{Refusal}
use Rattle.refusals.proofs.Refusals.{uncounted}
use Rattle.ledger.specs.Sound.{intact, broken_check}
use Rattle.ledger.specs.Calls.{Call, Quote, Release, Reply, refusal, reply, lookup, free_count}
use Rattle.ledger.specs.Ways.{ways_of}
use Rattle.state.specs.declared.State.{State}
use Rattle.state.specs.declared.Quoted.{Quoted}
use Rattle.state.specs.State.{view_of, Quotes, Leaves, Serves, Releases}
use Rattle.state.proofs.Replies.{same_err, refusal_leaves, stays}
use Rattle.sessions.specs.declared.Shown.{Shown}
use Rattle.sessions.specs.Calls.{Tells, shown_of}

-- a refusal of the rule, passed on
pub refused_tells : {A B : Type 0} (of : A → B) (o : Outcome A) (r : Refusal) → o ≡ refused (refusal_number r) → (q : Result B Refusal) → q ≡ Err r → Tells of o q
refused_tells {A} of o r e q w = subst (λ (x : Outcome A). Tells of x q) (sym e) (r, refl, w)

pub given_tells : {A B : Type 0} (of : A → B) (o : Outcome A) (a : A) → o ≡ given a → (q : Result B Refusal) → q ≡ Ok (of a) → Tells of o q
given_tells of o a e q w = subst (λ x. Tells of x q) (sym e) w

-- a quote leaves the very same state
pub quote_serves : (st : State) (route : List ℕ) (q : Result Quoted Refusal) → Quotes (reply (view_of st) (Quote route)) q → Serves st (Quote route) (record { answer = q; state = st })
quote_serves st route q w = record { answer = w; after = stays st (Quote route) refl }

-- what check 0 said
module _ (st : State) (v : Result ⊤ Refusal) (ev : ruling v ≡ broken_check (view_of st)) where
  -- ---- it passed
  pub is_intact : (x : ⊤) → v ≡ Ok x → intact (view_of st) ≡ true
  is_intact x e = go (intact (view_of st)) (sym ev ∙ ap ruling e)
    where
      go : (b : Bool) → refuse_if (not b) 0 ≡ given pass → b ≡ true
      go true q = refl
      go false q = cc

  -- ---- it refused
  module _ (r : Refusal) (e : v ≡ Err r) where
    is_broken : (intact (view_of st) ≡ false) × (refusal_number r ≡ 0)
    is_broken = go (intact (view_of st)) refl (sym ev ∙ ap ruling e)
      where
        go : (b : Bool) → intact (view_of st) ≡ b → refuse_if (not b) 0 ≡ refused (refusal_number r) → (intact (view_of st) ≡ false) × (refusal_number r ≡ 0)
        go true h q = cc
        go false h q = let z : 0 ≡ refusal_number r = cc in (h, sym z)

    no_count : refusal_count r ≡ 0
    no_count = uncounted r (λ q. omega (arith, q, is_broken.1))

    broken_reply : (call : Call) → reply (view_of st) call ≡ refusal 0 0
    unfolding reply
    broken_reply call = rw is_broken.0

    broken_quotes : (call : Call) (q : Result Quoted Refusal) → q ≡ Err r → Quotes (reply (view_of st) call) q
    broken_quotes call q w = subst (λ (x : Reply). Quotes x q) (sym (broken_reply call)) (r, is_broken.1, no_count, w)

    broken_leaves : (call : Call) → Leaves st call st
    broken_leaves call = stays st call (refusal_leaves call (reply (view_of st) call) 0 0 (broken_reply call))

    pub broken_serves : (call : Call) → Serves st call (record { answer = Err r; state = st })
    broken_serves call = record { answer = broken_quotes call (Err r) refl; after = broken_leaves call }

    pub broken_releases : (n : ℕ) → Releases st n (record { answer = Err r; state = st })
    broken_releases n = record { answer = ap₂ refusal is_broken.1 no_count ∙ sym (broken_reply (Release n)); after = broken_leaves (Release n) }

    -- `?` passes it on
    pub broken_quoted : (route : List ℕ) (q : Result Quoted Refusal) → IsErr q × IsErrAnd q (λ x. x ≡ r) → Quotes (reply (view_of st) (Quote route)) q
    broken_quoted route q h = broken_quotes (Quote route) q (same_err q r h)

    broken_outcome : {A B : Type 0} (of : A → B) (o : Outcome A) → o ≡ refused 0 → (q : Result B Refusal) → IsErr q × IsErrAnd q (λ x. x ≡ r) → Tells of o q
    broken_outcome of o e q h = refused_tells of o r (e ∙ ap refused (sym is_broken.1)) q (same_err q r h)

    pub broken_lookup : (n : ℕ) (q : Result Shown Refusal) → IsErr q × IsErrAnd q (λ x. x ≡ r) → Tells shown_of (lookup (view_of st) n) q
    broken_lookup n = broken_outcome shown_of (lookup (view_of st) n) (unfold lookup in rw is_broken.0 refl)

    pub broken_count : (l : ℕ) (q : Result ℕ Refusal) → IsErr q × IsErrAnd q (λ x. x ≡ r) → Tells (λ (n : ℕ). n) (free_count (view_of st) l) q
    broken_count l = broken_outcome (λ (n : ℕ). n) (free_count (view_of st) l) (unfold free_count in rw is_broken.0 refl)

    pub broken_ways : (route : List ℕ) (q : Result ℕ Refusal) → IsErr q × IsErrAnd q (λ x. x ≡ r) → Tells (λ (n : ℕ). n) (ways_of (view_of st) route) q
    broken_ways route = broken_outcome (λ (n : ℕ). n) (ways_of (view_of st) route) (unfold ways_of in rw is_broken.0 refl)
