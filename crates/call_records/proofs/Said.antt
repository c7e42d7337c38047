-- How many bytes a record takes, for each kind and each width of its number. Assumes nothing.
use mathlib.Core.Path.{◌≡◌, refl, sym, ap, ◌∙◌}
use mathlib.Core.Bool.{Bool, true, false, cond}
use mathlib.Core.List.{List, [], ◌∷◌}
use Prim.Native.Nat.{ℕ, suc, ◌+◌, ◌≤◌}
use native.Mathlib.Omega.{arith}
use lib.ListN.{length, take, drop, length-drop, drop_of_length-le}
use lib.Seq.{drop-drop, length-take-le}
use lib.Dec.{eqb, ltb}
use borrow.Author.Tests.{ltb-false}
use Rattle.refusals.specs.Refusals.{Outcome, given, refused}
use Rattle.numbers.specs.Numbers.{number_in}
use Rattle.ledger.specs.Calls.{Call, links_of}
use Rattle.ledger.specs.Calls as calls
use Rattle.call_records.specs.Records.{CallSaid, unreadable, with_number, with_route, set_up_said, quote_said, release_said, first_call}

-- a call's record has its route and so many bytes more; one that can't be read is refused with 11 and leaves no bytes
abbrev pub TookBy : ℕ → Outcome Call → List ℕ → ℕ → Type 0
TookBy m (given call) rest n = m + length (links_of call) + length rest ≤ n
TookBy m (refused k) rest n = (k ≡ 11) × (rest ≡ [])

-- what is said of s leaves a part at its end
pub record Takes (m : ℕ) (s : List ℕ) (x : CallSaid) : Type 0 where
  pub used : ℕ
  pub left : x.rest ≡ drop used s
  pub took : TookBy m x.call x.rest (length s)

none_takes : (m : ℕ) (s : List ℕ) → Takes m s unreadable
none_takes m s = record { used = length s; left = sym (drop_of_length-le s {i = length s} (omega arith)); took = (refl, refl) }

-- what is said of the bytes after the first n
after_takes : (m n : ℕ) (s : List ℕ) (x : CallSaid) → n ≤ length s → Takes m (drop n s) x → Takes (n + m) s x
after_takes m n s x h t = record { used = n + t.used; left = t.left ∙ drop-drop t.used n s; took = more x.call t.took }
  where
    more : (o : Outcome Call) → TookBy m o x.rest (length (drop n s)) → TookBy (n + m) o x.rest (length s)
    more (given call) k = omega (arith, h, k, length-drop n s)
    more (refused k) q = q

fewer_takes : (m n : ℕ) (s : List ℕ) (x : CallSaid) → m ≤ n → Takes n s x → Takes m s x
fewer_takes m n s x h t = record { used = t.used; left = t.left; took = less x.call t.took }
  where
    less : (o : Outcome Call) → TookBy n o x.rest (length s) → TookBy m o x.rest (length s)
    less (given call) k = omega (arith, h, k)
    less (refused k) q = q

-- ---- by kind, for a number of any width
module _ (call : List ℕ → Call) (links : (route : List ℕ) → links_of (call route) ≡ route) where
  route_takes : (s : List ℕ) → Takes 1 s (with_route call s)
  unfolding with_route
  route_takes [] = none_takes 1 []
  route_takes (n ∷ t) = go (ltb (length t) n) refl
    where
      go : (b : Bool) → ltb (length t) n ≡ b → Takes 1 (n ∷ t) (cond b unreadable (record { call = given (call (take n t)); rest = drop n t }))
      go true e = none_takes 1 (n ∷ t)
      go false e =
          let h : n ≤ length t = ltb-false (length t) n e in
          record { used = suc n; left = refl; took = omega (arith, ap length (links (take n t)), length-take-le n t h, length-drop n t) }

number_takes : (m width : ℕ) (said : ℕ → List ℕ → CallSaid) → ((n : ℕ) (t : List ℕ) → Takes m t (said n t)) → (s : List ℕ) → Takes (width + m) s (with_number width said s)
unfolding with_number
number_takes m width said takes s = go (ltb (length s) width) refl
  where
    go : (b : Bool) → ltb (length s) width ≡ b → Takes (width + m) s (cond b unreadable (said (number_in width s) (drop width s)))
    go true e = none_takes (width + m) s
    go false e = after_takes m width s (said (number_in width s) (drop width s)) (ltb-false (length s) width e) (takes (number_in width s) (drop width s))

set_up_takes : (width : ℕ) (s : List ℕ) → Takes (width + 1) s (set_up_said width s)
unfolding set_up_said
set_up_takes width s = number_takes 1 width (λ n. with_route (calls.SetUp n)) (λ (n : ℕ) (t : List ℕ). route_takes (calls.SetUp n) (λ (route : List ℕ). refl) t) s

quote_takes : (s : List ℕ) → Takes 1 s (quote_said s)
unfolding quote_said
quote_takes s = route_takes calls.Quote (λ (route : List ℕ). refl) s

release_takes : (width : ℕ) (s : List ℕ) → Takes (width + 0) s (release_said width s)
unfolding release_said
release_takes width s =
    number_takes 0 width (λ n rest. record { call = given (calls.Release n); rest = rest }) (λ (n : ℕ) (t : List ℕ). record { used = 0; left = refl; took = omega arith }) s

-- the kind, and so two bytes and the route at least
kind_takes : (m kind : ℕ) (s : List ℕ) (x : CallSaid) → 1 ≤ m → Takes m s x → Takes 2 (kind ∷ s) x
kind_takes m kind s x h t = fewer_takes 2 (1 + m) (kind ∷ s) x (omega arith) (after_takes m 1 (kind ∷ s) x (omega arith) t)

pub first_takes : (kind : ℕ) (s : List ℕ) → Takes 2 (kind ∷ s) (first_call (kind ∷ s))
unfolding first_call
first_takes kind s = go (eqb kind 1) (eqb kind 2) (eqb kind 3) (eqb kind 4) (eqb kind 5)
  where
    go : (p q r t u : Bool)
        → Takes 2 (kind ∷ s) (cond p (set_up_said 2 s) (cond q (quote_said s) (cond r (release_said 2 s) (cond t (set_up_said 4 s) (cond u (release_said 4 s) unreadable)))))
    go true q r t u = kind_takes 3 kind s (set_up_said 2 s) (omega arith) (set_up_takes 2 s)
    go false true r t u = kind_takes 1 kind s (quote_said s) (omega arith) (quote_takes s)
    go false false true t u = kind_takes 2 kind s (release_said 2 s) (omega arith) (release_takes 2 s)
    go false false false true u = kind_takes 5 kind s (set_up_said 4 s) (omega arith) (set_up_takes 4 s)
    go false false false false true = kind_takes 4 kind s (release_said 4 s) (omega arith) (release_takes 4 s)
    go false false false false false = none_takes 2 (kind ∷ s)
