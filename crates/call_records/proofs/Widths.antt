-- Session numbers in two bytes and in four: records of either width say the same calls. Assumes nothing.
use mathlib.Core.Path.{◌≡◌, sym, ap, subst, ◌∙◌}
use mathlib.Core.Bool.{Bool, true, false, cond}
use mathlib.Core.Logic.{◌⊎◌, inl, inr}
use mathlib.Core.List.Memᴰ
use mathlib.Core.List.{List, [], ◌∷◌, ◌++◌, append_assoc, Memᴰ}
use Prim.Native.Nat.{ℕ, suc, ◌*◌, ◌^◌, ◌≤◌, ◌<◌}
use native.Mathlib.Omega.{arith}
use lib.ListN.{length, take, drop, length-append}
use lib.Seq.{take-append_seam, drop-append_seam}
use lib.Dec.{eqb, ltb}
use borrow.Author.Tests.{le-ltb}
use Rattle.refusals.specs.Refusals.{Outcome, given}
use Rattle.numbers.specs.Numbers.{number_in, bytes_of, IsBytes}
use Rattle.numbers.proofs.Laws.{length_bytes}
use Rattle.numbers.proofs.Trip.{number_bytes_lem, bytes_drop}
use Rattle.ledger.specs.Calls.{Call, SetUp, Quote, Release}
use Rattle.call_records.specs.Records.{CallSaid, unreadable, with_number, with_route, set_up_said, quote_said, release_said, first_call, calls_in}
use Rattle.call_records.specs.Widths.{Width, short, long, bytes_for, Fits, RecordsSay, SameCall, NumberFits, NumbersFit}
use Rattle.call_records.proofs.Cases.{number_fits}
use Rattle.call_records.proofs.Said.{first_takes}
use Rattle.call_records.proofs.Records.{by_records, no_calls, first_then_rest}

-- ---- a number that was written is read, and the bytes after it are left
number_said : (w n : ℕ) (said : ℕ → List ℕ → CallSaid) (s : List ℕ) → n < 2 ^ (8 * w) → with_number w said (bytes_of w n ++ s) ≡ said n s
unfolding with_number
number_said w n said s h =
    let b : length (bytes_of w n) ≡ w = length_bytes w n in
    let l : w ≤ length (bytes_of w n ++ s) = omega (arith, length-append (bytes_of w n) s) in
    let d : drop w (bytes_of w n ++ s) ≡ s = ap (λ (k : ℕ). drop k (bytes_of w n ++ s)) (sym b) ∙ drop-append_seam (bytes_of w n) s in
    rw (le-ltb (length (bytes_of w n ++ s)) w l, number_bytes_lem w n s h, d)

route_said : (call : List ℕ → Call) (route rest : List ℕ) → with_route call (length route ∷ (route ++ rest)) ≡ record { call = given (call route); rest = rest }
unfolding with_route
route_said call route rest =
    let l : length route ≤ length (route ++ rest) = omega (arith, length-append route rest) in
    rw (le-ltb (length (route ++ rest)) (length route) l, take-append_seam route rest, drop-append_seam route rest)

module _ (w n : ℕ) (h : n < 2 ^ (8 * w)) where
  set_up_said_lem : (s : List ℕ) → set_up_said w (bytes_of w n ++ s) ≡ with_route (SetUp n) s
  unfolding set_up_said
  set_up_said_lem s = number_said w n (λ m. with_route (SetUp m)) s h

  release_said_lem : (s : List ℕ) → release_said w (bytes_of w n ++ s) ≡ record { call = given (Release n); rest = s }
  unfolding release_said
  release_said_lem s = number_said w n (λ m rest. record { call = given (Release m); rest = rest }) s h

  routed_said : (route rest : List ℕ) → set_up_said w ((bytes_of w n ++ (length route ∷ route)) ++ rest) ≡ record { call = given (SetUp n route); rest = rest }
  routed_said route rest = ap (set_up_said w) (append_assoc (bytes_of w n) (length route ∷ route) rest) ∙ set_up_said_lem (length route ∷ (route ++ rest)) ∙ route_said (SetUp n) route rest

-- WHAT A RECORD OF EITHER WIDTH SAYS
pub records_say : RecordsSay
unfolding first_call
records_say short n route rest h = (routed_said 2 n h route rest, release_said_lem 2 n h rest)
records_say long n route rest h = (routed_said 4 n h route rest, release_said_lem 4 n h rest)

-- KINDS 01 AND 04 SAY THE SAME CALL, AND SO DO 03 AND 05
pub same_call : SameCall
unfolding first_call
same_call n s h =
    let g : n < 2 ^ 32 = omega arith in
    (set_up_said_lem 2 n h s ∙ sym (set_up_said_lem 4 n g s), release_said_lem 2 n h s ∙ sym (release_said_lem 4 n g s))

-- ---- numbers fit their bytes
module _ (w : Width) (k : ℕ) (room : k ≤ bytes_for w) (s : List ℕ) (bytes : IsBytes s) where
  pub fits : Fits w (number_in k s)
  fits = number_fits k (8 * bytes_for w) s bytes (omega arith)

  route_fits : (t : List ℕ) → NumberFits w (with_route (SetUp (number_in k s)) t).call
  unfolding with_route
  route_fits [] = tt
  route_fits (n ∷ t) = go (ltb (length t) n)
    where
      go : (b : Bool) → NumberFits w (cond b unreadable (record { call = given (SetUp (number_in k s) (take n t)); rest = drop n t })).call
      go true = tt
      go false = fits

  set_up_fits : NumberFits w (set_up_said k s).call
  unfolding set_up_said with_number
  set_up_fits = go (ltb (length s) k)
    where
      go : (b : Bool) → NumberFits w (cond b unreadable (with_route (SetUp (number_in k s)) (drop k s))).call
      go true = tt
      go false = route_fits (drop k s)

  release_fits : NumberFits w (release_said k s).call
  unfolding release_said with_number
  release_fits = go (ltb (length s) k)
    where
      go : (b : Bool) → NumberFits w (cond b unreadable (record { call = given (Release (number_in k s)); rest = drop k s })).call
      go true = tt
      go false = fits

quote_fits : (w : Width) (s : List ℕ) → NumberFits w (quote_said s).call
unfolding quote_said with_route
quote_fits w [] = tt
quote_fits w (n ∷ t) = go (ltb (length t) n)
  where
    go : (b : Bool) → NumberFits w (cond b unreadable (record { call = given (Quote (take n t)); rest = drop n t })).call
    go true = tt
    go false = tt

first_fits : (s : List ℕ) → IsBytes s → NumberFits long (first_call s).call
unfolding first_call
first_fits [] bytes = tt
first_fits (kind ∷ s) bytes = go (eqb kind 1) (eqb kind 2) (eqb kind 3) (eqb kind 4) (eqb kind 5)
  where
    after : IsBytes s
    after i = bytes (suc i)

    go : (p q r t u : Bool) → NumberFits long (cond p (set_up_said 2 s) (cond q (quote_said s) (cond r (release_said 2 s) (cond t (set_up_said 4 s) (cond u (release_said 4 s) unreadable))))).call
    go true q r t u = set_up_fits long 2 (omega arith) s after
    go false true r t u = quote_fits long s
    go false false true t u = release_fits long 2 (omega arith) s after
    go false false false true u = set_up_fits long 4 (omega arith) s after
    go false false false false true = release_fits long 4 (omega arith) s after
    go false false false false false = tt

-- the bytes after a record are bytes
rest_bytes : (b : ℕ) (s : List ℕ) → IsBytes (b ∷ s) → IsBytes (first_call (b ∷ s)).rest
rest_bytes b s bytes = subst IsBytes (sym (first_takes b s).left) (bytes_drop (first_takes b s).used (b ∷ s) bytes)

calls_fit : (s : List ℕ) → IsBytes s → (o : Outcome Call) → Memᴰ o (calls_in s) → NumberFits long o
calls_fit =
    by_records (λ (s : List ℕ). IsBytes s → (o : Outcome Call) → Memᴰ o (calls_in s) → NumberFits long o)
    (λ (bytes : IsBytes []) (o : Outcome Call) (m : Memᴰ o (calls_in [])). absurd (Memᴰ.not-nil (rw no_calls at m)))
    (λ (b : ℕ) (s : List ℕ) (ih : IsBytes (first_call (b ∷ s)).rest → (o : Outcome Call) → Memᴰ o (calls_in (first_call (b ∷ s)).rest) → NumberFits long o)
    (bytes : IsBytes (b ∷ s)) (o : Outcome Call) (m : Memᴰ o (calls_in (b ∷ s))).
    one b s (ih (rest_bytes b s bytes)) bytes o (Memᴰ.cases_cons (rw (first_then_rest b s) at m)))
  where
    one : (b : ℕ) (s : List ℕ) → ((o : Outcome Call) → Memᴰ o (calls_in (first_call (b ∷ s)).rest) → NumberFits long o) → IsBytes (b ∷ s)
        → (o : Outcome Call) → (o ≡ (first_call (b ∷ s)).call) ⊎ Memᴰ o (calls_in (first_call (b ∷ s)).rest) → NumberFits long o
    one b s later bytes o (inl e) = rw e (first_fits (b ∷ s) bytes)
    one b s later bytes o (inr m) = later o m

-- EVERY NUMBER THAT CALL BYTES SAY FITS
pub numbers_fit : NumbersFit
unfolding first_call
numbers_fit s bytes = (calls_fit s bytes, set_up_fits short 2 (omega arith) s bytes, release_fits short 2 (omega arith) s bytes)
