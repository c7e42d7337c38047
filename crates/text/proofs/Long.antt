-- How long each text is at most. Assumes nothing.
use mathlib.Core.Path.{◌≡◌, refl, ap, ◌∙◌}
use mathlib.Core.Bool.{Bool, true, false}
use mathlib.Core.Logic.{◌⊎◌, inl, inr, ⊎_elim}
use mathlib.Core.List.{List, [], ◌∷◌, ◌++◌, map}
use Prim.Native.Nat.{ℕ, zero, suc, ◌+◌, ◌-◌, ◌*◌, ◌/◌, ◌^◌, ◌≤◌, ◌<◌}
use native.Mathlib.Nat.{pow-suc, mul-suc}
use native.Mathlib.Omega.{arith}
use borrow.Author.Tests.{ltb-true, ltb-false}
use lib.ListN.{length, get_or, length-append}
use lib.Dec.{ltb}
use Rattle.ledger.specs.Held.{Holding}
use Rattle.ledger.specs.Calls.{schedule, freed, refusal}
use Rattle.text.specs.Characters.{space, newline, ok_word, no_word, live_word, net_no_words}
use Rattle.text.specs.Digits.{dec, spaced, spaced_all}
use Rattle.text.specs.Lines.{count_text, groups_of, groups_text, schedule_text, line_head, line, live_line, network_line, ScheduledLong, FreedLong, RefusedLong, BlockedLong, LiveLong, NetworkLong}
use Rattle.text.proofs.Digits.{dec_small, long_more}
use Rattle.text.proofs.Chains.{joined}
use Rattle.text.proofs.Lines.{more_pieces, group_pieces, head_is, groups_is, count_none, count_some, scheduled_is, freed_is, refused_is, words_is}

by_ten : (n : ℕ) → (n < 10) ⊎ (10 ≤ n)
by_ten n = cases (ltb n 10) refl
  where
    cases : (b : Bool) → ltb n 10 ≡ b → (n < 10) ⊎ (10 ≤ n)
    cases true e = inl (ltb-true n 10 e)
    cases false e = inr (ltb-false n 10 e)

-- a number below 10 ^ (k + 1) has at most k + 1 digits
pub dec_long : (k n : ℕ) → n < 10 ^ suc k → length (dec n) ≤ suc k
dec_long zero n h = omega (arith, ap length (dec_small n (omega arith)))
dec_long (suc k) n h =
    let q : n < 10 ^ suc k * 10 = rw (← pow-suc 10 (suc k)) h in
    ⊎_elim (λ (l : n < 10). omega (arith, ap length (dec_small n l)))
    (λ (l : 10 ≤ n). omega (arith, long_more n l, dec_long k (n / 10) (omega arith))) (by_ten n)

pub spaced_long : (k n : ℕ) → n < 10 ^ suc k → length (spaced n) ≤ suc (suc k)
unfolding spaced
spaced_long k n h = omega (arith, dec_long k n h)

-- a group whose numbers have at most k + 1 digits
pub group_long : (k : ℕ) (ns : List ℕ) → ((i : ℕ) → i < length ns → get_or ns i 0 < 10 ^ suc k) → length (spaced_all ns) ≤ suc (suc k) * length ns
unfolding spaced_all
group_long k [] h = omega arith
group_long k (n ∷ ns) h =
    let l : length (spaced n) ≤ suc (suc k) = spaced_long k n (h 0 (omega arith)) in
    let m : length (spaced_all ns) ≤ suc (suc k) * length ns = group_long k ns (λ (i : ℕ) (q : i < length ns). h (suc i) (omega arith)) in
    omega (arith, length-append (spaced n) (spaced_all ns), mul-suc (suc (suc k)) (length ns))

-- ---- a text is as long as its pieces together
abbrev total : List (List ℕ) → ℕ
total [] = 0
total (x ∷ xs) = length x + total xs

joined_long : (xs : List (List ℕ)) → length (joined xs) ≡ total xs
unfolding joined
joined_long [] = refl
joined_long (x ∷ xs) = length-append x (joined xs) ∙ rw (joined_long xs)

long_of : (whole : List ℕ) (xs : List (List ℕ)) → whole ≡ joined xs → length whole ≡ total xs
long_of whole xs e = ap length e ∙ joined_long xs

head_long : (place letter : ℕ) → place < 100000 → length (line_head place letter) ≤ 7
head_long place letter h =
    let l : length (dec place) ≤ 5 = dec_long 4 place h in
    omega (arith, long_of (line_head place letter) (dec place ∷ (space ∷ []) ∷ (letter ∷ []) ∷ []) (head_is place letter))

-- groups are as long as each of them, and two more for the mark before each but the first
more_long : (gs : List (List ℕ)) → total (more_pieces gs) ≡ total (map spaced_all gs) + 2 * length gs
more_long [] = refl
more_long (g ∷ gs) = omega (arith, more_long gs)

groups_long : (gs : List (List ℕ)) → length (groups_text gs) ≡ total (map spaced_all gs) + 2 * (length gs - 1)
groups_long [] = long_of (groups_text []) [] (groups_is [])
groups_long (g ∷ gs) = omega (arith, long_of (groups_text (g ∷ gs)) (group_pieces (g ∷ gs)) (groups_is (g ∷ gs)), more_long gs)

schedule_long : (held : Holding) (count : ℕ) → held.delay < 10000 → count < 100000 → ((i : ℕ) → i < length held.frames → get_or held.frames i 0 < 100)
    → ((i : ℕ) → i < length held.cycles → get_or held.cycles i 0 < 10) → length (schedule_text held count) ≤ 13 + 3 * length held.frames + 2 * length held.cycles
unfolding schedule_text
schedule_long held count d c f e =
    let m : length (spaced held.delay) ≤ 5 = spaced_long 3 held.delay d in
    let n : length (spaced count) ≤ 6 = spaced_long 4 count c in
    omega (
      arith,
      length-append (spaced held.delay) (spaced count ++ groups_text (groups_of held)),
      length-append (spaced count) (groups_text (groups_of held)),
      groups_long (groups_of held),
      group_long 1 held.frames f,
      group_long 0 held.cycles e,
    )

-- ---- the lines
pub scheduled_long : ScheduledLong
scheduled_long place letter held count p d c f e = omega (
  arith,
  long_of (line place letter (schedule held count)) (line_head place letter ∷ (space ∷ ok_word) ∷ schedule_text held count ∷ (newline ∷ []) ∷ []) (scheduled_is place letter held count),
  head_long place letter p,
  schedule_long held count d c f e,
)

pub freed_long : FreedLong
freed_long place letter p = omega (arith, long_of (line place letter freed) (line_head place letter ∷ ((space ∷ ok_word) ++ (newline ∷ [])) ∷ []) (freed_is place letter), head_long place letter p)

refusal_long : (place letter number count : ℕ) → place < 100000 → number < 100 → length (line place letter (refusal number count)) ≤ 14 + length (count_text number count)
refusal_long place letter number count p n =
    let l : length (spaced number) ≤ 3 = spaced_long 1 number n in
    omega (
      arith,
      long_of (line place letter (refusal number count)) (line_head place letter ∷ (space ∷ no_word) ∷ (spaced number ++ count_text number count) ∷ (newline ∷ []) ∷ []) (refused_is place letter number count),
      length-append (spaced number) (count_text number count),
      head_long place letter p,
    )

pub refused_long : RefusedLong
refused_long place letter number count p n h = omega (arith, refusal_long place letter number count p n, ap length (count_none number count h))

pub blocked_long : BlockedLong
blocked_long place letter count p c =
    let l : length (spaced count) ≤ 6 = spaced_long 4 count c in
    omega (arith, refusal_long place letter 18 count p (omega arith), ap length (count_some 18 count refl))

-- words and a number
words_long : (words : List ℕ) (n : ℕ) → n < 100 → length (words ++ (spaced n ++ (newline ∷ []))) ≤ length words + 4
words_long words n h =
    let l : length (spaced n) ≤ 3 = spaced_long 1 n h in
    omega (arith, long_of (words ++ (spaced n ++ (newline ∷ []))) (words ∷ spaced n ∷ (newline ∷ []) ∷ []) (words_is words n))

pub live_long : LiveLong
unfolding live_line
live_long n h = words_long live_word n h

pub network_long : NetworkLong
unfolding network_line
network_long n h = words_long net_no_words n h
