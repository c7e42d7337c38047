-- Laws of writing into a lent buffer. Assumes nothing.
use mathlib.Core.Path.{◌≡◌, refl, sym, ap, ◌∙◌}
use mathlib.Core.List.{List, ◌++◌}
use Prim.Native.Nat.{ℕ, ◌<◌, ◌≤◌}
use native.Mathlib.Omega.{arith}
use lib.ListN.{length, drop, length-append}
use borrow.Author.Tests.{lt-ltb, le-ltb}
use Rattle.std.specs.Prelude.{Result, Ok, Err}
use Rattle.refusals.specs.Refusals.{Outcome, given, refused, refusal_number}
use Rattle.refusals.specs.declared.Refusal.{Refusal}
use Rattle.network_file.specs.Lent.{in_room, length_of, length_read, buffer_after, Writes}

-- too short a buffer, and one that is long enough
module _ (least : ℕ) (x before : List ℕ) where
  pub short_written : length before < least → (r : Refusal) → refusal_number r ≡ 20 → Writes (in_room least (length before) x) before before (Err r)
  short_written h r e = rw (lt-ltb (length before) least h) record { answer = rw e; buffer = refl }

  pub long_written : least ≤ length before → (after : List ℕ) (n : ℕ) → n ≡ length x → after ≡ x ++ drop (length x) before → Writes (in_room least (length before) x) before after (Ok n)
  long_written h after n e q = rw (le-ltb (length before) least h) record { answer = ap given e; buffer = q }

-- a length that was answered lies within the buffer
pub length_within : (o : Outcome (List ℕ)) (before after : List ℕ) (r : Result ℕ Refusal) → Writes o before after r → (n : ℕ) → r ≡ Ok n → n ≤ length after
length_within o before after r w n e = go o (ap length_read (sym e) ∙ w.answer) w.buffer
  where
    go : (x : Outcome (List ℕ)) → given n ≡ length_of x → after ≡ buffer_after x before → n ≤ length after
    go (given x) a b =
        let k : n ≡ length x = cc in
        omega (arith, ap length b, length-append x (drop (length x) before))
    go (refused m) a b = let z : ◌≡◌ {A = ℕ} 0 1 = cc in omega arith
