-- A turn of each loop of this crate, over plain values.
use mathlib.Core.Path.{◌≡◌, sym, ap, ◌∙◌}
use mathlib.Core.List.{List, ◌++◌, append_assoc, append-nil}
use Prim.Native.Nat.{ℕ, suc, ◌+◌, ◌-◌, ◌*◌, ◌/◌, ◌%◌, ◌^◌, ◌≤◌, ◌<◌}
use native.Mathlib.Numerals.{add-one}
use native.Mathlib.Nat.{sub_self, le_refl, lt_of_lt_of_le}
use native.Mathlib.Omega.{arith}
use lib.ListN.{length, get_or, drop, take, set, length-set, take-append-drop}
use lib.Seq.{take-suc-set, drop-set-lt, drop-drop}
use lib.Pow.{pow_mono}
use Rattle.numbers.specs.Numbers.{number_in, bytes_of}
use Rattle.numbers.proofs.Laws.{number_step, number_none, pow_step, bytes_step, bytes_none}

-- reading, from the end down
pub record Got (s : List ℕ) (n x i : ℕ) : Type 0 where
  pub within : i ≤ n
  pub value : x ≡ number_in (n - i) (drop i s)
  pub small : x < 2 ^ (8 * (n - i))

pub got_none : (s : List ℕ) (n : ℕ) → Got s n 0 n
got_none s n = record {
  within = le_refl n;
  value = rw sub_self (sym (number_none (drop n s)));
  small = rw sub_self (omega arith);
}

pub got_room : (s : List ℕ) (n x i : ℕ) → 0 < i → n ≤ 8 → Got s n x i → x * 256 + 255 < 2 ^ 64
got_room s n x i h m g =
    let l : x < 2 ^ 56 = lt_of_lt_of_le g.small (pow_mono {i = 8 * (n - i)} {j = 56} (omega arith)) in
    omega arith

module _ (s : List ℕ) (n x i b : ℕ) (h : 0 < i) (g : Got s n x i) (e : b ≡ get_or s (i - 1) 0) (l : b < 256) where
  next : n - (i - 1) ≡ suc (n - i)
  next = omega (arith, g.within)

  pub got_more : Got s n (x * 256 + b) (i - 1)
  got_more =
      let e2 : i - 1 + 1 ≡ i = omega arith in
      record {
        within = omega (arith, g.within);
        value = rw (next, number_step, e2) (omega (arith, g.value));
        small = rw (next, pow_step) (omega (arith, g.small));
      }

-- writing, from the front: what is to stand there is what stands before i, and the bytes of what is left of x
pub record Put (s₀ : List ℕ) (n x : ℕ) (s : List ℕ) (rest i : ℕ) : Type 0 where
  pub within : i ≤ n
  pub long : length s ≡ length s₀
  pub front : bytes_of n x ≡ take i s ++ bytes_of (n - i) rest
  pub back : drop i s ≡ drop i s₀

module _ (s₀ : List ℕ) (n x : ℕ) where
  pub put_more : (s : List ℕ) (rest i : ℕ) → i < n → n ≤ length s₀ → Put s₀ n x s rest i → Put s₀ n x (set s i (rest % 256)) (rest / 256) (i + 1)
  put_more s rest i h m p = record {
    within = omega arith;
    long = length-set s i (rest % 256) ∙ p.long;
    front =
        let e : n - i ≡ suc (n - (i + 1)) = omega arith in
        let hl : i < length s = omega (arith, p.long) in
        p.front ∙ rw (e, bytes_step, add-one, take-suc-set, append_assoc);
    back =
        let hl : i < i + 1 = omega arith in
        rw drop-set-lt (sym (drop-drop 1 i s) ∙ ap (drop 1) p.back ∙ drop-drop 1 i s₀);
  }

  pub put_all : (s : List ℕ) (rest i : ℕ) → n ≤ i → Put s₀ n x s rest i → s ≡ bytes_of n x ++ drop n s₀
  put_all s rest i h p =
      let e : i ≡ n = omega (arith, p.within) in
      let z : n - i ≡ 0 = omega arith in
      let f : bytes_of n x ≡ take i s = p.front ∙ rw (z, bytes_none, append-nil) in
      cc (take-append-drop i s, f, p.back, e)
