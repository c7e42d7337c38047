-- A network file is told by its first 388 bytes: what follows them does not change what it says. Assumes nothing.
use mathlib.Core.Path.{◌≡◌, refl, sym, ap, ◌∙◌}
use mathlib.Core.Bool.{Bool, true, false}
use mathlib.Core.List.{List, ◌∷◌, ◌++◌}
use Prim.Native.Nat.{ℕ, zero, suc, ◌*◌, ◌<◌, ◌≤◌}
use native.Mathlib.Omega.{arith}
use borrow.Author.Tests.{le-ltb, ltb-true, ltb-false, ne_eqb}
use lib.ListN.{length, get_or, drop, take, length-append, length-drop, take-append-drop}
use lib.Seq.{drop-append-le, length-take-le, take_all}
use lib.Dec.{ltb}
use Rattle.refusals.specs.Refusals.{Outcome, given, refused, refuse_if, refused_or, on_given}
use Rattle.numbers.specs.Numbers.{number_in}
use Rattle.numbers.proofs.Front.{byte_front, number_front}
use Rattle.network.specs.Checks.{bad_count, bad_cycle}
use Rattle.network.proofs.Tests.{count_passed}
use Rattle.records.proofs.Front.{record_front, used_bound}
use Rattle.network_file.specs.Fields.{link_layout}
use Rattle.network_file.specs.Reading.{Linked, read_link, read_links, within, read_network, FirstBytes}
use Rattle.network_file.proofs.Files.{Was, was}

-- ---- one link
link_front : (T : ℕ) (a t : List ℕ) → 12 ≤ length a → read_link T (a ++ t) ≡ read_link T a
unfolding read_link link_layout
link_front T a t h = rw (record_front link_layout a t (omega arith))

link_used : (T : ℕ) (s : List ℕ) (y : Linked) → read_link T s ≡ given y → y.used ≤ 12
unfolding link_layout
link_used T s y e =
    let w : Was T s y = was T s y e in
    omega (arith, w.used, used_bound link_layout s w.said w.is)

-- ---- the links, and at least one byte after them
others_front : (T n : ℕ) (a t : List ℕ) (o : Outcome Linked) → read_link T a ≡ o → ((b : List ℕ) → 12 * n < length b → read_links T n (b ++ t) ≡ read_links T n b) → 12 * suc n < length a → on_given o (λ x. on_given (read_links T n (drop x.used (a ++ t))) (λ ls. given (x.link ∷ ls))) ≡ on_given o (λ x. on_given (read_links T n (drop x.used a)) (λ ls. given (x.link ∷ ls)))
others_front T n a t (refused m) e others h = refl
others_front T n a t (given x) e others h =
    let k : ℕ = x.used in
    let few : k ≤ 12 = link_used T a x e in
    let rest : read_links T n (drop k (a ++ t)) ≡ read_links T n (drop k a) = ap (read_links T n) (drop-append-le k a t (omega arith)) ∙ others (drop k a) (omega (arith, length-drop k a)) in
    rw rest

links_front : (T n : ℕ) (a t : List ℕ) → 12 * n < length a → read_links T n (a ++ t) ≡ read_links T n a
unfolding read_links
links_front T zero a t h =
    let long : length a ≡ 0 → ⊥ = λ e. omega arith in
    let longer : length (a ++ t) ≡ 0 → ⊥ = λ e. omega (arith, length-append a t) in
    rw (ne_eqb (length (a ++ t)) 0 longer, ne_eqb (length a) 0 long)
links_front T (suc n) a t h = rw (link_front T a t (omega arith)) (others_front T n a t (read_link T a) refl (λ b g. links_front T n b t g) h)

-- ---- the file
-- a count that passed its check is 32 at most: the links end before byte 387
counted_front : (T n : ℕ) (a t : List ℕ) (b : Bool) → bad_count n ≡ b → 388 ≤ length a → refused_or (refuse_if b 2) (refused_or (refuse_if (bad_cycle T) 3) (within T (read_links T n (drop 3 (a ++ t))))) ≡ refused_or (refuse_if b 2) (refused_or (refuse_if (bad_cycle T) 3) (within T (read_links T n (drop 3 a))))
counted_front T n a t true e h = refl
counted_front T n a t false e h =
    let few : n ≤ 32 = (count_passed n e).1 in
    let links : read_links T n (drop 3 (a ++ t)) ≡ read_links T n (drop 3 a) = ap (read_links T n) (drop-append-le 3 a t (omega arith)) ∙ links_front T n (drop 3 a) t (omega (arith, length-drop 3 a)) in
    rw links

network_front : (a t : List ℕ) → 388 ≤ length a → read_network (a ++ t) ≡ read_network a
unfolding read_network
network_front a t h =
    let long : 3 ≤ length a = omega arith in
    let longer : 3 ≤ length (a ++ t) = omega (arith, length-append a t) in
    let ticks : number_in 2 (a ++ t) ≡ number_in 2 a = number_front 2 a t (omega arith) in
    let count : get_or (a ++ t) 2 0 ≡ get_or a 2 0 = byte_front a t 2 (omega arith) in
    rw (le-ltb (length (a ++ t)) 3 longer, le-ltb (length a) 3 long, ticks, count) (counted_front (number_in 2 a) (get_or a 2 0) a t (bad_count (get_or a 2 0)) refl h)

-- THE FIRST 388 BYTES OF A FILE TELL WHAT THE WHOLE SAYS
pub first_bytes : FirstBytes
first_bytes s m h = go (ltb m (length s)) refl
  where
    go : (b : Bool) → ltb m (length s) ≡ b → read_network (take m s) ≡ read_network s
    go true e =
        let l : m < length s = ltb-true m (length s) e in
        let n : length (take m s) ≡ m = length-take-le m s (omega arith) in
        sym (network_front (take m s) (drop m s) (omega arith)) ∙ ap read_network (take-append-drop m s)
    go false e = ap read_network (take_all m s (ltb-false m (length s) e))
