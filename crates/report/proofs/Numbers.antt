-- The numbers of refusals that a line can show. Assumes nothing.
use mathlib.Core.Path.{◌≡◌, refl}
use mathlib.Core.Bool.{Bool, true, false, not, ◌&&◌, cond}
use mathlib.Core.List.{List, [], ◌∷◌}
use Prim.Native.Nat.{ℕ, zero, suc, ◌+◌, ◌<◌}
use native.Mathlib.Omega.{arith}
use lib.ListN.{length, get_or, drop}
use lib.Dec.{eqb, ltb}
use borrow.Author.Tests.{ltb-true, eqb-false, not-true}
use Rattle.lists.proofs.Count.{and_both}
use Rattle.refusals.specs.Refusals.{Outcome, given, refused, Ruling, refuse_if, refused_or, on_given}
use Rattle.numbers.specs.Numbers.{number_in}
use Rattle.network.specs.Network.{Topology}
use Rattle.network.specs.declared.Link.{Link}
use Rattle.network.specs.Checks.{bad_frames, bad_range, bad_least, bad_closed, bad_count, bad_cycle, link_check, links_check, network_check}
use Rattle.records.specs.declared.Field.{Field}
use Rattle.records.specs.Reading.{needed, values_in, stray_bits, restated, read_mapped, read_record}
use Rattle.network_file.specs.Fields.{link_layout, link_of}
use Rattle.network_file.specs.Reading.{read_link, read_links, read_network}
use Rattle.forwarding.specs.Ways.{route_ways}
use Rattle.ledger.specs.Sessions.{Session, View, is_live, hops_of}
use Rattle.ledger.specs.Routes.{bad_length, unknown_link, link_twice, rates_apart, rates_of, route_check}
use Rattle.ledger.specs.Sound.{intact}
use Rattle.ledger.specs.Calls.{Call, SetUp, Quote, Release, full, call_check, checks_of, look_in, lookup}
use Rattle.ledger.specs.Ways.{ways_of}

-- a number of two digits at most, and not 20, which refuses only what is to be written
abbrev plain : ℕ → Bool
plain n = ltb n 100 && not (eqb n 20)

pub plain_short : (n : ℕ) → plain n ≡ true → n < 100
plain_short n e = ltb-true n 100 (and_both (ltb n 100) (not (eqb n 20)) e).0

pub plain_other : (n : ℕ) → plain n ≡ true → n ≡ 20 → ⊥
plain_other n e = eqb-false n 20 (not-true (eqb n 20) (and_both (ltb n 100) (not (eqb n 20)) e).1)

-- a call that is refused is refused with such a number
abbrev Plain : {A : Type 0} → Outcome A → Type 0
Plain (given a) = Unit {0}
Plain (refused n) = plain n ≡ true

plain_if : (b : Bool) (n : ℕ) → plain n ≡ true → Plain (refuse_if b n)
plain_if true n h = h
plain_if false n h = tt

plain_or : {A : Type 0} (a : Ruling) (o : Outcome A) → Plain a → Plain o → Plain (refused_or a o)
plain_or (given p) o h g = g
plain_or (refused n) o h g = h

plain_on : {A B : Type 0} (o : Outcome A) (f : A → Outcome B) → Plain o → ((a : A) → Plain (f a)) → Plain (on_given o f)
plain_on (given a) f h g = g a
plain_on (refused n) f h g = h

plain_cond : {A : Type 0} (b : Bool) (o p : Outcome A) → Plain o → Plain p → Plain (cond b o p)
plain_cond true o p h g = h
plain_cond false o p h g = g

-- one more check before others
plain_check : {A : Type 0} (b : Bool) (n : ℕ) (o : Outcome A) → plain n ≡ true → Plain o → Plain (refused_or (refuse_if b n) o)
plain_check b n o h g = plain_or (refuse_if b n) o (plain_if b n h) g

-- ---- net.bin: 1 to 10, and 21
mapped_plain : (fs : List Field) (map : ℕ) (s : List ℕ) → Plain (read_mapped fs map s)
unfolding read_mapped
mapped_plain fs map s =
    plain_check (ltb (length s) (1 + needed fs map)) 4 _ refl
    (plain_check (not (eqb (stray_bits fs map) 0)) 5 _ refl
    (plain_check (restated fs map (values_in fs map (drop 1 s))) 6 _ refl tt))

record_plain : (fs : List Field) (s : List ℕ) → Plain (read_record fs s)
unfolding read_record
record_plain fs s = plain_check (eqb (length s) 0) 4 (read_mapped fs (get_or s 0 0) s) refl (mapped_plain fs (get_or s 0 0) s)

link_plain : (T : ℕ) (l : Link) → Plain (link_check T l)
unfolding link_check
link_plain T l =
    plain_check (bad_frames T l.frames) 7 _ refl
    (plain_check (bad_range l.frames l.range) 8 _ refl
    (plain_check (bad_least l.frames l.range l.least) 21 _ refl
    (plain_if (bad_closed l.frames l.closed) 9 refl)))

read_link_plain : (T : ℕ) (s : List ℕ) → Plain (read_link T s)
unfolding read_link
read_link_plain T s =
    plain_on (read_record link_layout s) (λ x. refused_or (link_check T (link_of x.values)) (given (record { link = link_of x.values; used = x.used }))) (record_plain link_layout s)
    (λ x. plain_or (link_check T (link_of x.values)) (given (record { link = link_of x.values; used = x.used })) (link_plain T (link_of x.values)) tt)

links_plain : (T n : ℕ) (s : List ℕ) → Plain (read_links T n s)
unfolding read_links
links_plain T zero s = plain_check (not (eqb (length s) 0)) 10 _ refl tt
links_plain T (suc n) s =
    plain_on (read_link T s) (λ x. on_given (read_links T n (drop x.used s)) (λ ls. given (x.link ∷ ls))) (read_link_plain T s)
    (λ x. plain_on (read_links T n (drop x.used s)) (λ ls. given (x.link ∷ ls)) (links_plain T n (drop x.used s)) (λ ls. tt))

file_plain : (s : List ℕ) → Plain (read_network s)
unfolding read_network
file_plain s =
    plain_check (ltb (length s) 3) 1 _ refl
    (plain_check (bad_count (get_or s 2 0)) 2 _ refl
    (plain_check (bad_cycle (number_in 2 s)) 3 _ refl
    (plain_on (read_links (number_in 2 s) (get_or s 2 0) (drop 3 s)) _ (links_plain (number_in 2 s) (get_or s 2 0) (drop 3 s)) (λ ls. tt))))

refused_plain : {A : Type 0} (o : Outcome A) (n : ℕ) → Plain o → o ≡ refused n → plain n ≡ true
refused_plain (given a) n h e = let z : ◌≡◌ {A = ℕ} 0 1 = cc in absurd (omega arith)
refused_plain (refused k) n h e = let q : k ≡ n = cc in rw (← q) h

pub file_number : (s : List ℕ) (n : ℕ) → read_network s ≡ refused n → plain n ≡ true
file_number s n e = refused_plain (read_network s) n (file_plain s) e

-- ---- a call after 0: 12 to 19
route_plain : (net : Topology) (route : List ℕ) → Plain (route_check net route)
unfolding route_check
route_plain net route =
    plain_check (bad_length (length route)) 12 _ refl
    (plain_check (unknown_link net route) 13 _ refl
    (plain_check (link_twice route) 14 _ refl
    (plain_if (rates_apart (rates_of net route)) 15 refl)))

call_plain : (net : Topology) (ss : List Session) (call : Call) → Plain (call_check net ss call)
unfolding call_check
call_plain net ss (SetUp n route) =
    plain_or (route_check net route) _ (route_plain net route)
    (plain_check (is_live n ss) 16 _ refl (plain_if (full ss) 17 refl))
call_plain net ss (Quote route) = route_plain net route
call_plain net ss (Release n) = plain_if (not (is_live n ss)) 19 refl

pub call_number : (net : Topology) (ss : List Session) (call : Call) (k : ℕ) → call_check net ss call ≡ refused k → plain k ≡ true
call_number net ss call k e = refused_plain (call_check net ss call) k (call_plain net ss call) e

-- ---- a network given as values: 2, 3, 7, 8, 21 and 9
links_check_plain : (T : ℕ) (ls : List Link) → Plain (links_check T ls)
unfolding links_check
links_check_plain T [] = tt
links_check_plain T (l ∷ ls) = plain_or (link_check T l) (links_check T ls) (link_plain T l) (links_check_plain T ls)

network_plain : (t : Topology) → Plain (network_check t)
unfolding network_check
network_plain t =
    plain_check (bad_count (length t.links)) 2 _ refl
    (plain_check (bad_cycle t.ticks) 3 _ refl (links_check_plain t.ticks t.links))

pub network_number : (t : Topology) (n : ℕ) → network_check t ≡ refused n → plain n ≡ true
network_number t n e = refused_plain (network_check t) n (network_plain t) e

-- ---- lookup: 0 and 19
look_plain : (n : ℕ) (ss : List Session) → Plain (look_in n ss)
look_plain n [] = refl
look_plain n (s ∷ ss) = plain_cond (eqb s.number n) (given s) (look_in n ss) tt (look_plain n ss)

pub lookup_number : (v : View) (number k : ℕ) → lookup v number ≡ refused k → plain k ≡ true
unfolding lookup
lookup_number v number k e = refused_plain (lookup v number) k (plain_check (not (intact v)) 0 (look_in number v.live) refl (look_plain number v.live)) e

-- ---- the number of ways: 0 and 12 to 15
pub ways_number : (v : View) (route : List ℕ) (k : ℕ) → ways_of v route ≡ refused k → plain k ≡ true
unfolding ways_of
ways_number v route k e =
    let c : Ruling = call_check v.network v.live (Quote route) in
    refused_plain (ways_of v route) k
    (plain_or (checks_of v (Quote route)) (given (route_ways (hops_of v.network v.live route)))
    (plain_check (not (intact v)) 0 c refl (call_plain v.network v.live (Quote route))) tt) e
