-- A network given as values. Assumes nothing.
use mathlib.Core.Path.{◌≡◌, refl, sym, ap, ◌∙◌}
use mathlib.Core.Bool.{or-true}
use mathlib.Core.List.{List, [], ◌∷◌, ◌++◌}
use Prim.Native.Nat.{ℕ, zero, suc, ◌+◌, ◌<◌, ◌≤◌, min}
use native.Mathlib.Nat.{not-suc-le-zero, le_of_suc-le-suc}
use native.Mathlib.Numerals.{add-one}
use native.Mathlib.Omega.{arith}
use lib.ListN.{length, get_or, take, set, replicate}
use lib.Seq.{take-suc, take_all, length-take-le}
use lib.Dec.{eqb}
use borrow.Author.Tests.{lt-ltb}
use Rattle.places.specs.Places.{firsts}
use Rattle.places.proofs.Firsts.{firsts_filled, firsts_more, firsts_back}
use Rattle.std.specs.Prelude.{Result, Err}
use Rattle.refusals.specs.declared.Refusal.{Refusal}
use Rattle.refusals.specs.declared.Refusal.TheVariants.{LinkCount}
use Rattle.network.specs.declared.Link.{Link}
use Rattle.network.specs.Network.{no_link, topology_of}
use Rattle.network.specs.Checks.{bad_count, network_check}
use Rattle.network_file.specs.Lent.{Writes}
use Rattle.network_file.specs.Writing.{write_network}
use Rattle.exports.specs.Exported.{links_from, written_of}

pub count_from : (ks zs cs ys : List ℕ) → length (links_from ks zs cs ys) ≡ min (length ks) (min (length zs) (min (length cs) (length ys)))
unfolding links_from
count_from [] zs cs ys = omega arith
count_from (k ∷ ks) [] cs ys = omega arith
count_from (k ∷ ks) (z ∷ zs) [] ys = omega arith
count_from (k ∷ ks) (z ∷ zs) (c ∷ cs) [] = omega arith
count_from (k ∷ ks) (z ∷ zs) (c ∷ cs) (y ∷ ys) = omega (arith, count_from ks zs cs ys)

link_from : (ks zs cs ys : List ℕ) (i : ℕ) → i < length (links_from ks zs cs ys) → get_or (links_from ks zs cs ys) i no_link ≡ record { frames = get_or ks i 0; range = get_or zs i 0; least = get_or ys i 0; closed = get_or cs i 0 }
unfolding links_from
link_from [] zs cs ys i h = absurd (not-suc-le-zero h)
link_from (k ∷ ks) [] cs ys i h = absurd (not-suc-le-zero h)
link_from (k ∷ ks) (z ∷ zs) [] ys i h = absurd (not-suc-le-zero h)
link_from (k ∷ ks) (z ∷ zs) (c ∷ cs) [] i h = absurd (not-suc-le-zero h)
link_from (k ∷ ks) (z ∷ zs) (c ∷ cs) (y ∷ ys) zero h = refl
link_from (k ∷ ks) (z ∷ zs) (c ∷ cs) (y ∷ ys) (suc i) h = link_from ks zs cs ys i (le_of_suc-le-suc h)

-- ---- the links before i stand in their places
pub record Filled (ks zs cs ys : List ℕ) (links : List Link) (i : ℕ) : Type 0 where
  pub within : i ≤ length (links_from ks zs cs ys)
  pub held : links ≡ firsts 32 (take i (links_from ks zs cs ys)) no_link

pub none_filled : (ks zs cs ys : List ℕ) (l : Link) → l ≡ no_link → Filled ks zs cs ys (replicate 32 l) 0
none_filled ks zs cs ys l e = record { within = omega arith; held = rw e (firsts_filled 32 [] no_link (omega arith)) }

module _ (ks zs cs ys : List ℕ) (count : ℕ) (is : count ≡ min (length ks) (min (length zs) (min (length cs) (length ys)))) where
  many : length (links_from ks zs cs ys) ≡ count
  many = count_from ks zs cs ys ∙ sym is

  module _ (few : count ≤ 32) (links : List Link) (i : ℕ) (f : Filled ks zs cs ys links i) where
    pub one_filled : i < count → Filled ks zs cs ys (set links i (record { frames = get_or ks i 0; range = get_or zs i 0; least = get_or ys i 0; closed = get_or cs i 0 })) (i + 1)
    one_filled h =
        let l : List Link = links_from ks zs cs ys in
        let n : length l ≡ count = many in
        let t : take (i + 1) l ≡ take i l ++ (get_or l i no_link ∷ []) = rw add-one (take-suc l i no_link (omega arith)) in
        record {
          within = omega arith;
          held = rw (f.held, t, link_from ks zs cs ys i (omega arith)) (firsts_more 32 i (take i l) (record { frames = get_or ks i 0; range = get_or zs i 0; least = get_or ys i 0; closed = get_or cs i 0 }) no_link (length-take-le i l (omega arith)) (omega arith));
        }

    pub all_filled : count ≤ i → links ≡ firsts 32 (links_from ks zs cs ys) no_link
    all_filled h = f.held ∙ ap (λ (l : List Link). firsts 32 l no_link) (take_all i (links_from ks zs cs ys) (omega (arith, many)))

  -- too many links are refused with 2, and others are written
  pub too_many : 32 < count → (T : ℕ) (buffer : List ℕ) → Writes (written_of T ks zs cs ys (length buffer)) buffer buffer (Err LinkCount)
  unfolding written_of write_network network_check bad_count
  too_many h T buffer = rw (many, lt-ltb 32 count h, or-true (eqb count 0)) record { answer = refl; buffer = refl }

  pub values_written : count ≤ 32 → (T : ℕ) (links : List Link) → links ≡ firsts 32 (links_from ks zs cs ys) no_link → (before after : List ℕ) (q : Result ℕ Refusal)
      → Writes (write_network (topology_of (record { ticks = T; count = count; links = links })) (length before)) before after q → Writes (written_of T ks zs cs ys (length before)) before after q
  unfolding written_of topology_of
  values_written few T links e before after q w =
      let back : firsts count links no_link ≡ links_from ks zs cs ys = rw (e, ← many) (firsts_back 32 (links_from ks zs cs ys) no_link (omega (arith, many))) in
      rw back at w
