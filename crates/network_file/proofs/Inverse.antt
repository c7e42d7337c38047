-- Reading and writing undo each other: a link's record, the records of all links, the file. Assumes nothing.
use mathlib.Core.Path.{◌≡◌, refl, sym, ap, ap₂, ◌∙◌}
use mathlib.Core.Bool.{false, not}
use mathlib.Core.List.{List, [], ◌∷◌, ◌++◌}
use Prim.Native.Nat.{ℕ, zero, suc, ◌+◌, ◌^◌, ◌<◌, ◌≤◌}
use native.Mathlib.Omega.{arith}
use native.Mathlib.Nat.{lt_of_lt_of_le}
use borrow.Author.Tests.{le-ltb, ltb-false, eqb-true, not-false}
use lib.Seq.{drop-append_seam, split_at}
use lib.Dec.{eqb, ltb}
use lib.Pow.{pow_mono}
use lib.ListN.{length, get_or, drop, take, take-append-drop}
use Rattle.places.specs.Places.{firsts}
use Rattle.places.proofs.Firsts.{next_first, no_first, firsts_all}
use Rattle.refusals.specs.Refusals.{Outcome, given, refused, pass, refuse_if, refused_or, on_given, given_or}
use Rattle.refusals.proofs.Refusals.{past, not_given}
use Rattle.numbers.specs.Numbers.{number_in, bytes_of, IsBytes}
use Rattle.numbers.proofs.Trip.{number_bytes_lem, bytes_number, bytes_drop}
use Rattle.network.specs.declared.Link.{Link}
use Rattle.network.specs.Network.{Topology}
use Rattle.network.specs.Checks.{bad_count, bad_cycle, link_check, links_check, network_check}
use Rattle.network.proofs.Tests.{cycle_passed}
use Rattle.network.proofs.Checks.{link_good, link_few, network_good, good_network_lem, links_good}
use Rattle.network.proofs.Closed.{closed_below}
use Rattle.records.specs.Layout.{Fits, fits_none, fits_more}
use Rattle.records.specs.Writing.{record_of}
use Rattle.records.proofs.ReadWrite.{Whole}
use Rattle.records.proofs.WriteRead.{record_back}
use Rattle.records.proofs.Layouts.{length_fits}
use Rattle.network_file.specs.Writing.{link_bytes, links_bytes, image_of}
use Rattle.network_file.specs.Fields.{link_layout, values_of, link_of}
use Rattle.network_file.specs.Reading.{Linked, read_link, read_links, within, read_network}
use Rattle.network_file.proofs.Files.{Was, was, was_whole}
use Rattle.network_file.proofs.Records.{link_layout_lem, link_said}

-- ---- written, then read
link_back : (l : Link) → link_of (values_of l) ≡ l
unfolding link_of values_of
link_back l = refl

-- the values of a link that passed its checks fit in its fields
pub link_fits : (T : ℕ) (l : Link) → link_check T l ≡ given pass → Fits link_layout (values_of l)
unfolding link_layout values_of
link_fits T l e =
    let g = link_good T l e in
    let f = link_few T l g in
    let w : l.closed < 2 ^ 64 = lt_of_lt_of_le (closed_below l.frames l.closed g.closed) (pow_mono f.0) in
    let k : l.frames < 256 = omega (arith, f.0) in
    let z : l.range < 256 = omega (arith, f.1) in
    let y : l.least < 256 = omega (arith, f.2) in
    fits_more k (fits_more z (fits_more w (fits_more y fits_none)))

pub link_reads : (T : ℕ) (l : Link) (q : List ℕ) → link_check T l ≡ given pass → read_link T (link_bytes l ++ q) ≡ given (record { link = l; used = length (link_bytes l) })
unfolding link_bytes
link_reads T l q e = link_said T (record_of link_layout (values_of l) ++ q) (record { values = values_of l; used = length (record_of link_layout (values_of l)) }) (record_back link_layout (values_of l) q link_layout_lem (link_fits T l e)) ∙ rw (link_back l, e)

pub links_read : (T : ℕ) (ls : List Link) → links_check T ls ≡ given pass → read_links T (length ls) (links_bytes ls) ≡ given ls
unfolding read_links links_bytes
links_read T [] e = refl
links_read T (l ∷ ls) e =
    let p : (link_check T l ≡ given pass) × (links_check T ls ≡ given pass) = links_good T l ls e in
    rw (link_reads T l (links_bytes ls) p.0, drop-append_seam (link_bytes l) (links_bytes ls), links_read T ls p.1)

pub image_reads : (t : Topology) → network_check t ≡ given pass → read_network (image_of t) ≡ given t
unfolding read_network image_of bytes_of
image_reads t e =
    let g = network_good t e in
    let T : ℕ = t.ticks in
    let c = cycle_passed T g.cycle in
    let n : number_in 2 (image_of t) ≡ T = number_bytes_lem 2 T (length t.links ∷ links_bytes t.links) (omega arith) in
    let h : 3 ≤ length (image_of t) = omega arith in
    rw (le-ltb (length (image_of t)) 3 h, n, g.count, g.cycle, links_read T t.links g.links)

-- ---- read, then written
-- a value for each field, and no other
values_all : (vs : List ℕ) → length vs ≡ 4 → get_or vs 0 0 ∷ get_or vs 1 0 ∷ get_or vs 2 0 ∷ get_or vs 3 0 ∷ [] ≡ vs
values_all vs e =
    sym (next 0 (omega arith) (next 1 (omega arith) (next 2 (omega arith) (next 3 (omega arith) (no_first 4 4 vs 0 (omega arith)))))) ∙ rw (← e) (firsts_all vs 0)
  where
    next : (i : ℕ) → i < 4 → {t : List ℕ} → drop (i + 1) (firsts 4 vs 0) ≡ t → drop i (firsts 4 vs 0) ≡ get_or vs i 0 ∷ t
    next i h w = next_first 4 i vs 0 h ∙ ap (λ (t : List ℕ). get_or vs i 0 ∷ t) w

values_only : (vs : List ℕ) → Fits link_layout vs → values_of (link_of vs) ≡ vs
unfolding link_layout values_of link_of
values_only vs h = values_all vs (length_fits link_layout vs h)

-- a link that was read: its record starts the bytes, and it passed its checks
pub record Starts (T : ℕ) (s : List ℕ) (y : Linked) : Type 0 where
  pub bytes : link_bytes y.link ≡ take y.used s
  pub passed : link_check T y.link ≡ given pass

pub link_only : (T : ℕ) (s : List ℕ) (y : Linked) → IsBytes s → read_link T s ≡ given y → Starts T s y
unfolding link_bytes
link_only T s y b e =
    let w : Was T s y = was T s y e in
    let h : Whole link_layout s w.said = was_whole T s y b w in
    record {
      bytes = ap link_bytes w.link ∙ ap (record_of link_layout) (values_only w.said.values h.fit) ∙ h.bytes ∙ ap (λ (k : ℕ). take k s) (sym w.used);
      passed = ap (link_check T) w.link ∙ w.passed;
    }

empty : (s : List ℕ) → length s ≡ 0 → [] ≡ s
empty [] e = refl
empty (x ∷ s) e = absurd (let z : ◌≡◌ {A = ℕ} 0 1 = omega arith in omega arith)

-- links that were read: their records are all the bytes, and they passed their checks
pub record Filled (T n : ℕ) (s : List ℕ) (ls : List Link) : Type 0 where
  pub many : length ls ≡ n
  pub bytes : links_bytes ls ≡ s
  pub passed : links_check T ls ≡ given pass

one_more : (T n : ℕ) (s : List ℕ) (ls : List Link) → IsBytes s → ((t : List ℕ) (ms : List Link) → IsBytes t → read_links T n t ≡ given ms → Filled T n t ms)
    → (o : Outcome Linked) → read_link T s ≡ o → on_given o (λ x. on_given (read_links T n (drop x.used s)) (λ ms. given (x.link ∷ ms))) ≡ given ls → Filled T (suc n) s ls
unfolding links_bytes links_check
one_more T n s ls b rec (refused k) q e = absurd (not_given k ls e)
one_more T n s ls b rec (given y) q e = go (read_links T n (drop y.used s)) refl e
  where
    go : (o : Outcome (List Link)) → read_links T n (drop y.used s) ≡ o → on_given o (λ ms. given (y.link ∷ ms)) ≡ given ls → Filled T (suc n) s ls
    go (refused k) p f = absurd (not_given k ls f)
    go (given ms) p f =
        let same : y.link ∷ ms ≡ ls = ap (given_or []) f in
        let l : Starts T s y = link_only T s y b q in
        let r : Filled T n (drop y.used s) ms = rec (drop y.used s) ms (bytes_drop y.used s b) p in
        rw (← same) (record { many = ap suc r.many; bytes = ap₂ ◌++◌ l.bytes r.bytes ∙ take-append-drop y.used s; passed = rw l.passed r.passed })

pub links_only : (T n : ℕ) (s : List ℕ) (ls : List Link) → IsBytes s → read_links T n s ≡ given ls → Filled T n s ls
unfolding read_links links_bytes links_check
links_only T zero s ls b e =
    let p : (not (eqb (length s) 0) ≡ false) × (given [] ≡ given ls) = past (not (eqb (length s) 0)) 10 (given []) ls e in
    let z : length s ≡ 0 = eqb-true (length s) 0 (not-false (eqb (length s) 0) p.0) in
    let same : [] ≡ ls = ap (given_or []) p.1 in
    rw (← same) (record { many = refl; bytes = empty s z; passed = refl })
links_only T (suc n) s ls b e = one_more T n s ls b (links_only T n) (read_link T s) refl e

-- a file that was read: it is the image of what it says, which passed its checks
pub record Is (s : List ℕ) (t : Topology) : Type 0 where
  pub image : image_of t ≡ s
  pub passed : network_check t ≡ given pass

three_bytes : (s : List ℕ) → 3 ≤ length s → take 2 s ++ (get_or s 2 0 ∷ drop 3 s) ≡ s
three_bytes s h = sym (split_at s 2 0 (omega arith))

pub file_only : (s : List ℕ) (t : Topology) → IsBytes s → read_network s ≡ given t → Is s t
unfolding read_network image_of
file_only s t b e =
    let T : ℕ = number_in 2 s in
    let n : ℕ = get_or s 2 0 in
    let links : Outcome Topology = within T (read_links T n (drop 3 s)) in
    let three : Outcome Topology = refused_or (refuse_if (bad_cycle T) 3) links in
    let two : Outcome Topology = refused_or (refuse_if (bad_count n) 2) three in
    let p : (ltb (length s) 3 ≡ false) × (two ≡ given t) = past (ltb (length s) 3) 1 two t e in
    let q : (bad_count n ≡ false) × (three ≡ given t) = past (bad_count n) 2 three t p.1 in
    let r : (bad_cycle T ≡ false) × (links ≡ given t) = past (bad_cycle T) 3 links t q.1 in
    go (read_links T n (drop 3 s)) refl r.1 (ltb-false (length s) 3 p.0) q.0 r.0
  where
    go : (o : Outcome (List Link)) → read_links (number_in 2 s) (get_or s 2 0) (drop 3 s) ≡ o → within (number_in 2 s) o ≡ given t → 3 ≤ length s → bad_count (get_or s 2 0) ≡ false → bad_cycle (number_in 2 s) ≡ false → Is s t
    go (refused k) q f h c d = absurd (not_given k t f)
    go (given ls) q f h c d =
        let same : ◌≡◌ {A = Topology} (record { ticks = number_in 2 s; links = ls }) t = ap (given_or (record { ticks = 0; links = [] })) f in
        let w : Filled (number_in 2 s) (get_or s 2 0) (drop 3 s) ls = links_only (number_in 2 s) (get_or s 2 0) (drop 3 s) ls (bytes_drop 3 s b) q in
        let i : bytes_of 2 (number_in 2 s) ++ (length ls ∷ links_bytes ls) ≡ s = ap₂ ◌++◌ (bytes_number 2 s b (omega arith)) (ap₂ ◌∷◌ w.many w.bytes) ∙ three_bytes s h in
        let g : network_check (record { ticks = number_in 2 s; links = ls }) ≡ given pass = good_network_lem (record { ticks = number_in 2 s; links = ls }) (record { count = rw w.many c; cycle = d; links = w.passed }) in
        rw (← same) (record { image = i; passed = g })
