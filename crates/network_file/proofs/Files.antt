-- Reading a file: its links one after the other, its end and its head. Assumes nothing.
use mathlib.Core.Path.{◌≡◌, refl, sym, ap, ◌∙◌}
use mathlib.Core.Bool.{Bool, true, false, not}
use mathlib.Core.List.{List, [], ◌∷◌, ◌++◌, append_assoc, append-nil}
use Prim.Native.Nat.{ℕ, suc, ◌+◌, ◌-◌, ◌<◌, ◌≤◌}
use native.Mathlib.Omega.{arith}
use borrow.Author.Tests.{lt-ltb, le-ltb, eq-eqb, ne_eqb}
use lib.Seq.{drop-drop}
use lib.ListN.{length, get_or, drop, take, set, length-append, length-drop}
use lib.Dec.{eqb}
use Rattle.std.specs.Prelude.{Result, Ok, Err}
use Rattle.places.specs.Places.{firsts}
use Rattle.places.proofs.Parts.{part_rest}
use Rattle.places.proofs.Firsts.{firsts_more}
use Rattle.refusals.specs.declared.Refusal.{Refusal}
use Rattle.refusals.specs.declared.Refusal.TheVariants.{ShortFile, LinkCount, CycleLength, BytesFollow}
use Rattle.refusals.specs.Refusals.{Outcome, given, refused, pass, Ruling, refuse_if, refused_or, on_given, refusal_number}
use Rattle.refusals.proofs.Refusals.{not_given}
use Rattle.numbers.specs.Numbers.{number_in}
use Rattle.numbers.proofs.Laws.{number_bound}
use Rattle.numbers.proofs.Trip.{bytes_drop}
use Rattle.network.specs.Checks.{bad_count, bad_cycle, link_check}
use Rattle.network.specs.declared.Link.{Link}
use Rattle.network.specs.declared.Network.{Network}
use Rattle.network.specs.Network.{no_link}
use Rattle.network.proofs.Tests.{count_passed}
use Rattle.records.specs.Reading.{Said, read_record}
use Rattle.records.proofs.ReadWrite.{Whole, record_only}
use Rattle.network_file.specs.Reading.{Linked, read_link, read_links, within, read_network, Reads}
use Rattle.network_file.specs.Fields.{link_layout, link_of}
use Rattle.network_file.proofs.Records.{link_layout_lem}

-- ---- a link that was read
pub record Was (T : ℕ) (s : List ℕ) (y : Linked) : Type 0 where
  pub said : Said
  pub is : read_record link_layout s ≡ given said
  pub passed : link_check T (link_of said.values) ≡ given pass
  pub link : y.link ≡ link_of said.values
  pub used : y.used ≡ said.used

pub was : (T : ℕ) (s : List ℕ) (y : Linked) → read_link T s ≡ given y → Was T s y
unfolding read_link
was T s y e = go (read_record link_layout s) refl e
  where
    one : (x : Said) → read_record link_layout s ≡ given x → (r : Ruling) → link_check T (link_of x.values) ≡ r → refused_or r (given (record { link = link_of x.values; used = x.used })) ≡ given y → Was T s y
    one x q (given pass) p f =
        let z : ◌≡◌ {A = Linked} (record { link = link_of x.values; used = x.used }) y = cc in
        record { said = x; is = q; passed = p; link = sym (ap (λ (a : Linked). a.link) z); used = sym (ap (λ (a : Linked). a.used) z) }
    one x q (refused n) p f = absurd (not_given n y f)

    go : (o : Outcome Said) → read_record link_layout s ≡ o → on_given o (λ x. refused_or (link_check T (link_of x.values)) (given (record { link = link_of x.values; used = x.used }))) ≡ given y → Was T s y
    go (given x) q f = one x q (link_check T (link_of x.values)) refl f
    go (refused n) q f = absurd (not_given n y f)

pub was_whole : (T : ℕ) (s : List ℕ) (y : Linked) → ((i : ℕ) → get_or s i 0 < 256) → (w : Was T s y) → Whole link_layout s w.said
was_whole T s y b w = record_only link_layout s w.said link_layout_lem b w.is

pub link_room : (T : ℕ) (s : List ℕ) (y : Linked) → ((i : ℕ) → get_or s i 0 < 256) → read_link T s ≡ given y → y.used ≤ length s
link_room T s y b e =
    let w = was T s y e in
    rw w.used (was_whole T s y b w).room

-- ---- some links that were read, before what the others say
abbrev after : List Link → Outcome (List Link) → Outcome (List Link)
after done o = on_given o (λ ls. given (done ++ ls))

after_none : (o : Outcome (List Link)) → after [] o ≡ o
after_none (given ls) = refl
after_none (refused n) = refl

after_more : (done : List Link) (l : Link) (o : Outcome (List Link)) → after done (on_given o (λ ls. given (l ∷ ls))) ≡ after (done ++ (l ∷ [])) o
after_more done l (given ls) = ap given (sym (append_assoc done (l ∷ []) ls))
after_more done l (refused n) = refl

pub record Gone (T count : ℕ) (records : List ℕ) (links : List Link) (at i : ℕ) : Type 0 where
  pub within : i ≤ count
  pub place : at ≤ length records
  pub done : List Link
  pub many : length done ≡ i
  pub held : links ≡ firsts 32 done no_link
  pub same : read_links T count records ≡ after done (read_links T (count - i) (drop at records))

module _ (T count : ℕ) (records : List ℕ) where
  module _ (links : List Link) (at i : ℕ) (g : Gone T count records links at i) where
    module _ (h : i < count) where
      step : count - i ≡ suc (count - (i + 1))
      step = omega arith

      pub one_refused : (r : Refusal) → refused (refusal_number r) ≡ read_link T (take (length records - at) (drop at records)) → Reads (within T (read_links T count records)) (Err r)
      unfolding read_links
      one_refused r e =
          let z : read_links T count records ≡ refused (refusal_number r) = g.same ∙ rw (step, ← part_rest at records, ← e) in
          rw z

      module _ (l : Link) (u : ℕ) (e : given (record { link = l; used = u }) ≡ read_link T (take (length records - at) (drop at records))) (b : (j : ℕ) → get_or records j 0 < 256) where
        here : read_link T (drop at records) ≡ given (record { link = l; used = u })
        here = sym (rw part_rest at e)

        pub used_room : at + u ≤ length records
        used_room = omega (arith, g.place, link_room T (drop at records) (record { link = l; used = u }) (bytes_drop at records b) here, length-drop at records)

        pub one_gone : count ≤ 32 → Gone T count records (set links i l) (at + u) (i + 1)
        unfolding read_links
        one_gone k = record {
          within = omega arith;
          place = used_room;
          done = g.done ++ (l ∷ []);
          many = length-append g.done (l ∷ []) ∙ ap (λ (m : ℕ). m + 1) g.many;
          held = rw g.held (firsts_more 32 i g.done l no_link g.many (omega arith));
          same = g.same ∙ rw (step, here, drop-drop) (after_more g.done l (read_links T (count - (i + 1)) (drop (at + u) records)));
        }

    module _ (h : count ≤ i) where
      last : read_links T count records ≡ after g.done (refused_or (refuse_if (not (eqb (length (drop at records)) 0)) 10) (given []))
      unfolding read_links
      last = let z : count - i ≡ 0 = omega arith in g.same ∙ rw z

      pub bytes_follow : at < length records → Reads (within T (read_links T count records)) (Err BytesFollow)
      bytes_follow k =
          let z : length (drop at records) ≡ 0 → ⊥ = λ d. omega (arith, length-drop at records) in
          rw (last, ne_eqb (length (drop at records)) 0 z)

      pub all_gone : length records ≤ at → Reads (within T (read_links T count records)) (Ok (record { ticks = T; count = count; links = links }))
      all_gone k =
          let z : length (drop at records) ≡ 0 = omega (arith, length-drop at records) in
          let e : read_links T count records ≡ given g.done = last ∙ rw (eq-eqb (length (drop at records)) 0 z, append-nil g.done) in
          let m : count ≡ length g.done = omega (arith, g.many, g.within) in
          rw (e, m, g.held)

-- ---- the head of a file
pub ticks_small : (s : List ℕ) → ((i : ℕ) → get_or s i 0 < 256) → (T : ℕ) → T ≡ number_in 2 s → T < 65536
ticks_small s b T e = rw e (number_bound 2 s b)

pub file_short : (s : List ℕ) → length s < 3 → Reads (read_network s) (Err ShortFile)
unfolding read_network
file_short s h = rw (lt-ltb (length s) 3 h)

module _ (s : List ℕ) (h : 3 ≤ length s) (n : ℕ) (en : n ≡ get_or s 2 0) (b : Bool) (eb : b ≡ bad_count n) where
  pub count_bad : b ≡ true → Reads (read_network s) (Err LinkCount)
  unfolding read_network
  count_bad g = rw (le-ltb (length s) 3 h, ← en, ← eb, g)

  pub count_good : b ≡ false → n ≤ 32
  count_good g = (count_passed n (sym eb ∙ g)).1

  module _ (g : b ≡ false) (T : ℕ) (et : T ≡ number_in 2 s) (d : Bool) (ed : d ≡ bad_cycle T) where
    pub cycle_bad : d ≡ true → Reads (read_network s) (Err CycleLength)
    unfolding read_network
    cycle_bad f = rw (le-ltb (length s) 3 h, ← en, ← eb, g, ← et, ← ed, f)

    pub head_good : d ≡ false → (x : Result Network Refusal) → Reads (within T (read_links T n (take (length s - 3) (drop 3 s)))) x → Reads (read_network s) x
    unfolding read_network
    head_good f x k = rw (le-ltb (length s) 3 h, ← en, ← eb, g, ← et, ← ed, f) (rw (part_rest 3 s) at k)
