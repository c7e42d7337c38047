-- Writing a file: its links one after the other, and the whole. Assumes nothing.
use mathlib.Core.Path.{◌≡◌, refl, sym, ap, ◌∙◌}
use mathlib.Core.List.{List, [], ◌∷◌, ◌++◌, append_assoc}
use Prim.Native.Nat.{ℕ, ◌+◌, ◌<◌, ◌≤◌}
use native.Mathlib.Omega.{arith}
use lib.ListN.{drop_of_length-le, length, take, get_or, drop, set, length-append}
use Rattle.std.specs.Prelude.{Result, Ok, Err}
use Rattle.places.specs.Put.{put_at}
use Rattle.places.proofs.Pieces.{Pieces}
use Rattle.places.proofs.Puts.{Grown, grow, put_length, put_set, put_zero}
use Rattle.places.proofs.Firsts.{length_firsts, firsts_take}
use Rattle.std.proofs.lemmas.List.{drop_more}
use Rattle.refusals.specs.declared.Refusal.TheVariants.{ShortBuffer}
use Rattle.refusals.specs.declared.Refusal.{Refusal}
use Rattle.refusals.specs.Refusals.{given, refused, pass}
use Rattle.numbers.specs.Numbers.{bytes_of}
use Rattle.numbers.proofs.Laws.{length_bytes}
use Rattle.network.specs.declared.Link.{Link}
use Rattle.network.specs.Checks.{network_check}
use Rattle.network.specs.declared.Network.{Network}
use Rattle.network.specs.Network.{no_link, topology_of}
use Rattle.network.proofs.Checks.{network_good}
use Rattle.network.proofs.Tests.{count_passed}
use Rattle.records.specs.declared.Field.{Field}
use Rattle.records.specs.Writing.{record_of}
use Rattle.network_file.specs.Lent.{length_read, Writes}
use Rattle.network_file.specs.Writing.{link_bytes, links_bytes, image_of, write_network}
use Rattle.network_file.specs.Fields.{link_layout, values_of}
use Rattle.network_file.proofs.Lent.{short_written, long_written}

-- ---- a link's record
pub link_bytes_lem : (l : Link) (fields : List Field) (values : List ℕ) → fields ≡ link_layout → values ≡ values_of l → record_of fields values ≡ link_bytes l
unfolding link_bytes
link_bytes_lem l fields values ef ev = rw (ef, ev)

-- the bytes of link i, and of the links from i on
abbrev pub link_at : List Link → ℕ → List ℕ
link_at links i = link_bytes (get_or links i no_link)

abbrev pub links_from : List Link → ℕ → List ℕ
links_from links i = links_bytes (drop i links)

module _ (links : List Link) where
  more_bytes : (i : ℕ) → i < length links → links_from links i ≡ link_at links i ++ links_from links (i + 1)
  unfolding links_bytes
  more_bytes i h = rw (drop_more links i no_link h)

  end_bytes : (i : ℕ) → length links ≤ i → links_from links i ≡ []
  unfolding links_bytes
  end_bytes i h = rw (drop_of_length-le links {i = i} h)

  pub links_pieces : Pieces (length links) (link_at links) (links_from links)
  links_pieces = record { more = more_bytes; end = end_bytes }

-- ---- a network that passed its checks
pub few : (n : Network) → network_check (topology_of n) ≡ given pass → n.count ≤ 32
unfolding topology_of
few n passed = rw (length_firsts n.count n.links no_link) at (count_passed (length (topology_of n).links) (network_good (topology_of n) passed).count).1

-- its links, as a part of its places, and the length k of their records
module _ (n : Network) (passed : network_check (topology_of n) ≡ given pass) (within : n.count ≤ length n.links) (k : ℕ) (ek : k ≡ length (links_bytes (take n.count n.links))) where
  abbrev records : List ℕ
  records = links_bytes (take n.count n.links)

  abbrev image : List ℕ
  image = image_of (topology_of n)

  abbrev head : List ℕ
  head = bytes_of 2 n.ticks

  image_is : image ≡ (head ++ (n.count ∷ [])) ++ records
  unfolding image_of topology_of
  image_is = rw (length_firsts n.count n.links no_link, firsts_take n.count n.links no_link within) (sym (append_assoc head (n.count ∷ []) records))

  image_long : length image ≡ 3 + length records
  image_long = ap length image_is ∙ rw (length-append, length-append, length_bytes)

  size : 3 + k ≡ length image
  size = ap (λ (m : ℕ). 3 + m) ek ∙ sym image_long

  pub short : (buffer : List ℕ) → length buffer < 3 + k → Writes (write_network (topology_of n) (length buffer)) buffer buffer (Err ShortBuffer)
  unfolding write_network
  short buffer l = rw passed (short_written (length image) image buffer (omega (arith, size)) ShortBuffer refl)

  -- the head, the number of links, the records
  module _ (buffer : List ℕ) (room : 3 + k ≤ length buffer) (b1 : List ℕ) (e1 : b1 ≡ head ++ drop 2 buffer) where
    one : Grown 0 buffer head b1 2
    one =
        let n2 : length head ≡ 2 = length_bytes 2 n.ticks in
        let e : b1 ≡ put_at 0 head buffer = e1 ∙ rw put_zero (rw n2) in
        record { next = omega arith; room = omega arith; long = ap length e ∙ put_length 0 head buffer (omega arith); holds = e }

    pub two_room : 2 < length b1
    two_room = omega (arith, one.long)

    two : Grown 0 buffer (head ++ (n.count ∷ [])) (set b1 2 n.count) 3
    two = grow 0 buffer head b1 2 one (n.count ∷ []) (set b1 2 n.count) 3 (omega arith) (put_set 2 n.count b1 two_room) refl

    pub three_room : 3 + length records ≤ length (set b1 2 n.count)
    three_room = omega (arith, two.long)

    pub image_written : (b3 : List ℕ) → b3 ≡ put_at 3 records (set b1 2 n.count) → Writes (write_network (topology_of n) (length buffer)) buffer b3 (Ok (3 + k))
    unfolding write_network
    image_written b3 e3 =
        let three : Grown 0 buffer ((head ++ (n.count ∷ [])) ++ records) b3 (length image) = grow 0 buffer (head ++ (n.count ∷ [])) (set b1 2 n.count) 3 two records b3 (length image) (omega (arith, ek)) e3 image_long in
        let put : b3 ≡ image ++ drop (length image) buffer = three.holds ∙ ap (λ (x : List ℕ). put_at 0 x buffer) (sym image_is) ∙ put_zero image buffer in
        rw passed (long_written (length image) image buffer (omega (arith, size)) b3 (3 + k) size put)

-- ---- one that did not
pub check_refused : (n : Network) (m : ℕ) → refused m ≡ network_check (topology_of n) → (buffer : List ℕ) (q : Result ℕ Refusal) → length_read q ≡ refused m → Writes (write_network (topology_of n) (length buffer)) buffer buffer q
unfolding write_network
check_refused n m e buffer q a = rw (← e) record { answer = a; buffer = refl }
