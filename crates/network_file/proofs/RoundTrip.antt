-- Each network has exactly one file, and the calls that read and write it agree. Assumes nothing.
use mathlib.Core.Path.{◌≡◌, refl, sym, ap, subst, ◌∙◌}
use mathlib.Core.Bool.{Bool, true, false}
use mathlib.Core.List.{List, [], ◌∷◌, ◌++◌}
use Prim.Native.Nat.{ℕ, ◌≤◌}
use native.Mathlib.Omega.{arith}
use borrow.Author.Tests.{le-ltb, ltb-false}
use lib.Seq.{take_at}
use lib.Dec.{ltb}
use lib.ListN.{length, drop, take}
use Rattle.std.specs.Prelude.{Result, Ok, Err}
use Rattle.places.proofs.Firsts.{firsts_back}
use Rattle.refusals.specs.declared.Refusal.{Refusal}
use Rattle.refusals.specs.Refusals.{Outcome, given, refused, pass, Ruling, refuse_if, refused_or, refusal_number, given_or, answered}
use Rattle.refusals.proofs.Refusals.{not_given}
use Rattle.numbers.specs.Numbers.{bytes_of, IsBytes}
use Rattle.numbers.proofs.Trip.{bytes_cons, bytes_none, bytes_append, bytes_of_lem}
use Rattle.network.specs.declared.Link.{Link}
use Rattle.network.specs.Checks.{network_check}
use Rattle.network.specs.declared.Network.{Network}
use Rattle.network.specs.Network.{Topology, no_link, topology_of}
use Rattle.network.proofs.Checks.{network_good}
use Rattle.network.proofs.Tests.{count_passed}
use Rattle.records.proofs.OneRecord.{record_bytes}
use Rattle.network_file.specs.OneFile.{EachNetworkHasOneFile, ReadPasses, ReadStands, WrittenReads, ReadWrites}
use Rattle.network_file.specs.Lent.{length_of, length_read, buffer_after, Writes}
use Rattle.network_file.specs.Writing.{link_bytes, links_bytes, image_of, write_network}
use Rattle.network_file.specs.Fields.{link_layout, values_of}
use Rattle.network_file.specs.Reading.{read_network, stored, stored_in, Reads}
use Rattle.network_file.proofs.Records.{link_layout_lem}
use Rattle.network_file.proofs.Inverse.{image_reads, Is, file_only}

links_bytes_lem : (ls : List Link) → IsBytes (links_bytes ls)
unfolding links_bytes link_bytes
links_bytes_lem [] = bytes_none
links_bytes_lem (l ∷ ls) = bytes_append (link_bytes l) (links_bytes ls) (record_bytes link_layout (values_of l) link_layout_lem) (links_bytes_lem ls)

image_bytes : (t : Topology) → network_check t ≡ given pass → IsBytes (image_of t)
unfolding image_of
image_bytes t e =
    let c = count_passed (length t.links) (network_good t e).count in
    bytes_append (bytes_of 2 t.ticks) (length t.links ∷ links_bytes t.links) (bytes_of_lem 2 t.ticks) (bytes_cons (length t.links) (links_bytes t.links) (omega (arith, c.1)) (links_bytes_lem t.links))

-- EACH NETWORK THAT PASSES ITS CHECKS HAS EXACTLY ONE FILE
pub one_file : EachNetworkHasOneFile
one_file t e = record { bytes = image_bytes t e; reads = image_reads t e; only = λ s b r. sym (file_only s t b r).image }

-- AND EVERY FILE THAT READS AS A NETWORK READS AS ONE THAT PASSES ITS CHECKS
pub read_passes : ReadPasses
read_passes s t b e = (file_only s t b e).passed

-- what a file says, by the answer of its reader
pub refused_says : (s : List ℕ) (l : Result Network Refusal) → Reads (read_network s) l → (r : Refusal) → l ≡ Err r → read_network s ≡ refused (refusal_number r)
refused_says s l d r e = go (read_network s) (sym (ap (answered (λ n. n)) e) ∙ d)
  where
    go : (o : Outcome Topology) → refused (refusal_number r) ≡ stored_in o → o ≡ refused (refusal_number r)
    go (given t) q = absurd (not_given (refusal_number r) (stored t.ticks t.links) q)
    go (refused m) q = let e : m ≡ refusal_number r = cc in ap refused e

-- the network that a file says, and in which values it is stored
pub record Says (s : List ℕ) (n : Network) : Type 0 where
  pub network : Topology
  pub is : read_network s ≡ given network
  pub held : n ≡ stored network.ticks network.links

pub passed_says : (s : List ℕ) (l : Result Network Refusal) → Reads (read_network s) l → (n : Network) → l ≡ Ok n → Says s n
passed_says s l d n e = go (read_network s) refl (sym (ap (answered (λ n. n)) e) ∙ d)
  where
    go : (o : Outcome Topology) → read_network s ≡ o → given n ≡ stored_in o → Says s n
    go (given t) p q = record { network = t; is = p; held = cc }
    go (refused m) p q = absurd (not_given m n (sym q))

-- what is stored of a network that passed stands for it
stored_back : (t : Topology) → network_check t ≡ given pass → topology_of (stored t.ticks t.links) ≡ t
unfolding topology_of
stored_back t e =
    let c = count_passed (length t.links) (network_good t e).count in
    rw (firsts_back 32 t.links no_link c.1)

-- WHAT `read_network` READ STANDS FOR THE NETWORK THAT THE FILE SAYS
stands : (t : Topology) (r : Result Network Refusal) → network_check t ≡ given pass → Reads (given t) r → answered topology_of r ≡ given t
stands t (Ok n) e d =
    let h : n ≡ stored t.ticks t.links = cc in
    rw h (ap given (stored_back t e))
stands t (Err x) e d = absurd (not_given (refusal_number x) (stored t.ticks t.links) d)

pub read_stands : ReadStands
read_stands s t r b e d = stands t r (read_passes s t b e) (rw e at d)

-- and it passed its checks, so that a state may be begun on it
pub loaded_passes : (s : List ℕ) (l : Result Network Refusal) → IsBytes s → Reads (read_network s) l → (n : Network) → l ≡ Ok n → network_check (topology_of n) ≡ given pass
loaded_passes s l b d n e =
    let x : Says s n = passed_says s l d n e in
    let p : network_check x.network ≡ given pass = read_passes s x.network b x.is in
    ap network_check (ap topology_of x.held ∙ stored_back x.network p) ∙ p

-- a write that was not refused
record Done (t : Topology) (room size : ℕ) : Type 0 where
  pub passed : network_check t ≡ given pass
  pub enough : length (image_of t) ≤ room
  pub is : size ≡ length (image_of t)

done : (t : Topology) (room size : ℕ) → given size ≡ length_of (write_network t room) → Done t room size
unfolding write_network
done t room size e = go (network_check t) refl (ltb room (length (image_of t))) refl (sym e)
  where
    go : (r : Ruling) → network_check t ≡ r → (b : Bool) → ltb room (length (image_of t)) ≡ b → length_of (refused_or r (refused_or (refuse_if b 20) (given (image_of t)))) ≡ given size → Done t room size
    go (refused n) q b p f = absurd (not_given n size f)
    go (given pass) q true p f = absurd (not_given 20 size f)
    go (given pass) q false p f = record { passed = q; enough = ltb-false room (length (image_of t)) p; is = sym (ap (given_or 0) f) }

passes : (t : Topology) (room : ℕ) → network_check t ≡ given pass → length (image_of t) ≤ room → write_network t room ≡ given (image_of t)
unfolding write_network
passes t room e h = rw (e, le-ltb room (length (image_of t)) h)

-- WRITTEN, THEN READ: whatever `write_network` wrote, `read_network` reads as that network
pub written_reads : WrittenReads
written_reads n before after size r w d =
    let t : Topology = topology_of n in
    let k : Done t (length before) size = done t (length before) size w.answer in
    let rest : List ℕ = drop (length (image_of t)) before in
    let a : after ≡ image_of t ++ rest = w.buffer ∙ ap (λ (o : Outcome (List ℕ)). buffer_after o before) (passes t (length before) k.passed k.enough) in
    let i : take size after ≡ image_of t = ap (take size) a ∙ take_at (image_of t) rest size (sym k.is) in
    let e : read_network (take size after) ≡ given t = ap read_network i ∙ image_reads t k.passed in
    stands t r k.passed (rw e at d)

length_is : (w : Result ℕ Refusal) (n : ℕ) → length_read w ≡ given n → w ≡ Ok n
length_is (Ok m) n e = ap Ok (ap (given_or 0) e)
length_is (Err r) n e = absurd (not_given (refusal_number r) n e)

-- READ, THEN WRITTEN: whatever `read_network` reads as a network, `write_network` writes as that file
pub read_writes : ReadWrites
read_writes file n before after w b d room x =
    let says : Says file n = passed_says file (Ok n) d n refl in
    let t : Topology = says.network in
    let q : Is file t = file_only file t b says.is in
    let same : topology_of n ≡ t = ap topology_of says.held ∙ stored_back t q.passed in
    let y : Writes (write_network t (length before)) before after w = subst (λ (z : Topology). Writes (write_network z (length before)) before after w) same x in
    let fits : length (image_of t) ≤ length before = omega (arith, ap length q.image) in
    let g : write_network t (length before) ≡ given (image_of t) = passes t (length before) q.passed fits in
    let a : after ≡ image_of t ++ drop (length (image_of t)) before = y.buffer ∙ ap (λ (z : Outcome (List ℕ)). buffer_after z before) g in
    (length_is w (length file) (y.answer ∙ ap length_of g ∙ ap given (ap length q.image)), a ∙ ap (λ (z : List ℕ). z ++ drop (length z) before) q.image)
