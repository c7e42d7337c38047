-- The longest file of a network. Assumes nothing.
use mathlib.Core.Path.{◌≡◌, refl}
use Rattle.std.specs.List.{sum_by}
use Rattle.std.proofs.lemmas.List.Sums.{sum_by-cons}
use mathlib.Core.List.{List, [], ◌∷◌}
use Prim.Native.Nat.{◌*◌, ◌≤◌}
use native.Mathlib.Omega.{arith}
use lib.ListN.{length, length-append}
use Rattle.numbers.specs.Numbers.{bytes_of}
use Rattle.numbers.proofs.Laws.{length_bytes}
use Rattle.network.specs.declared.Link.{Link}
use Rattle.network.proofs.Checks.{network_good}
use Rattle.network.proofs.Tests.{count_passed}
use Rattle.records.specs.Writing.{record_of}
use Rattle.records.proofs.Sizes.{body_bound}
use Rattle.network_file.specs.Fields.{link_layout, values_of}
use Rattle.network_file.specs.Writing.{link_bytes, links_bytes, image_of, ImageBound}

-- a map byte, and the bytes of all fields
link_bound : (l : Link) → length (link_bytes l) ≤ 12
unfolding link_bytes record_of link_layout
link_bound l = omega (arith, body_bound link_layout (values_of l))

pub links_bound : (ls : List Link) → length (links_bytes ls) ≤ 12 * length ls
unfolding links_bytes
links_bound [] = omega arith
links_bound (l ∷ ls) = omega (arith, length-append (link_bytes l) (links_bytes ls), link_bound l, links_bound ls)

-- the lengths of the records, summed
pub links_sum : (ls : List Link) → sum_by (λ l. length (link_bytes l)) ls ≡ length (links_bytes ls)
unfolding links_bytes
links_sum [] = refl
links_sum (l ∷ ls) = omega (arith, sum_by-cons (λ l. length (link_bytes l)) l ls, length-append (link_bytes l) (links_bytes ls), links_sum ls)

-- A BUFFER OF 387 BYTES SERVES FOR EVERY NETWORK
pub image_bound : ImageBound
unfolding image_of
image_bound t e =
    let c = count_passed (length t.links) (network_good t e).count in
    omega (arith, length-append (bytes_of 2 t.ticks) (length t.links ∷ links_bytes t.links), length_bytes 2 t.ticks, links_bound t.links, c.1)
