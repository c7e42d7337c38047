-- What a network file says: a network, or the refusal, 1, 2, 3, then for each record 4 to 8, 21 and 9, then 10. Assumes nothing.
use Rattle.std.specs.Prelude.{◌≡◌, Result, not, List, [], ◌∷◌, ℕ, zero, suc, ◌<◌, ◌≤◌, length, get_or, drop, take, eqb, ltb}
use Rattle.places.specs.Places.{firsts}
use Rattle.refusals.specs.declared.Refusal.{Refusal}
use Rattle.refusals.specs.Refusals.{Outcome, given, refuse_if, refused_or, on_given, answered}
use Rattle.numbers.specs.Numbers.{number_in}
use Rattle.network.specs.Checks.{bad_count, bad_cycle, link_check}
use Rattle.network.specs.declared.Link.{Link}
use Rattle.network.specs.declared.Network.{Network}
use Rattle.network.specs.Network.{Topology, no_link}
use Rattle.records.specs.Reading.{stray_bits, read_record}
use Rattle.network_file.specs.Fields.{link_layout, link_of}

-- a link, and the length of its record
pub record Linked : Type 0 where
  pub link : Link
  pub used : ℕ

-- "Each link record is read from the part of the file that starts at it": 4, 5, 6, then 7, 8, 21, 9
unfoldable pub read_link : ℕ → List ℕ → Outcome Linked
read_link T s = on_given (read_record link_layout s) (λ x. refused_or (link_check T (link_of x.values)) (given (record { link = link_of x.values; used = x.used })))

-- 5: "A map byte has a bit above bit" 3 ("the stray-bit rule those above 3", W-206): no bit is stray exactly where the map byte is below 16
abbrev pub StrayAbove : Type 0
StrayAbove = (map : ℕ) → map < 256 → stray_bits link_layout map ≡ 0 → map < 16

abbrev pub AboveStray : Type 0
AboveStray = (map : ℕ) → map < 16 → stray_bits link_layout map ≡ 0

-- "then a record per link", all checks of one before the next; then 10: "Bytes follow the last record"
unfoldable pub read_links : ℕ → ℕ → List ℕ → Outcome (List Link)
read_links T zero s = refused_or (refuse_if (not (eqb (length s) 0)) 10) (given [])
read_links T (suc n) s = on_given (read_link T s) (λ x. on_given (read_links T n (drop x.used s)) (λ ls. given (x.link ∷ ls)))

-- the network of some links
abbrev pub within : ℕ → Outcome (List Link) → Outcome Topology
within T o = on_given o (λ ls. given (record { ticks = T; links = ls }))

-- WHAT A FILE SAYS: "T in two bytes, low first; the number of links, one byte; then a record per link"
unfoldable pub read_network : List ℕ → Outcome Topology
read_network s =
    let T = number_in 2 s in
    let count = get_or s 2 0 in
    refused_or (refuse_if (ltb (length s) 3) 1)
    (refused_or (refuse_if (bad_count count) 2)
    (refused_or (refuse_if (bad_cycle T) 3)
    (within T (read_links T count (drop 3 s)))))

-- THE FIRST 388 BYTES OF A FILE TELL WHAT THE WHOLE SAYS
abbrev pub FirstBytes : Type 0
FirstBytes = (s : List ℕ) (m : ℕ) → 388 ≤ m → read_network (take m s) ≡ read_network s

-- ---- what the program's answers say in these words
-- the answer of a link record's reader
abbrev pub link_read : Result (Link × ℕ) Refusal → Outcome Linked
link_read r = answered (λ x. record { link = x.0; used = x.1 }) r

-- the values in which a network is stored; a place that no link stands in has 0 in each field
abbrev pub stored : ℕ → List Link → Network
stored T ls = record { ticks = T; count = length ls; links = firsts 32 ls no_link }

-- those of what a file says
abbrev pub stored_in : Outcome Topology → Outcome Network
stored_in o = on_given o (λ t. given (stored t.ticks t.links))

-- the answer of the file's reader
abbrev pub Reads : Outcome Topology → Result Network Refusal → Type 0
Reads o r = answered (λ n. n) r ≡ stored_in o
