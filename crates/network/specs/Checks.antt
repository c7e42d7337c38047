-- The checks that a network given as values meets: 2, 3, 7, 8 and 9 of the refusal list, and 21 of W-206, after 8. Assumes nothing.
use Rattle.std.specs.Prelude.{◌≡◌, Bool, false, not, ◌&&◌, ◌||◌, List, [], ◌∷◌, ℕ, ◌/◌, ◌%◌, ◌^◌, ◌<◌, ◌≤◌, length, eqb, ltb}
use Rattle.refusals.specs.Refusals.{Ruling, given, pass, refuse_if, refused_or}
use Rattle.words.specs.Word.{bit_of}
use Rattle.network.specs.Network.{Topology}
use Rattle.network.specs.declared.Link.{Link}

-- 2: "The number of links is 0 or above 32"
unfoldable pub bad_count : ℕ → Bool
bad_count count = eqb count 0 || ltb 32 count

-- 3: "T is 0 or above 960"
unfoldable pub bad_cycle : ℕ → Bool
bad_cycle T = eqb T 0 || ltb 960 T

-- 7: "K is 0, above 64 or no divisor of T"
unfoldable pub bad_frames : ℕ → ℕ → Bool
bad_frames T K = eqb K 0 || ltb 64 K || not (eqb (T % K) 0)

-- 8: "Z is 0 or above K"
unfoldable pub bad_range : ℕ → ℕ → Bool
bad_range K Z = eqb Z 0 || ltb K Z

-- 21: "Y is above Z, or Y is 0 and Z equals K" (W-206)
unfoldable pub bad_least : ℕ → ℕ → ℕ → Bool
bad_least K Z Y = ltb Z Y || (eqb Y 0 && eqb Z K)

-- 9: "A closed bit stands at K or above": what the word has from bit K on isn't 0
unfoldable pub bad_closed : ℕ → ℕ → Bool
bad_closed K closed = not (eqb (closed / 2 ^ K) 0)

-- the checks of a link, 21 "checked after 8"; one that is added later stands here
unfoldable pub link_check : ℕ → Link → Ruling
link_check T l =
    refused_or (refuse_if (bad_frames T l.frames) 7)
    (refused_or (refuse_if (bad_range l.frames l.range) 8)
    (refused_or (refuse_if (bad_least l.frames l.range l.least) 21)
    (refuse_if (bad_closed l.frames l.closed) 9)))

-- "records and links in turn": all checks of one before the next
unfoldable pub links_check : ℕ → List Link → Ruling
links_check T [] = given pass
links_check T (l ∷ ls) = refused_or (link_check T l) (links_check T ls)

-- "A network given as values, also to the writer, meets 2, 3, 7, 8 and 9. A link check added later is made there too"
unfoldable pub network_check : Topology → Ruling
network_check t =
    refused_or (refuse_if (bad_count (length t.links)) 2)
    (refused_or (refuse_if (bad_cycle t.ticks) 3)
    (links_check t.ticks t.links))

-- ---- what a check that passed shows, in the words of "Network"
-- "1 to 32 links"
abbrev pub CountPassed : Type 0
CountPassed = (n : ℕ) → bad_count n ≡ false → (0 < n) × (n ≤ 32)

-- "T from 1 to 960"
abbrev pub CyclePassed : Type 0
CyclePassed = (T : ℕ) → bad_cycle T ≡ false → (0 < T) × (T ≤ 960)

-- "K from 1 to 64 and dividing T"
abbrev pub FramesPassed : Type 0
FramesPassed = (T K : ℕ) → bad_frames T K ≡ false → (0 < K) × (K ≤ 64) × (T % K ≡ 0)

-- "a forwarding range Z from 1 to K"
abbrev pub RangePassed : Type 0
RangePassed = (K Z : ℕ) → bad_range K Z ≡ false → (0 < Z) × (Z ≤ K)

-- of a least hold Y: it is not "above Z", nor is it "0 and Z equals K"
abbrev pub LeastPassed : Type 0
LeastPassed = (K Z Y : ℕ) → bad_least K Z Y ≡ false → (Y ≤ Z) × (Y ≡ 0 → Z ≡ K → ⊥)

-- "a set of closed frames ... none at K or above": no bit stands there where 9 passes, and 9 passes where none stands there
abbrev pub PassedNoneClosed : Type 0
PassedNoneClosed = (K closed : ℕ) → bad_closed K closed ≡ false → (i : ℕ) → K ≤ i → bit_of closed i ≡ false

abbrev pub NoneClosedPassed : Type 0
NoneClosedPassed = (K closed : ℕ) → closed < 2 ^ 64 → K ≤ 64 → ((i : ℕ) → K ≤ i → bit_of closed i ≡ false) → bad_closed K closed ≡ false
