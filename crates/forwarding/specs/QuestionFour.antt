-- Document 01, "Question four": the starred cases, for a cycle of 48 ticks, with the answers of
-- W-201, the cycles of W-202 and the case of W-206. Assumes nothing.
use Rattle.std.specs.Prelude.{◌≡◌, Bool, true, false, ◌||◌, ℕ, eqb}
use mathlib.Core.List.{List, [], ◌∷◌, map, Memᴰ}
use Rattle.trellis.specs.Answer.{Answer, found, blocked, nodes_of}
use Rattle.words.specs.Word.{word_of}
use Rattle.forwarding.specs.declared.Hop.{Hop}
use Rattle.forwarding.specs.Forwarding.{Spot}
use Rattle.forwarding.specs.Schedule.{frames_of}
use Rattle.forwarding.specs.Route.{route_answer}
use Rattle.forwarding.specs.Cycles.{schedule_cycles}

-- a route, its answer (delay, count and frames, or blocked, 18, and count), the frames' cycles
pub record Case : Type 0 where
  pub route : List Hop
  pub expected : Answer Spot
  pub cycles : List ℕ

abbrev case : List Hop → Answer Spot → List ℕ → Case
case hops a cs = record { route = hops; expected = a; cycles = cs }

-- "Braces name the only free frames", one or two of them; or all frames are free, or none
abbrev only : ℕ → ℕ → Bool
only j i = eqb i j

abbrev only_two : ℕ → ℕ → ℕ → Bool
only_two j k i = eqb i j || eqb i k

abbrev all_free : ℕ → Bool
all_free i = true

abbrev none_free : ℕ → Bool
none_free i = false

abbrev link : ℕ → ℕ → ℕ → (ℕ → Bool) → Hop
link K Z Y free = record { frames = K; range = Z; least = Y; colours = 1; turn = 0; free = word_of K free ∷ 0 ∷ 0 ∷ 0 ∷ [] }

-- "links A, B, E have K 8, Z 2; C 16, 4; D 4, 2", with the absent values: Y 1, one colour, R 0
abbrev A : (ℕ → Bool) → Hop
A = link 8 2 1

abbrev B : (ℕ → Bool) → Hop
B = A

abbrev E : (ℕ → Bool) → Hop
E = A

abbrev C : (ℕ → Bool) → Hop
C = link 16 4 1

abbrev D : (ℕ → Bool) → Hop
D = link 4 2 1

-- "with Z 8 on B"
abbrev B8 : (ℕ → Bool) → Hop
B8 = link 8 8 1

-- "With Y = 0 and Z = 2 on link B" (W-206)
abbrev B0 : (ℕ → Bool) → Hop
B0 = link 8 2 0

-- frames in colour 0, the only one: "the first line of the example ends 7 0 / 0 1 / 0 0" (W-211)
abbrev in_0 : List ℕ → List Spot
in_0 fs = map (λ (i : ℕ). record { frame = i; colour = 0 }) fs

-- what the document does not give: computed by its rules
abbrev computed {ℓ} : {X : Type ℓ} → X → X
computed x = x

-- row by row as in the document, and the case of W-206 after A B: "the route A B all free gives 0
-- 0, delay 0, count 24"; W-201: "A{3} C{7} is now refused as blocked, A{3} C{10} has delay 9 and
-- A{3} C{11} has delay 12"; W-202: A B, which is the first line of the example, "ends 7 0 / 0 1"
unfoldable pub starred : List Case
starred =
    case (A all_free ∷ []) (found 0 0 (in_0 (0 ∷ []))) (computed (0 ∷ []))
    ∷ case (A none_free ∷ []) (blocked 0) []
    ∷ case (A all_free ∷ B all_free ∷ []) (found 6 16 (in_0 (7 ∷ 0 ∷ []))) (0 ∷ 1 ∷ [])
    ∷ case (A all_free ∷ B0 all_free ∷ []) (found 0 24 (in_0 (0 ∷ 0 ∷ []))) (computed (0 ∷ 0 ∷ []))
    ∷ case (A (only 3) ∷ B (only 5) ∷ []) (found 12 1 (in_0 (3 ∷ 5 ∷ []))) (computed (0 ∷ 0 ∷ []))
    ∷ case (A (only 3) ∷ B (only 6) ∷ []) (blocked (computed 0)) []
    ∷ case (A (only 3) ∷ B (only 3) ∷ []) (blocked (computed 0)) []
    ∷ case (A (only 3) ∷ B8 (only 3) ∷ []) (found 48 (computed 1) (in_0 (computed (3 ∷ 3 ∷ [])))) (computed (0 ∷ 1 ∷ []))
    ∷ case (A (only_two 1 2) ∷ B (only 3) ∷ []) (found 6 2 (in_0 (2 ∷ 3 ∷ []))) (computed (0 ∷ 0 ∷ []))
    ∷ case (A (only 0) ∷ B (only_two 1 2) ∷ E (only 4) ∷ []) (found 24 3 (in_0 (0 ∷ 2 ∷ 4 ∷ []))) (computed (0 ∷ 0 ∷ 0 ∷ []))
    ∷ case (A (only 0) ∷ B (only_two 1 2) ∷ E (only 3) ∷ []) (found 18 4 (in_0 (0 ∷ 2 ∷ 3 ∷ []))) (computed (0 ∷ 0 ∷ 0 ∷ []))
    ∷ case (A (only 3) ∷ C (only 7) ∷ []) (blocked (computed 0)) []
    ∷ case (A (only 3) ∷ C (only 10) ∷ []) (found 9 (computed 1) (in_0 (computed (3 ∷ 10 ∷ [])))) (computed (0 ∷ 0 ∷ []))
    ∷ case (A (only 3) ∷ C (only 11) ∷ []) (found 12 (computed 1) (in_0 (computed (3 ∷ 11 ∷ [])))) (computed (0 ∷ 0 ∷ []))
    ∷ case (A (only 3) ∷ C (only 6) ∷ []) (blocked (computed 0)) []
    ∷ case (A (only_two 4 5) ∷ D (only 3) ∷ []) (found 12 2 (in_0 (4 ∷ 3 ∷ []))) (computed (0 ∷ 0 ∷ []))
    ∷ []

-- THE STARRED CASES: each answer of the table is the rule's, and so are the cycles of its frames
abbrev pub StarredRight : Type 0
StarredRight = (c : Case) → Memᴰ c starred → (route_answer 48 c.route ≡ c.expected) × (schedule_cycles c.route (frames_of (nodes_of c.expected)) ≡ c.cycles)
