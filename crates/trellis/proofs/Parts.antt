-- A path cut in two: what is found after a border needs only the costs handed over at it.
-- Assumes nothing.
use mathlib.Core.Path.{◌≡◌, refl, sym, ◌∙◌, ap, ap₂}
use mathlib.Core.List.{List, [], ◌∷◌, ◌++◌, reverse, reverse-cons, reverse-append}
use Prim.Native.Nat.{ℕ, zero, suc, ◌+◌, ◌<◌}
use native.Mathlib.Nat.{zero-add}
use native.Mathlib.Omega.{arith}
use lib.ListN.{get_or, length}
use lib.Seq.{ext_get_or}
use Rattle.trellis.specs.Trellis.{Reach, never, Stage, Trellis, entry, ◌▸◌, grow}
use Rattle.trellis.specs.Considered.{considered}
use Rattle.trellis.specs.Answer.{Answer, found, blocked, answer}
use Rattle.trellis.proofs.Survivor.{tab, Best, nobody, best, best_of, node_of, into, row, back, last_offer, final, scanned, answer_of, survivor}
use Rattle.trellis.proofs.Optimal.{length_tab, tab_at}
use Rattle.trellis.proofs.Least.{scanned_right, survivor_least}
use Rattle.trellis.proofs.Ladder.{ladder}

-- the trellis that begins at the border after t, with the costs that t's row hands over
abbrev pub handover : List Reach → Trellis
handover r = entry (length r) (λ i. get_or r i never)

pub row_handover : (r : List Reach) → row (handover r) ≡ r
row_handover r =
    ext_get_or never (tab (length r) (λ i. get_or r i never)) r (length_tab (length r) (λ i. get_or r i never))
    (λ i h. tab_at (length r) (λ i. get_or r i never) never i (omega (arith, length_tab (length r) (λ i. get_or r i never))))

-- the node of the first stage that a path goes back to
abbrev pub oldest : ℕ → List ℕ → ℕ
oldest i [] = i
oldest i (k ∷ p) = oldest k p

module _ (back₁ : ℕ → List ℕ) (m : ℕ) where
  -- u goes on where t ended
  pub record Continues (t u : Trellis) : Type 0 where
    pub rows : row t ≡ row u
    pub paths : (i : ℕ) → back t i ≡ back u i ++ back₁ (oldest i (back u i))
    pub counts : scanned t ≡ m + scanned u

  continue_one : (t u : Trellis) (st : Stage) → Continues t u → Continues (t ▸ st) (u ▸ st)
  continue_one t u st h = record {
    rows = rw h.rows;
    paths = λ i. rw h.rows (ap (λ (x : List ℕ). node_of (into (row u) st i) ∷ x) (h.paths (node_of (into (row u) st i))));
    counts = rw h.rows (omega (arith, h.counts));
  }

  pub continues : (t u : Trellis) (sts : List Stage) → Continues t u → Continues (grow t sts) (grow u sts)
  continues t u [] h = h
  continues t u (st ∷ sts) h = continues (t ▸ st) (u ▸ st) sts (continue_one t u st h)

-- THE PARTS OF A SEARCH MAKE UP THE WHOLE: the later part has the whole's row, hence its answer;
-- its path is gone on with in the earlier part; and the counts add up
pub split : (t : Trellis) (sts : List Stage) → Continues (back t) (scanned t) (grow t sts) (grow (handover (row t)) sts)
split t sts =
    continues (back t) (scanned t) t (handover (row t)) sts
    (record { rows = sym (row_handover (row t)); paths = λ i. refl; counts = omega arith })

-- the node that a path read from the first stage on begins with
abbrev pub first : List ℕ → ℕ
first [] = 0
first (k ∷ w) = k

first_append : (xs ys : List ℕ) (k : ℕ) → first ((xs ++ (k ∷ [])) ++ ys) ≡ first (xs ++ (k ∷ []))
first_append [] ys k = refl
first_append (x ∷ xs) ys k = refl

first_oldest : (i : ℕ) (p : List ℕ) → first (reverse (i ∷ p)) ≡ oldest i p
first_oldest i [] = refl
first_oldest i (k ∷ p) =
    ap first (reverse-cons i (k ∷ p) ∙ ap (λ (l : List ℕ). l ++ (i ∷ [])) (reverse-cons k p))
    ∙ first_append (reverse p) (i ∷ []) k ∙ ap first (sym (reverse-cons k p)) ∙ first_oldest k p

-- the answer after the border, with the path before it to each node of the border and the count so
-- far
abbrev pub joined : (ℕ → List ℕ) → ℕ → Answer ℕ → Answer ℕ
joined earlier m (found c n w) = found c (m + n) (reverse (earlier (first w)) ++ w)
joined earlier m (blocked n) = blocked (m + n)

-- what survivor search answers goes on in the same way
module _ (back₁ : ℕ → List ℕ) (m : ℕ) (t u : Trellis) (c : Continues back₁ m t u) where
  ends_same : final t ≡ final u
  ends_same = ap (λ (r : List Reach). best_of (λ i. last_offer (get_or r i never)) (length r)) c.rows

  path_same : (i : ℕ) → reverse (i ∷ back t i) ≡ reverse (back₁ (first (reverse (i ∷ back u i)))) ++ reverse (i ∷ back u i)
  path_same i =
      ap (λ (l : List ℕ). reverse (i ∷ l)) (c.paths i)
      ∙ reverse-append (i ∷ back u i) (back₁ (oldest i (back u i)))
      ∙ ap (λ (k : ℕ). reverse (back₁ k) ++ reverse (i ∷ back u i)) (sym (first_oldest i (back u i)))

  survivor_joined : survivor t ≡ joined back₁ m (survivor u)
  survivor_joined = same (final u) refl
    where
      same : (b : Best) → final u ≡ b → survivor t ≡ joined back₁ m (answer_of u (scanned u) (final u))
      same nobody e = rw (ends_same, e) (ap blocked c.counts)
      same (best d r i) e = rw (ends_same, e) (ap₂ (found d) c.counts (path_same i))

-- THE ANSWER OVER A PATH CUT IN TWO is the later part's, begun at the costs handed over, and gone
-- on with in the earlier part
pub split_answer : (t : Trellis) (sts : List Stage) → answer (grow t sts) ≡ joined (back t) (considered t) (answer (grow (handover (row t)) sts))
split_answer t sts =
    let u : Trellis = grow (handover (row t)) sts in
    sym (survivor_least (grow t sts)) ∙ survivor_joined (back t) (scanned t) (grow t sts) u (split t sts) ∙ ap₂ (joined (back t)) (scanned_right t) (survivor_least u)

-- ---- two trellises with the same starting costs at their nodes and the same stages
same_tab : (n : ℕ) (s s' : ℕ → Reach) → ((i : ℕ) → i < n → s i ≡ s' i) → tab n s ≡ tab n s'
same_tab zero s s' h = refl
same_tab (suc n) s s' h = ap₂ (λ (l : List Reach) (x : Reach). l ++ (x ∷ [])) (same_tab n s s' (λ i l. h i (omega arith))) (h n (omega arith))

begun_alike : (n : ℕ) (s s' : ℕ → Reach) (f : ℕ → Stage) → ((i : ℕ) → i < n → s i ≡ s' i) → (j : ℕ)
    → Continues (λ i. []) 0 (ladder (entry n s) f j) (ladder (entry n s') f j)
begun_alike n s s' f h zero = record { rows = same_tab n s s' h; paths = λ i. refl; counts = refl }
begun_alike n s s' f h (suc j) = continue_one (λ i. []) 0 (ladder (entry n s) f j) (ladder (entry n s') f j) (f j) (begun_alike n s s' f h j)

nothing_joined : (a : Answer ℕ) → joined (λ i. []) 0 a ≡ a
nothing_joined (found c n w) = ap (λ (m : ℕ). found c m w) (zero-add n)
nothing_joined (blocked n) = ap blocked (zero-add n)

pub same_survivor : (n : ℕ) (s s' : ℕ → Reach) (f : ℕ → Stage) → ((i : ℕ) → i < n → s i ≡ s' i) → (j : ℕ)
    → survivor (ladder (entry n s) f j) ≡ survivor (ladder (entry n s') f j)
same_survivor n s s' f h j =
    survivor_joined (λ i. []) 0 (ladder (entry n s) f j) (ladder (entry n s') f j) (begun_alike n s s' f h j) ∙ nothing_joined (survivor (ladder (entry n s') f j))
