-- A path is a path so far, gone on with; and what the answer is in the words of `ArePaths`.
-- Assumes nothing.
use mathlib.Core.Path.{◌≡◌, refl, sym, ◌∙◌, ap, ap₂, subst}
use mathlib.Core.Bool.{true}
use mathlib.Core.List.{List, [], ◌∷◌, ◌++◌, append_assoc, reverse, reverse_aux, reverse-reverse}
use Prim.Native.Nat.{ℕ, ◌+◌, ◌<◌}
use native.Mathlib.Omega.{arith}
use Rattle.lists.specs.Order.{Precedes}
use Rattle.trellis.specs.Trellis.{Reach, after, Stage, Trellis, entry, ◌▸◌, grow, Leads, cost_to, behind, IsPath, path_cost, path_key, Least}
use Rattle.trellis.specs.Considered.{considered}
use Rattle.trellis.specs.Answer.{Answer, found, blocked, renamed, answer, IsAnswer}
use Rattle.trellis.specs.Forwards.{ArePaths}
use Rattle.trellis.proofs.Only.{answer_only}
use Rattle.trellis.proofs.Least.{answer_right}

-- the nodes `is` go on from the node k through the stages; their cost; and their ranks and nodes
-- back to k, the last node first
abbrev pub Onward : ℕ → List Stage → List ℕ → Type 0
Onward k [] [] = Unit {0}
Onward k [] (i ∷ is) = ⊥
Onward k (st ∷ sts) [] = ⊥
Onward k (st ∷ sts) (i ∷ is) = (i < st.size) × (st.allowed k i ≡ true) × Onward i sts is

abbrev pub onward_cost : ℕ → List Stage → List ℕ → ℕ
onward_cost k [] is = 0
onward_cost k (st ∷ sts) [] = 0
onward_cost k (st ∷ sts) (i ∷ is) = st.cost k i + onward_cost i sts is

abbrev pub onward_back : ℕ → List Stage → List ℕ → List ℕ
onward_back k [] is = k ∷ []
onward_back k (st ∷ sts) [] = k ∷ []
onward_back k (st ∷ sts) (i ∷ is) = onward_back i sts is ++ (st.rank k i ∷ k ∷ [])

-- a path is a path so far, gone on with
pub go_on : (t : Trellis) (sts : List Stage) (k : ℕ) (p is : List ℕ) → Leads t k p → Onward k sts is → IsPath (grow t sts) (reverse_aux is (k ∷ p))
go_on t [] k p [] h o = h
go_on t [] k p (i ∷ is) h o = absurd o
go_on t (st ∷ sts) k p [] h o = absurd o
go_on t (st ∷ sts) k p (i ∷ is) h o = go_on (t ▸ st) sts i (k ∷ p) is (o.0, o.1, h) o.2

pub record Cut (t : Trellis) (sts : List Stage) (q : List ℕ) : Type 0 where
  pub node : ℕ
  pub before : List ℕ
  pub rest : List ℕ
  pub joined : q ≡ reverse_aux rest (node ∷ before)
  pub leads : Leads t node before
  pub goes_on_lem : Onward node sts rest

cut_back : (t : Trellis) (st : Stage) (sts : List Stage) (q : List ℕ) (i : ℕ) (p is : List ℕ)
    → q ≡ reverse_aux is (i ∷ p) → Leads (t ▸ st) i p → Onward i sts is → Cut t (st ∷ sts) q
cut_back t st sts q i [] is e l o = absurd l
cut_back t st sts q i (k ∷ p) is e l o =
    record { node = k; before = p; rest = i ∷ is; joined = e; leads = l.2; goes_on_lem = (l.0, l.1, o) }

pub cut : (t : Trellis) (sts : List Stage) (q : List ℕ) → IsPath (grow t sts) q → Cut t sts q
cut t [] [] h = absurd h
cut t [] (k ∷ p) h = record { node = k; before = p; rest = []; joined = refl; leads = h; goes_on_lem = tt }
cut t (st ∷ sts) q h =
    let c : Cut (t ▸ st) sts q = cut (t ▸ st) sts q h in
    cut_back t st sts q c.node c.before c.rest c.joined c.leads c.goes_on_lem

pub go_on_cost : (t : Trellis) (sts : List Stage) (k : ℕ) (p is : List ℕ) → Onward k sts is
    → path_cost (grow t sts) (reverse_aux is (k ∷ p)) ≡ cost_to t k p + onward_cost k sts is
go_on_cost t [] k p [] o = omega arith
go_on_cost t [] k p (i ∷ is) o = absurd o
go_on_cost t (st ∷ sts) k p [] o = absurd o
go_on_cost t (st ∷ sts) k p (i ∷ is) o = go_on_cost (t ▸ st) sts i (k ∷ p) is o.2 ∙ omega arith

pub go_on_key : (t : Trellis) (sts : List Stage) (k : ℕ) (p is : List ℕ) → Onward k sts is
    → path_key (grow t sts) (reverse_aux is (k ∷ p)) ≡ (cost_to t k p + onward_cost k sts is) ∷ (onward_back k sts is ++ behind t k p)
go_on_key t [] k p [] o = ap (λ (x : ℕ). x ∷ k ∷ behind t k p) (omega arith)
go_on_key t [] k p (i ∷ is) o = absurd o
go_on_key t (st ∷ sts) k p [] o = absurd o
go_on_key t (st ∷ sts) k p (i ∷ is) o =
    go_on_key (t ▸ st) sts i (k ∷ p) is o.2
    ∙ ap₂ (λ (x : ℕ) (l : List ℕ). x ∷ l) (omega arith) (sym (append_assoc (onward_back i sts is) (st.rank k i ∷ k ∷ []) (behind t k p)))

-- a path of stages after a first one, read from the first on: a node that may be begun at, and on
-- through the others
pub record FromStart (n : ℕ) (s : ℕ → Reach) (sts : List Stage) (w : List ℕ) : Type 0 where
  pub node : ℕ
  pub rest : List ℕ
  pub is : w ≡ node ∷ rest
  pub below : node < n
  pub begins : (c : ℕ) × (s node ≡ after c)
  pub goes_on_lem : Onward node sts rest

pub from_start : (n : ℕ) (s : ℕ → Reach) (sts : List Stage) (q : List ℕ) → IsPath (grow (entry n s) sts) q → FromStart n s sts (reverse q)
from_start n s sts q h = let c : Cut (entry n s) sts q = cut (entry n s) sts q h in go c.before c c.joined c.leads
  where
    go : (before : List ℕ) → (c : Cut (entry n s) sts q) → q ≡ reverse_aux c.rest (c.node ∷ before) → Leads (entry n s) c.node before → FromStart n s sts (reverse q)
    go [] c e l = record { node = c.node; rest = c.rest; is = ap reverse e ∙ reverse-reverse (c.node ∷ c.rest); below = l.0; begins = l.1; goes_on_lem = c.goes_on_lem }
    go (j ∷ p) c e l = absurd l

-- ---- what the answer is in other words that are the paths
module _ (A : Type 0) (t : Trellis) (S : List A → Type 0) (nodes : List A → List ℕ) (named : List ℕ → List A) (cost : List A → ℕ) (key : List A → List ℕ) (r : ArePaths A t S nodes named cost key) where
  -- one that S is of, and none comes before it
  abbrev pub First : List A → Type 0
  First w = S w × ((v : List A) → S v → Precedes (key w) (key v))

  abbrev pub Says : Answer A → Type 0
  Says (found c m w) = First w × (cost w ≡ c) × (m ≡ considered t)
  Says (blocked m) = ((w : List A) → S w → ⊥) × (m ≡ considered t)

  is_one : (w : List ℕ) → IsPath t (reverse w) → S (named w) × (nodes (named w) ≡ w)
  is_one w h = subst (λ (x : List ℕ). S (named x) × (nodes (named x) ≡ x)) (reverse-reverse w) (r.read (reverse w) h, r.there (reverse w) h)

  least_first : (w : List ℕ) → Least t (reverse w) → First (named w)
  least_first w h =
      let u = is_one w h.path in
      let e : path_key t (reverse w) ≡ path_key t (reverse (nodes (named w))) = ap (λ (x : List ℕ). path_key t (reverse x)) (sym u.1) in
      (u.0, λ v l. (r.keys (named w) v u.0 l).0 (subst (λ (x : List ℕ). Precedes x (path_key t (reverse (nodes v)))) e (h.first (reverse (nodes v)) (r.path v l))))

  first_least : (w : List A) → First w → Least t (reverse (nodes w))
  first_least w h =
      record {
        path = r.path w h.0;
        first = λ q l.
            let v : S (named (reverse q)) = r.read q l in
            let e : path_key t (reverse (nodes (named (reverse q)))) ≡ path_key t q = ap (λ (x : List ℕ). path_key t (reverse x)) (r.there q l) ∙ ap (path_key t) (reverse-reverse q) in
            subst (Precedes (path_key t (reverse (nodes w)))) e ((r.keys w (named (reverse q)) h.0 v).1 (h.1 (named (reverse q)) v));
      }

  is_said : (a : Answer ℕ) → IsAnswer t a → Says (renamed named a)
  is_said (found c m w) h =
      let u = is_one w h.0.path in
      (least_first w h.0, sym (r.costs (named w) u.0) ∙ ap (λ (x : List ℕ). path_cost t (reverse x)) u.1 ∙ h.1, h.2)
  is_said (blocked m) h = (λ w l. h.0 (reverse (nodes w)) (r.path w l), h.1)

  said_is : (a : Answer A) → Says a → IsAnswer t (renamed nodes a)
  said_is (found c m w) h = (first_least w h.0, r.costs w h.0.0 ∙ h.1, h.2)
  said_is (blocked m) h = (λ q l. h.0 (named (reverse q)) (r.read q l), h.1)

  again_said : (a : Answer A) → Says a → renamed named (renamed nodes a) ≡ a
  again_said (found c m w) h = ap (found c m) (r.again w h.0.0)
  again_said (blocked m) h = refl

  -- THE ANSWER IN THOSE WORDS, AND THERE IS NO OTHER
  pub answer_says : Says (renamed named (answer t))
  answer_says = is_said (answer t) (answer_right t)

  pub says_only : (a : Answer A) → Says a → a ≡ renamed named (answer t)
  says_only a h = sym (again_said a h) ∙ ap (renamed named) (answer_only t (renamed nodes a) (answer t) (said_is a h) (answer_right t))
