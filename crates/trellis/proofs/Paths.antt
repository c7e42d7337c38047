-- The list of all paths has each path, nothing else, and nothing twice; `ends_path` is true exactly
-- where paths end. Assumes nothing.
use mathlib.Core.Path.{◌≡◌, refl, sym, ◌∙◌, ap}
use mathlib.Core.Bool.{Bool, true, false, ◌&&◌}
use mathlib.Core.List.Memᴰ
use mathlib.Core.List.{List, [], ◌∷◌, ◌++◌, map, Memᴰ, head-eq_of_cons-eq, tail-eq_of_cons-eq}
use mathlib.Core.Logic.{⊎_elim}
use Prim.Native.Nat.{ℕ, zero, suc, ◌+◌, ◌*◌, ◌<◌}
use native.Mathlib.Nat.{eq-or-lt_of_le, le_of_suc-le-suc, not-suc-le-zero, mul-one, one-mul, zero-mul}
use native.Mathlib.Omega.{arith}
use lib.Dec.{ltb}
use lib.ListN.{length, length-append, length-map}
use borrow.Author.Tests.{ltb-true, lt-ltb}
use Rattle.lists.specs.Once.{EachOnce}
use Rattle.lists.specs.Count.{one_if, sum_below}
use Rattle.lists.proofs.Count.{sum_cong, and_both, both_and}
use Rattle.trellis.specs.Trellis.{Reach, never, after, Trellis, entry, ◌▸◌, width, Leads, IsPath}
use Rattle.trellis.specs.Paths.{reached, list_if, gather, paths_to, all_paths, AllPathsListed}
use Rattle.trellis.specs.Considered.{has_member, ends_path}

pub reached_some : (x : Reach) → reached x ≡ true → (c : ℕ) × (x ≡ after c)
reached_some never e = absurd (let z : ◌≡◌ {A = ℕ} 0 1 = cc in omega arith)
reached_some (after c) e = (c, refl)

-- a path ends in a node of the last stage
pub path_below : (t : Trellis) (i : ℕ) (p : List ℕ) → Leads t i p → i < width t
path_below (entry n s) i [] h = h.0
path_below (entry n s) i (k ∷ p) h = absurd h
path_below (t ▸ st) i [] h = absurd h
path_below (t ▸ st) i (k ∷ p) h = h.0

-- members
pub listed_if_in {ℓ} : {A : Type ℓ} {x : A} (b : Bool) (l : List A) → b ≡ true → Memᴰ x l → Memᴰ x (list_if b l)
listed_if_in b l e m = rw e m

pub listed_if_of {ℓ} : {A : Type ℓ} {x : A} (b : Bool) (l : List A) → Memᴰ x (list_if b l) → (b ≡ true) × Memᴰ x l
listed_if_of true l m = (refl, m)
listed_if_of false l m = absurd (Memᴰ.not-nil m)

pub gather_in {ℓ} : {A : Type ℓ} {x : A} (n : ℕ) (g : ℕ → List A) (k : ℕ) → k < n → Memᴰ x (g k) → Memᴰ x (gather n g)
gather_in zero g k h m = absurd (not-suc-le-zero h)
gather_in (suc n) g k h m =
    ⊎_elim (λ e. Memᴰ.append_right (gather n g) (rw e at m)) (λ l. Memᴰ.append_left (g n) (gather_in n g k l m)) (eq-or-lt_of_le (le_of_suc-le-suc h))

pub record InSome {ℓ} {A : Type ℓ} (n : ℕ) (g : ℕ → List A) (x : A) : Type ℓ where
  pub place : ℕ
  pub below : place < n
  pub there : Memᴰ x (g place)

pub gather_of {ℓ} : {A : Type ℓ} {x : A} (n : ℕ) (g : ℕ → List A) → Memᴰ x (gather n g) → InSome n g x
gather_of zero g m = absurd (Memᴰ.not-nil m)
gather_of {x = x} (suc n) g m =
    ⊎_elim (λ (l : Memᴰ x (gather n g)). let w : InSome n g x = gather_of n g l in record { place = w.place; below = omega (arith, w.below); there = w.there })
    (λ r. record { place = n; below = omega arith; there = r }) (Memᴰ.append_cases (gather n g) m)

-- how many
length_some {ℓ} : {A : Type ℓ} (b : Bool) (l : List A) → length (list_if b l) ≡ one_if b * length l
length_some true l = sym (one-mul (length l))
length_some false l = sym (zero-mul (length l))

pub length_if {ℓ} : {A : Type ℓ} (b : Bool) (x : A) → length (list_if b (x ∷ [])) ≡ one_if b
length_if b x = length_some b (x ∷ []) ∙ mul-one (one_if b)

pub length_gather {ℓ} : {A : Type ℓ} (n : ℕ) (g : ℕ → List A) → length (gather n g) ≡ sum_below n (λ k. length (g k))
length_gather zero g = refl
length_gather (suc n) g = length-append (gather n g) (g n) ∙ ap (λ (x : ℕ). x + length (g n)) (length_gather n g)

-- each once
once_append {ℓ} : {A : Type ℓ} (xs ys : List A) → EachOnce xs → EachOnce ys → ((x : A) → Memᴰ x xs → Memᴰ x ys → ⊥) → EachOnce (xs ++ ys)
once_append [] ys a b d = b
once_append (x ∷ xs) ys a b d = (
  λ m. ⊎_elim a.0 (λ r. d x (Memᴰ.head refl) r) (Memᴰ.append_cases xs m),
  once_append xs ys a.1 b (λ y l r. d y (Memᴰ.tail l) r),
)

pub once_gather {ℓ} : {A : Type ℓ} (n : ℕ) (g : ℕ → List A) → ((k : ℕ) → EachOnce (g k))
    → ((j k : ℕ) (x : A) → Memᴰ x (g j) → Memᴰ x (g k) → j ≡ k) → EachOnce (gather n g)
once_gather zero g o d = tt
once_gather (suc n) g o d =
    once_append (gather n g) (g n) (once_gather n g o d) (o n)
    (λ x l r. let w = gather_of n g l in let e : w.place ≡ n = d w.place n x w.there r in omega (arith, w.below))

pub once_if {ℓ} : {A : Type ℓ} (b : Bool) (l : List A) → EachOnce l → EachOnce (list_if b l)
once_if true l o = o
once_if false l o = tt

once_map {ℓ} : {A : Type ℓ} (k : A) (l : List (List A)) → EachOnce l → EachOnce (map (λ p. k ∷ p) l)
once_map k [] o = tt
once_map k (x ∷ xs) o =
    (λ m. let w = Memᴰ.of_map (λ p. k ∷ p) xs m in o.0 (Memᴰ.cast (sym (tail-eq_of_cons-eq w.2)) w.1), once_map k xs o.1)

-- lists that begin unlike share nothing
same_head {ℓ} : {A : Type ℓ} (j k : A) (ls ms : List (List A)) (x : List A) → Memᴰ x (map (λ p. j ∷ p) ls) → Memᴰ x (map (λ p. k ∷ p) ms) → j ≡ k
same_head j k ls ms x a b =
    let u = Memᴰ.of_map (λ p. j ∷ p) ls a in
    let v = Memᴰ.of_map (λ p. k ∷ p) ms b in
    head-eq_of_cons-eq (u.2 ∙ sym v.2)

-- each once by another name
pub once_named : {A B : Type 0} (f : A → B) (d : B → A) (l : List A) → ((x : A) → d (f x) ≡ x) → EachOnce l → EachOnce (map f l)
once_named f d [] i o = tt
once_named f d (x ∷ xs) i o =
    (λ m. let w = Memᴰ.of_map f xs m in o.0 (Memᴰ.cast (sym (i x) ∙ ap d (sym w.2) ∙ i w.0) w.1), once_named f d xs i o.1)

-- ---- lists that begin with the name of a node below K that passes a test and go on by `rest`:
-- their members, each once, and their number
module _ {A : Type 0} (K : ℕ) (name : ℕ → A) (node_of : A → ℕ) (told : (k : ℕ) → node_of (name k) ≡ k) (p : ℕ → Bool) (rest : ℕ → List (List A)) where
  abbrev headed : ℕ → List (List A)
  headed k = list_if (p k) (map (λ is. name k ∷ is) (rest k))

  pub headed_in : (k : ℕ) (is : List A) → k < K → p k ≡ true → Memᴰ is (rest k) → Memᴰ (name k ∷ is) (gather K headed)
  headed_in k is l e m = gather_in K headed k l (listed_if_in (p k) (map (λ is. name k ∷ is) (rest k)) e (Memᴰ.map (λ is. name k ∷ is) m))

  pub record Headed (fs : List A) : Type 0 where
    pub node : ℕ
    pub later : List A
    pub is : name node ∷ later ≡ fs
    pub below : node < K
    pub passes : p node ≡ true
    pub goes_on_lem : Memᴰ later (rest node)

  pub headed_of : (fs : List A) → Memᴰ fs (gather K headed) → Headed fs
  headed_of fs m =
      let w = gather_of K headed m in
      let u = listed_if_of (p w.place) (map (λ is. name w.place ∷ is) (rest w.place)) w.there in
      let q = Memᴰ.of_map (λ is. name w.place ∷ is) (rest w.place) u.1 in
      record { node = w.place; later = q.0; is = q.2; below = w.below; passes = u.0; goes_on_lem = q.1 }

  pub headed_once : ((k : ℕ) → EachOnce (rest k)) → EachOnce (gather K headed)
  headed_once o =
      once_gather K headed (λ k. once_if (p k) (map (λ is. name k ∷ is) (rest k)) (once_map (name k) (rest k) (o k)))
      (λ j k x a b. sym (told j) ∙ ap node_of (same_head (name j) (name k) (rest j) (rest k) x
      (listed_if_of (p j) (map (λ is. name j ∷ is) (rest j)) a).1 (listed_if_of (p k) (map (λ is. name k ∷ is) (rest k)) b).1) ∙ told k)

  pub headed_length : length (gather K headed) ≡ sum_below K (λ k. one_if (p k) * length (rest k))
  headed_length =
      length_gather K headed
      ∙ sum_cong K (λ k. length (headed k)) (λ k. one_if (p k) * length (rest k))
      (λ k l. length_some (p k) (map (λ is. name k ∷ is) (rest k)) ∙ ap (λ (x : ℕ). one_if (p k) * x) (length-map (rest k) (λ is. name k ∷ is)))

-- every listed one is a path, and every path is listed
pub listed_leads : (t : Trellis) (i : ℕ) (p : List ℕ) → Memᴰ p (paths_to t i) → Leads t i p
listed_leads (entry n s) i p m =
    let w = listed_if_of (ltb i n && reached (s i)) ([] ∷ []) m in
    let e = Memᴰ.eq_of_singleton w.1 in
    let v = and_both (ltb i n) (reached (s i)) w.0 in
    rw e (ltb-true i n v.0, reached_some (s i) v.1)
listed_leads (t ▸ st) i p m =
    let w = listed_if_of (ltb i st.size) (gather (width t) (λ k. list_if (st.allowed k i) (map (λ p. k ∷ p) (paths_to t k)))) m in
    let b : Headed (width t) (λ k. k) (λ k. k) (λ k. refl) (λ k. st.allowed k i) (paths_to t) p = headed_of (width t) (λ k. k) (λ k. k) (λ k. refl) (λ k. st.allowed k i) (paths_to t) p w.1 in
    rw (← b.is) (ltb-true i st.size w.0, b.passes, listed_leads t b.node b.later b.goes_on_lem)

pub leads_listed : (t : Trellis) (i : ℕ) (p : List ℕ) → Leads t i p → Memᴰ p (paths_to t i)
leads_listed (entry n s) i [] h =
    listed_if_in (ltb i n && reached (s i)) ([] ∷ []) (both_and (ltb i n) (reached (s i)) (lt-ltb i n h.0) (ap reached h.1.1)) (Memᴰ.head refl)
leads_listed (entry n s) i (k ∷ p) h = absurd h
leads_listed (t ▸ st) i [] h = absurd h
leads_listed (t ▸ st) i (k ∷ p) h =
    listed_if_in (ltb i st.size) (gather (width t) (λ k. list_if (st.allowed k i) (map (λ p. k ∷ p) (paths_to t k)))) (lt-ltb i st.size h.0)
    (headed_in (width t) (λ k. k) (λ k. k) (λ k. refl) (λ k. st.allowed k i) (paths_to t) k p (path_below t k p h.2) h.1 (leads_listed t k p h.2))

pub paths_once : (t : Trellis) (i : ℕ) → EachOnce (paths_to t i)
paths_once (entry n s) i = once_if (ltb i n && reached (s i)) ([] ∷ []) (λ m. Memᴰ.not-nil m, tt)
paths_once (t ▸ st) i =
    once_if (ltb i st.size) (gather (width t) (λ k. list_if (st.allowed k i) (map (λ p. k ∷ p) (paths_to t k))))
    (headed_once (width t) (λ k. k) (λ k. k) (λ k. refl) (λ k. st.allowed k i) (paths_to t) (λ k. paths_once t k))

-- each path once, and every path is in the list of all
pub all_once : (t : Trellis) → EachOnce (all_paths t)
all_once t = headed_once (width t) (λ k. k) (λ k. k) (λ k. refl) (λ i. true) (paths_to t) (λ i. paths_once t i)

pub path_listed : (t : Trellis) (p : List ℕ) → IsPath t p → Memᴰ p (all_paths t)
path_listed t [] h = absurd h
path_listed t (i ∷ p) h = headed_in (width t) (λ k. k) (λ k. k) (λ k. refl) (λ i. true) (paths_to t) i p (path_below t i p h) refl (leads_listed t i p h)

pub listed_path : (t : Trellis) (p : List ℕ) → Memᴰ p (all_paths t) → IsPath t p
listed_path t p m =
    let b : Headed (width t) (λ k. k) (λ k. k) (λ k. refl) (λ i. true) (paths_to t) p = headed_of (width t) (λ k. k) (λ k. k) (λ k. refl) (λ i. true) (paths_to t) p m in
    rw (← b.is) (listed_leads t b.node b.later b.goes_on_lem)

-- `ends_path` says whether a path ends in the node
some_first : (l : List (List ℕ)) → has_member l ≡ true → (p : List ℕ) × Memᴰ p l
some_first [] e = absurd (let z : ◌≡◌ {A = ℕ} 0 1 = cc in omega arith)
some_first (p ∷ l) e = (p, Memᴰ.head refl)

member_some : (l : List (List ℕ)) (p : List ℕ) → Memᴰ p l → has_member l ≡ true
member_some [] p m = absurd (Memᴰ.not-nil m)
member_some (q ∷ l) p m = refl

pub ends_path_lem : (t : Trellis) (i : ℕ) → ends_path t i ≡ true → (p : List ℕ) × Leads t i p
ends_path_lem t i e = let w = some_first (paths_to t i) e in (w.0, listed_leads t i w.0 w.1)

pub path_ends : (t : Trellis) (i : ℕ) (p : List ℕ) → Leads t i p → ends_path t i ≡ true
path_ends t i p h = member_some (paths_to t i) p (leads_listed t i p h)

-- THE LIST OF ALL PATHS
pub all_listed : AllPathsListed
all_listed t = record { listed = λ p. (listed_path t p, path_listed t p); once = all_once t }
