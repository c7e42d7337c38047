-- Laws of `firsts`, and of an array that is filled from the front. Assumes nothing.
use mathlib.Core.Path.{◌≡◌, refl, sym, ap, ◌∙◌}
use mathlib.Core.List.{List, [], ◌∷◌, ◌++◌}
use Prim.Native.Nat.{ℕ, zero, suc, ◌+◌, ◌<◌, ◌≤◌}
use native.Mathlib.Numerals.{add-one}
use native.Mathlib.Omega.{arith}
use native.Mathlib.Nat.{not-suc-le-zero, le_of_suc-le-suc}
use borrow.Author.Count.{below_more}
use lib.ListN.{length, get_or, take, drop, set, replicate, drop_of_length-le}
use lib.Seq.{get_or-set_same, get_or-set_other}
use Rattle.places.specs.Places.{firsts}

module _ {A : Type 0} where
  pub length_firsts : (n : ℕ) (l : List A) (d : A) → length (firsts n l d) ≡ n
  unfolding firsts
  length_firsts zero l d = refl
  length_firsts (suc n) [] d = ap suc (length_firsts n [] d)
  length_firsts (suc n) (x ∷ l) d = ap suc (length_firsts n l d)

  pub get_d_firsts : (n i : ℕ) (l : List A) (d : A) → i < n → get_or (firsts n l d) i d ≡ get_or l i d
  unfolding firsts
  get_d_firsts zero i l d h = absurd (not-suc-le-zero h)
  get_d_firsts (suc n) zero [] d h = refl
  get_d_firsts (suc n) zero (x ∷ l) d h = refl
  get_d_firsts (suc n) (suc i) [] d h = get_d_firsts n i [] d (le_of_suc-le-suc h)
  get_d_firsts (suc n) (suc i) (x ∷ l) d h = get_d_firsts n i l d (le_of_suc-le-suc h)

  next_suc : (n i : ℕ) (l : List A) (d : A) → i < n → drop i (firsts n l d) ≡ get_or l i d ∷ drop (suc i) (firsts n l d)
  unfolding firsts
  next_suc zero i l d h = absurd (not-suc-le-zero h)
  next_suc (suc n) zero [] d h = refl
  next_suc (suc n) zero (x ∷ l) d h = refl
  next_suc (suc n) (suc i) [] d h = next_suc n i [] d (le_of_suc-le-suc h)
  next_suc (suc n) (suc i) (x ∷ l) d h = next_suc n i l d (le_of_suc-le-suc h)

  -- place i and the rest
  pub next_first : (n i : ℕ) (l : List A) (d : A) → i < n → drop i (firsts n l d) ≡ get_or l i d ∷ drop (i + 1) (firsts n l d)
  next_first n i l d h = next_suc n i l d h ∙ ap (λ (j : ℕ). get_or l i d ∷ drop j (firsts n l d)) (sym (add-one i))

  -- past the last place
  pub no_first : (n i : ℕ) (l : List A) (d : A) → n ≤ i → drop i (firsts n l d) ≡ []
  no_first n i l d h = drop_of_length-le (firsts n l d) {i = i} (omega (arith, length_firsts n l d))

  none_first : (n : ℕ) (d : A) → replicate n d ≡ firsts n [] d
  unfolding firsts
  none_first zero d = refl
  none_first (suc n) d = ap (λ (t : List A). d ∷ t) (none_first n d)

  -- an array that was filled with d and then given a list from its first place on
  pub firsts_filled : (n : ℕ) (xs : List A) (d : A) → length xs ≤ n → xs ++ drop (length xs) (replicate n d) ≡ firsts n xs d
  unfolding firsts
  firsts_filled n [] d h = none_first n d
  firsts_filled zero (x ∷ xs) d h = absurd (not-suc-le-zero h)
  firsts_filled (suc n) (x ∷ xs) d h = ap (λ (t : List A). x ∷ t) (firsts_filled n xs d (le_of_suc-le-suc h))

  -- as many places as elements
  pub firsts_all : (l : List A) (d : A) → firsts (length l) l d ≡ l
  unfolding firsts
  firsts_all [] d = refl
  firsts_all (x ∷ l) d = ap (λ (t : List A). x ∷ t) (firsts_all l d)

  more : (n : ℕ) (xs : List A) (x d : A) → length xs < n → set (firsts n xs d) (length xs) x ≡ firsts n (xs ++ (x ∷ [])) d
  unfolding firsts
  more zero xs x d g = absurd (not-suc-le-zero g)
  more (suc n) [] x d g = refl
  more (suc n) (y ∷ xs) x d g = ap (λ (t : List A). y ∷ t) (more n xs x d (le_of_suc-le-suc g))

  -- an array with a list in its first places, and one more element stored after it
  pub firsts_more : (n j : ℕ) (xs : List A) (x d : A) → length xs ≡ j → j < n → set (firsts n xs d) j x ≡ firsts n (xs ++ (x ∷ [])) d
  firsts_more n j xs x d e h = rw (← e) (more n xs x d (omega arith))

  -- a list that fits in n places, back from them
  pub firsts_back : (n : ℕ) (xs : List A) (d : A) → length xs ≤ n → firsts (length xs) (firsts n xs d) d ≡ xs
  unfolding firsts
  firsts_back n [] d h = refl
  firsts_back zero (x ∷ xs) d h = absurd (not-suc-le-zero h)
  firsts_back (suc n) (x ∷ xs) d h = ap (λ (t : List A). x ∷ t) (firsts_back n xs d (le_of_suc-le-suc h))

  -- the same of so many elements
  pub so_many_back : (n m : ℕ) (xs : List A) (d : A) → length xs ≡ m → m ≤ n → firsts m (firsts n xs d) d ≡ xs
  so_many_back n m xs d e h = ap (λ (k : ℕ). firsts k (firsts n xs d) d) (sym e) ∙ firsts_back n xs d (omega (arith, e))

  snoc : (n : ℕ) (l : List A) (d : A) → firsts (suc n) l d ≡ firsts n l d ++ (get_or l n d ∷ [])
  unfolding firsts
  snoc zero [] d = refl
  snoc zero (x ∷ l) d = refl
  snoc (suc n) [] d = ap (λ (t : List A). d ∷ t) (snoc n [] d)
  snoc (suc n) (x ∷ l) d = ap (λ (t : List A). x ∷ t) (snoc n l d)

  -- one place more
  pub firsts_snoc : (n : ℕ) (l : List A) (d : A) → firsts (n + 1) l d ≡ firsts n l d ++ (get_or l n d ∷ [])
  firsts_snoc n l d = ap (λ (m : ℕ). firsts m l d) (add-one n) ∙ snoc n l d

  -- a place past the first n stored to
  pub firsts_past : (n m : ℕ) (l : List A) (x d : A) → n ≤ m → firsts n (set l m x) d ≡ firsts n l d
  unfolding firsts
  firsts_past zero m l x d h = refl
  firsts_past (suc n) zero l x d h = absurd (not-suc-le-zero h)
  firsts_past (suc n) (suc m) [] x d h = refl
  firsts_past (suc n) (suc m) (y ∷ l) x d h = ap (λ (t : List A). y ∷ t) (firsts_past n m l x d (le_of_suc-le-suc h))

  -- places that are all there
  pub firsts_take : (n : ℕ) (l : List A) (d : A) → n ≤ length l → firsts n l d ≡ take n l
  unfolding firsts
  firsts_take zero l d h = refl
  firsts_take (suc n) [] d h = absurd (not-suc-le-zero h)
  firsts_take (suc n) (x ∷ l) d h = ap (λ (t : List A). x ∷ t) (firsts_take n l d (le_of_suc-le-suc h))

  -- one place more: the places below n hold what f says, and so do those below n + 1 once place n is stored
  pub one_stored : (l : List A) (n : ℕ) (x d : A) (f : ℕ → A) → n < length l → ((k : ℕ) → k < n → get_or l k d ≡ f k) → x ≡ f n → (k : ℕ) → k < n + 1 → get_or (set l n x) k d ≡ f k
  one_stored l n x d f h each e =
      below_more (λ k. get_or (set l n x) k d ≡ f k) n (λ k m. get_or-set_other l n k x d (λ z. omega arith) ∙ each k m) (get_or-set_same l n x d h ∙ e)

  -- ---- places filled with one blank, and read with another past the end
  pub firsts_get : (n i : ℕ) (l : List A) (d e : A) → i < n → i < length l → get_or (firsts n l d) i e ≡ get_or l i e
  unfolding firsts
  firsts_get zero i l d e h g = absurd (not-suc-le-zero h)
  firsts_get (suc n) i [] d e h g = absurd (not-suc-le-zero g)
  firsts_get (suc n) zero (x ∷ l) d e h g = refl
  firsts_get (suc n) (suc i) (x ∷ l) d e h g = firsts_get n i l d e (le_of_suc-le-suc h) (le_of_suc-le-suc g)

  back : (n : ℕ) (xs : List A) (d e : A) → length xs ≤ n → firsts (length xs) (firsts n xs d) e ≡ xs
  unfolding firsts
  back n [] d e h = refl
  back zero (x ∷ xs) d e h = absurd (not-suc-le-zero h)
  back (suc n) (x ∷ xs) d e h = ap (λ (t : List A). x ∷ t) (back n xs d e (le_of_suc-le-suc h))

  -- a list that fits in n places, back from them
  pub blanks_back : (n m : ℕ) (xs : List A) (d e : A) → length xs ≡ m → m ≤ n → firsts m (firsts n xs d) e ≡ xs
  blanks_back n m xs d e q h = ap (λ (k : ℕ). firsts k (firsts n xs d) e) (sym q) ∙ back n xs d e (omega (arith, q))
