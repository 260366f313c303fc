-- A machine goes on by steps and tells something at each: many steps, from the front of a list or one after another by number. Assumes nothing.
use mathlib.Core.Path.{◌≡◌, refl, sym, ap, ◌∙◌}
use mathlib.Core.Bool.{Bool, true, false}
use mathlib.Core.List.{List, [], ◌∷◌, ◌++◌, append_assoc, append-nil}
use Prim.Native.Nat.{ℕ, zero, suc, ◌+◌, ◌≤◌, ◌<◌}
use native.Mathlib.Nat.{le_refl, not-suc-le-zero, zero-add, suc-add}
use native.Mathlib.Omega.{arith}
use borrow.Author.Tests.{ltb-true, ltb-false}
use lib.Dec.{ltb}
use lib.ListN.{length, get_or, take, length-append, get_or-append}
use lib.Seq.{take-suc, take-length, get_or_at}

-- where a list of steps leads, and what it tells on the way
module _ {S X : Type 0} (go : S → X → S) where
  abbrev pub runs : S → List X → S
  runs s [] = s
  runs s (x ∷ xs) = runs (go s x) xs

  module _ {A : Type 0} (tell : S → X → A) where
    abbrev pub tape : S → List X → List A
    tape s [] = []
    tape s (x ∷ xs) = tell s x ∷ tape (go s x) xs

  pub runs_append : (s : S) (xs ys : List X) → runs s (xs ++ ys) ≡ runs (runs s xs) ys
  runs_append s [] ys = refl
  runs_append s (x ∷ xs) ys = runs_append (go s x) xs ys

  module _ {A : Type 0} (tell : S → X → A) where
    pub tape-append : (s : S) (xs ys : List X) → tape tell s (xs ++ ys) ≡ tape tell s xs ++ tape tell (runs s xs) ys
    tape-append s [] ys = refl
    tape-append s (x ∷ xs) ys = ap (λ (l : List A). tell s x ∷ l) (tape-append (go s x) xs ys)

    pub tape-length : (s : S) (xs : List X) → length (tape tell s xs) ≡ length xs
    tape-length s [] = refl
    tape-length s (x ∷ xs) = ap suc (tape-length (go s x) xs)

-- ---- steps by number

-- a list that is built by number: its length and its entries
module _ {A : Type 0} (g : ℕ → A) (l : ℕ → List A) (none : l 0 ≡ []) (more : (n : ℕ) → l (suc n) ≡ l n ++ (g n ∷ [])) where
  pub built-long : (n : ℕ) → length (l n) ≡ n
  built-long zero = ap length none
  built-long (suc n) = ap length (more n) ∙ length-append (l n) (g n ∷ []) ∙ omega (arith, built-long n)

  pub built-at : (n k : ℕ) (d : A) → k < n → get_or (l n) k d ≡ g k
  built-at zero k d h = absurd (not-suc-le-zero h)
  built-at (suc n) k d h = ap (λ (m : List A). get_or m k d) (more n) ∙ at (ltb k n) refl (built-at n k d)
    where
      at : (t : Bool) → ltb k n ≡ t → (k < n → get_or (l n) k d ≡ g k) → get_or (l n ++ (g n ∷ [])) k d ≡ g k
      at true e ih = get_or-append (l n) (g n ∷ []) d k (omega (arith, built-long n, ltb-true k n e)) ∙ ih (ltb-true k n e)
      at false e ih =
          let q : k ≡ n = omega (arith, ltb-false k n e) in
          rw q (get_or_at (l n) (g n) [] d n (built-long n))

-- x 0, .., x (n - 1)
module _ {X : Type 0} where
  unfoldable pub below : (ℕ → X) → ℕ → List X
  below x zero = []
  below x (suc n) = below x n ++ (x n ∷ [])

  pub below_alike : (x y : ℕ → X) (n : ℕ) → ((k : ℕ) → k < n → x k ≡ y k) → below x n ≡ below y n
  unfolding below
  below_alike x y zero h = refl
  below_alike x y (suc n) h = rw (below_alike x y n (λ k l. h k (omega arith)), h n (omega arith))

  pub below-append : (x : ℕ → X) (j d : ℕ) → below x (d + j) ≡ below x j ++ below (λ i. x (i + j)) d
  unfolding below
  below-append x j zero = rw (zero-add, append-nil)
  below-append x j (suc d) = rw (suc-add, below-append x j d) (append_assoc (below x j) _ _)

  below-take : (l : List X) (e : X) (n : ℕ) → n ≤ length l → below (λ k. get_or l k e) n ≡ take n l
  unfolding below
  below-take l e zero h = refl
  below-take l e (suc n) h = rw (below-take l e n (omega arith)) (sym (take-suc l n e h))

  -- all of a list
  pub below_all : (l : List X) (e : X) → below (λ k. get_or l k e) (length l) ≡ l
  below_all l e = below-take l e (length l) (le_refl (length l)) ∙ take-length l

-- the states before step 0, 1, .., and what the steps before them told: a run over those steps
module _ {S X A : Type 0} (go : S → X → S) (tell : S → X → A) (x : ℕ → X) (state : ℕ → S) (so_far : ℕ → List A)
    (state-more : (n : ℕ) → state (suc n) ≡ go (state n) (x n)) (none_told : so_far 0 ≡ []) (more-told : (n : ℕ) → so_far (suc n) ≡ so_far n ++ (tell (state n) (x n) ∷ []))
  where
    pub by_number : (n : ℕ) → (state n ≡ runs go (state 0) (below x n)) × (so_far n ≡ tape go tell (state 0) (below x n))
    unfolding below
    by_number zero = (refl, none_told)
    by_number (suc n) =
        let h = by_number n in
        let l = below x n in
        (rw (state-more n, h.0) (sym (runs_append go (state 0) l (x n ∷ []))), rw (more-told n, h.1, h.0) (sym (tape-append go tell (state 0) l (x n ∷ []))))
