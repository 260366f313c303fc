-- Laws of arrays as lists, at any type of element: a place changed, the first places changed, a list laid over an array, a test of all or of any. Assumes nothing.
use mathlib.Core.Path.{◌≡◌, refl, sym, ap, ap₂, ◌∙◌}
use mathlib.Core.Bool.{Bool, true, false, ◌&&◌, ◌||◌, true≢false, or-false, or_assoc}
use mathlib.Core.List.{List, [], ◌∷◌, ◌++◌, map, tail}
use Prim.Native.Nat.{ℕ, zero, suc, ◌+◌, ◌-◌, ◌≤◌, ◌<◌}
use native.Mathlib.Nat.{not-suc-le-zero, le_of_suc-le-suc}
use native.Mathlib.Omega.{arith}
use lib.ListN.{length, take, drop, get_or, replicate, length-append, length-drop}
use lib.Seq.{take-append_seam, get_or-append-add, get_or-drop}
use lib.Dec.{ltb}
use borrow.Author.Tests.{ltb-true, ltb-false}
pub use Rattle.std.specs.Cmp.Derive.{both_true as and_both}
use Rattle.figure.proofs.Laws.{and_left, and_right, each}
use Rattle.shape.specs.Parts.{any, all, over, change, firsts, out_of, with_out, in_of, with_in}
use Rattle.shape.specs.declared.InEntry.{InEntry}
use Rattle.shape.specs.declared.InQueue.{InQueue}
use Rattle.shape.specs.declared.OutEntry.{OutEntry}
use Rattle.shape.specs.declared.OutQueue.{OutQueue}

-- ---- tests

pub or_left : (a b : Bool) → a || b ≡ false → a ≡ false
or_left true b e = e
or_left false b e = refl

pub or_right : (a b : Bool) → a || b ≡ false → b ≡ false
or_right true b e = absurd (true≢false e)
or_right false b e = e

module _ {A : Type 0} (p : A → Bool) where
  pub all_end : (l : List A) (x : A) → all p l ≡ true → p x ≡ true → all p (l ++ (x ∷ [])) ≡ true
  all_end [] x h e = rw (e)
  all_end (y ∷ l) x h e = and_both (and_left (p y) _ h) (all_end l x (and_right (p y) _ h) e)

  pub all_tail : (l : List A) → all p l ≡ true → all p (tail l) ≡ true
  all_tail [] h = refl
  all_tail (x ∷ l) h = and_right (p x) _ h

  -- what holds of all, and of the default, holds at every place
  pub all-get_or : (l : List A) (k : ℕ) (d : A) → p d ≡ true → all p l ≡ true → p (get_or l k d) ≡ true
  all-get_or [] k d e h = e
  all-get_or (x ∷ l) zero d e h = and_left (p x) _ h
  all-get_or (x ∷ l) (suc k) d e h = all-get_or l k d e (and_right (p x) _ h)

  pub all_replicate : (n m : ℕ) (a : A) → p a ≡ true → all p (take n (replicate m a)) ≡ true
  all_replicate zero m a e = refl
  all_replicate (suc n) zero a e = refl
  all_replicate (suc n) (suc m) a e = and_both e (all_replicate n m a e)

  pub all-change : (k : ℕ) (f : A → A) (l : List A) (d : A) → all p l ≡ true → p (f (get_or l k d)) ≡ true → all p (change k f l) ≡ true
  all-change k f [] d h e = refl
  all-change zero f (x ∷ l) d h e = and_both e (and_right (p x) _ h)
  all-change (suc k) f (x ∷ l) d h e = and_both (and_left (p x) _ h) (all-change k f l d (and_right (p x) _ h) e)

  -- f keeps p where q does not hold
  pub all_map : (q : A → Bool) (f : A → A) (l : List A) → ((x : A) → p x ≡ true → q x ≡ false → p (f x) ≡ true) → all p l ≡ true → any q l ≡ false → all p (map f l) ≡ true
  all_map q f [] h e n = refl
  all_map q f (x ∷ l) h e n =
      and_both (h x (and_left (p x) _ e) (or_left (q x) _ n)) (all_map q f l h (and_right (p x) _ e) (or_right (q x) _ n))

  pub any-get_or : (l : List A) (k : ℕ) (d : A) → p d ≡ false → any p l ≡ false → p (get_or l k d) ≡ false
  any-get_or [] k d e h = e
  any-get_or (x ∷ l) zero d e h = or_left (p x) _ h
  any-get_or (x ∷ l) (suc k) d e h = any-get_or l k d e (or_right (p x) _ h)

  pub any-end : (l : List A) (x : A) → any p (l ++ (x ∷ [])) ≡ any p l || p x
  any-end [] x = or-false (p x)
  any-end (y ∷ l) x = rw (any-end l x) (sym (or_assoc (p y) (any p l) (p x)))

-- tests that agree at the first n places
module _ {A : Type 0} (p q : A → Bool) (d : A) where
  pub all_same : (n : ℕ) (l r : List A) → n ≤ length l → n ≤ length r → ((k : ℕ) → k < n → p (get_or l k d) ≡ q (get_or r k d)) → all p (take n l) ≡ all q (take n r)
  all_same zero l r a b h = refl
  all_same (suc n) [] r a b h = absurd (not-suc-le-zero a)
  all_same (suc n) (x ∷ l) [] a b h = absurd (not-suc-le-zero b)
  all_same (suc n) (x ∷ l) (y ∷ r) a b h =
      ap₂ ◌&&◌ (h 0 (omega arith)) (all_same n l r (le_of_suc-le-suc a) (le_of_suc-le-suc b) (λ k c. h (suc k) (omega arith)))

  pub any_same : (n : ℕ) (l r : List A) → n ≤ length l → n ≤ length r → ((k : ℕ) → k < n → p (get_or l k d) ≡ q (get_or r k d)) → any p (take n l) ≡ any q (take n r)
  any_same zero l r a b h = refl
  any_same (suc n) [] r a b h = absurd (not-suc-le-zero a)
  any_same (suc n) (x ∷ l) [] a b h = absurd (not-suc-le-zero b)
  any_same (suc n) (x ∷ l) (y ∷ r) a b h =
      ap₂ ◌||◌ (h 0 (omega arith)) (any_same n l r (le_of_suc-le-suc a) (le_of_suc-le-suc b) (λ k c. h (suc k) (omega arith)))

module _ {A : Type 0} where
  -- ---- one place changed

  pub length-change : (k : ℕ) (f : A → A) (l : List A) → length (change k f l) ≡ length l
  length-change k f [] = refl
  length-change zero f (x ∷ l) = refl
  length-change (suc k) f (x ∷ l) = ap suc (length-change k f l)

  pub get_or-change-same : (k : ℕ) (f : A → A) (l : List A) (d : A) → k < length l → get_or (change k f l) k d ≡ f (get_or l k d)
  get_or-change-same k f [] d h = absurd (not-suc-le-zero h)
  get_or-change-same zero f (x ∷ l) d h = refl
  get_or-change-same (suc k) f (x ∷ l) d h = get_or-change-same k f l d (le_of_suc-le-suc h)

  pub get_or-change-other : (k j : ℕ) (f : A → A) (l : List A) (d : A) → ¬ (j ≡ k) → get_or (change k f l) j d ≡ get_or l j d
  get_or-change-other k j f [] d h = refl
  get_or-change-other zero zero f (x ∷ l) d h = absurd (h refl)
  get_or-change-other zero (suc j) f (x ∷ l) d h = refl
  get_or-change-other (suc k) zero f (x ∷ l) d h = refl
  get_or-change-other (suc k) (suc j) f (x ∷ l) d h = get_or-change-other k j f l d (λ e. h (ap suc e))

  pub take-change : (n k : ℕ) (f : A → A) (l : List A) → take n (change k f l) ≡ change k f (take n l)
  take-change zero k f l = refl
  take-change (suc n) k f [] = refl
  take-change (suc n) zero f (x ∷ l) = refl
  take-change (suc n) (suc k) f (x ∷ l) = ap (λ (r : List A). x ∷ r) (take-change n k f l)

  -- a fact of every place, after a change at one
  pub at-change : (P : ℕ → A → Type 0) (k : ℕ) (f : A → A) (l : List A) (d : A) → k < length l → P k (f (get_or l k d))
      → ((j : ℕ) → ¬ (j ≡ k) → P j (get_or l j d)) → (j : ℕ) → P j (get_or (change k f l) j d)
  at-change P k f l d h p o = each (λ j. P j (get_or (change k f l) j d)) k (rw (get_or-change-same k f l d h) p) (λ j n. rw (get_or-change-other k j f l d n) (o j n))

  -- ---- the first places changed

  pub length-firsts : (n : ℕ) (f : A → A) (l : List A) → length (firsts n f l) ≡ length l
  length-firsts zero f l = refl
  length-firsts (suc n) f [] = refl
  length-firsts (suc n) f (x ∷ l) = ap suc (length-firsts n f l)

  pub get_or-firsts-below : (n k : ℕ) (f : A → A) (l : List A) (d : A) → k < n → k < length l → get_or (firsts n f l) k d ≡ f (get_or l k d)
  get_or-firsts-below zero k f l d h b = absurd (not-suc-le-zero h)
  get_or-firsts-below (suc n) k f [] d h b = absurd (not-suc-le-zero b)
  get_or-firsts-below (suc n) zero f (x ∷ l) d h b = refl
  get_or-firsts-below (suc n) (suc k) f (x ∷ l) d h b = get_or-firsts-below n k f l d (le_of_suc-le-suc h) (le_of_suc-le-suc b)

  pub get_or-firsts-above : (n k : ℕ) (f : A → A) (l : List A) (d : A) → n ≤ k → get_or (firsts n f l) k d ≡ get_or l k d
  get_or-firsts-above zero k f l d h = refl
  get_or-firsts-above (suc n) k f [] d h = refl
  get_or-firsts-above (suc n) zero f (x ∷ l) d h = absurd (not-suc-le-zero h)
  get_or-firsts-above (suc n) (suc k) f (x ∷ l) d h = get_or-firsts-above n k f l d (le_of_suc-le-suc h)

  pub take-firsts : (n : ℕ) (f : A → A) (l : List A) → take n (firsts n f l) ≡ map f (take n l)
  take-firsts zero f l = refl
  take-firsts (suc n) f [] = refl
  take-firsts (suc n) f (x ∷ l) = ap (λ (r : List A). f x ∷ r) (take-firsts n f l)

  -- a fact of every place, after a change of the first n
  pub at-firsts : (P : ℕ → A → Type 0) (n : ℕ) (f : A → A) (l : List A) (d : A) → ((j : ℕ) → j < n → j < length l → P j (f (get_or l j d)))
      → ((j : ℕ) → n ≤ j → P j (get_or l j d)) → (j : ℕ) → j < length l → P j (get_or (firsts n f l) j d)
  at-firsts P n f l d p o j b = at (ltb j n) refl
    where
      at : (t : Bool) → ltb j n ≡ t → P j (get_or (firsts n f l) j d)
      at true e = rw (get_or-firsts-below n j f l d (ltb-true j n e) b) (p j (ltb-true j n e) b)
      at false e = rw (get_or-firsts-above n j f l d (ltb-false j n e)) (o j (ltb-false j n e))

  -- ---- a list over the front of an array

  pub length_over : (l old : List A) → length l ≤ length old → length (over l old) ≡ length old
  length_over l old h = simp (length-append, length-drop) (omega arith)

  pub get_or-over-past : (l old : List A) (k : ℕ) (d : A) → length l ≤ k → get_or (over l old) k d ≡ get_or old k d
  get_or-over-past l old k d h =
      let e : k ≡ length l + (k - length l) = omega arith in
      rw (e) (get_or-append-add l (drop (length l) old) (k - length l) d ∙ get_or-drop (length l) old (k - length l) d)

  -- ---- an array of one value

  pub get_or-replicate-each : (P : A → Type 0) (n k : ℕ) (a d : A) → P a → P d → P (get_or (replicate n a) k d)
  get_or-replicate-each P zero k a d p q = q
  get_or-replicate-each P (suc n) zero a d p q = p
  get_or-replicate-each P (suc n) (suc k) a d p q = get_or-replicate-each P n k a d p q

  pub length-tail-le : (l : List A) (n : ℕ) → length l ≤ n → length (tail l) ≤ n
  length-tail-le [] n h = h
  length-tail-le (x ∷ l) n h = omega arith

-- ---- what a queue holds once l is put in its place

pub out-with : (q : OutQueue) (l : List OutEntry) → out_of (with_out q l) ≡ l
out-with q l = take-append_seam l (drop (length l) q.entries)

pub in-with : (q : InQueue) (l : List InEntry) → in_of (with_in q l) ≡ l
in-with q l = take-append_seam l (drop (length l) q.entries)
