-- Rows of equal width: their length, and a loop that puts one after another into a buffer. Assumes nothing.
use mathlib.Core.Path.{◌≡◌, refl, sym, ap, ◌∙◌}
use mathlib.Core.List.{List, [], ◌∷◌, ◌++◌, append_assoc, append-nil}
use Prim.Native.Nat.{ℕ, suc, ◌+◌, ◌*◌, ◌≤◌, ◌<◌, zero-le}
use native.Mathlib.Nat.{add-zero, mul-zero, mul-suc, mul-le-mul_left}
use native.Mathlib.Numerals.{add-one}
use native.Mathlib.Omega.{arith}
use lib.ListN.{length, get_or, take, length-append, take-append-drop}
use lib.Seq.{take-suc, take-length, length-take-le}
use Rattle.lists.specs.Bytes.{rows, put}
use Rattle.lists.proofs.Put.{put_in, put-put, length-put}

pub put-none : (old : List ℕ) (i : ℕ) → i ≤ length old → put old i [] ≡ old
put-none old i h = put_in old i [] (omega arith) ∙ rw (append-nil, add-zero) (take-append-drop i old)

module _ {A : Type 0} (f : A → List ℕ) where
  pub rows_append : (xs ys : List A) → rows f (xs ++ ys) ≡ rows f xs ++ rows f ys
  unfolding rows
  rows_append [] ys = refl
  rows_append (x ∷ xs) ys = ap (λ (z : List ℕ). f x ++ z) (rows_append xs ys) ∙ sym (append_assoc (f x) (rows f xs) (rows f ys))

  rows_snoc : (xs : List A) (x : A) → rows f (xs ++ (x ∷ [])) ≡ rows f xs ++ f x
  unfolding rows
  rows_snoc xs x = rows_append xs (x ∷ []) ∙ rw (append-nil)

  module _ (w : ℕ) (wide : (x : A) → length (f x) ≡ w) where
    pub length-rows : (xs : List A) → length (rows f xs) ≡ w * length xs
    unfolding rows
    length-rows [] = sym (mul-zero w)
    length-rows (x ∷ xs) = length-append (f x) (rows f xs) ∙ rw (wide x, length-rows xs, mul-suc) (omega arith)

-- ---- the loop: the first k rows are put at place i
pub record Putting {A : Type 0} (f : A → List ℕ) (w : ℕ) (xs : List A) (old : List ℕ) (i : ℕ) (out : List ℕ) (k : ℕ) : Type 0 where
  pub upto : k ≤ length xs
  pub inside : i + w * length xs ≤ length old
  pub out_is : out ≡ put old i (rows f (take k xs))

module _ {A : Type 0} {f : A → List ℕ} {w : ℕ} {xs : List A} {old : List ℕ} {i : ℕ} where
  pub putting-none : i + w * length xs ≤ length old → Putting f w xs old i old 0
  unfolding rows
  putting-none h = record { upto = zero-le; inside = h; out_is = sym (put-none old i (omega arith)) }

  pub putting-long : {out : List ℕ} {k : ℕ} → Putting f w xs old i out k → length out ≡ length old
  putting-long {out} {k} p = ap length p.out_is ∙ length-put old i (rows f (take k xs))

  pub putting-room : {out : List ℕ} {k : ℕ} → Putting f w xs old i out k → k < length xs → i + w * k + w ≤ length out
  putting-room {out} {k} p h =
      let m : w * suc k ≤ w * length xs = mul-le-mul_left w (omega arith) in
      omega (arith, p.inside, putting-long p, mul-suc w k)

  pub putting-more : ((x : A) → length (f x) ≡ w) → (d : A) {out out' : List ℕ} {k : ℕ} → Putting f w xs old i out k → k < length xs → out' ≡ put out (i + w * k) (f (get_or xs k d)) → Putting f w xs old i out' (k + 1)
  putting-more wide d {out} {out'} {k} p h e =
      let x = get_or xs k d in
      let more : take (k + 1) xs ≡ take k xs ++ (x ∷ []) = rw (add-one) (take-suc xs k d h) in
      let before : length (rows f (take k xs)) ≡ w * k = length-rows f w wide (take k xs) ∙ ap (λ (n : ℕ). w * n) (length-take-le k xs p.upto) in
      let fits : i + length (rows f (take k xs) ++ f x) ≤ length old = omega (arith, length-append (rows f (take k xs)) (f x), wide x, putting-room p h, putting-long p) in
      record {
        upto = omega arith;
        inside = p.inside;
        out_is = e ∙ rw (more, rows_snoc f (take k xs) x, p.out_is, ← before) (put-put old i (rows f (take k xs)) (f x) fits);
      }

  pub putting-all : {out : List ℕ} {k : ℕ} → Putting f w xs old i out k → k ≡ length xs → out ≡ put old i (rows f xs)
  putting-all p e = p.out_is ∙ rw (e, take-length xs)
