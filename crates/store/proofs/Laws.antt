-- Laws on the places of an array, at any type of element: one more joins a queue, and each of the first places changes. Assumes nothing.
use mathlib.Core.Path.{◌≡◌, refl, ap, sym, ◌∙◌}
use mathlib.Core.List.{List, [], ◌∷◌, ◌++◌, append_assoc, map}
use Prim.Native.Nat.{ℕ, zero, suc, pred, ◌+◌, ◌-◌, ◌≤◌, ◌<◌}
use native.Mathlib.Numerals.{add-one}
use native.Mathlib.Omega.{arith}
use lib.ListN.{length, take, drop, set, get_or, length-append, length-take}
use lib.Seq.{set_split, get_or-take, get_or-drop}
use borrow.Rule.Slice.PartMut.{mid_of, put_mid}
use Rattle.shape.specs.Parts.{over, change, firsts}
use Rattle.decide.specs.Effect.{between}

module _ {A : Type 0} where
  -- one more at the end
  pub join-length : (n : ℕ) (es : List A) (e : A) → n < length es → n + 1 ≡ length (take n es ++ (e ∷ []))
  join-length n es e h = simp (length-append, length-take) (omega arith)

  pub join-over : (n : ℕ) (es : List A) (e : A) → n < length es → set es n e ≡ over (take n es ++ (e ∷ [])) es
  join-over n es e h =
      let l : length (take n es ++ (e ∷ [])) ≡ suc n = sym (join-length n es e h) ∙ add-one n in
      rw (l, append_assoc, set_split es n e)

  -- a loop that changes each of the first places by `f`
  pub firsts_at : (f : A → A) (i : ℕ) (l : List A) (d : A) → get_or (firsts i f l) i d ≡ get_or l i d
  firsts_at f zero l d = refl
  firsts_at f (suc i) [] d = refl
  firsts_at f (suc i) (x ∷ l) d = firsts_at f i l d

  firsts-next : (f : A → A) (i : ℕ) (l : List A) (d : A) → set (firsts i f l) i (f (get_or (firsts i f l) i d)) ≡ firsts (suc i) f l
  firsts-next f zero [] d = refl
  firsts-next f zero (x ∷ l) d = refl
  firsts-next f (suc i) [] d = refl
  firsts-next f (suc i) (x ∷ l) d = ap (λ (t : List A). f x ∷ t) (firsts-next f i l d)

  pub firsts_more : (f : A → A) (i : ℕ) (l : List A) (d : A) → set (firsts i f l) i (f (get_or (firsts i f l) i d)) ≡ firsts (i + 1) f l
  firsts_more f i l d = rw (add-one i) (firsts-next f i l d)

  firsts_all : (f : A → A) (n : ℕ) (l : List A) → length l ≤ n → firsts n f l ≡ map f l
  firsts_all f zero [] h = refl
  firsts_all f zero (x ∷ l) h = absurd (omega arith)
  firsts_all f (suc n) [] h = refl
  firsts_all f (suc n) (x ∷ l) h = ap (λ (t : List A). f x ∷ t) (firsts_all f n l (omega arith))

  -- the places of a part of the array, changed one after another and put back
  between-part : (f : A → A) (a k : ℕ) (l : List A) → put_mid a k l (map f (mid_of a k l)) ≡ between a (a + k) f l
  between-part f zero k l = let e : k ≡ 0 + k = omega arith in ap (λ (j : ℕ). between 0 j f l) e
  between-part f (suc a) zero [] = refl
  between-part f (suc a) (suc k) [] = refl
  between-part f (suc a) k (x ∷ l) =
      let e : a + k ≡ pred (suc a + k) = omega arith in
      ap (λ (t : List A). x ∷ t) (between-part f a k l ∙ ap (λ (j : ℕ). between a j f l) e)

  pub part-place : (a k i : ℕ) (l : List A) (d : A) → i < length (mid_of a k l) → (i < k) × (get_or (mid_of a k l) i d ≡ get_or l (a + i) d)
  part-place a k i l d h =
      let b : i < k = omega (arith, length-take k (drop a l)) in
      (b, get_or-take k (drop a l) i d b ∙ get_or-drop a l i d)

  pub firsts-part : (f : A → A) (a b n : ℕ) (l part : List A) → a ≤ b → part ≡ firsts n f (mid_of a (b - a) l) → length (mid_of a (b - a) l) ≤ n → put_mid a (b - a) l part ≡ between a b f l
  firsts-part f a b n l part h e all =
      let m : a + (b - a) ≡ b = omega arith in
      rw (e, firsts_all f n (mid_of a (b - a) l) all) (between-part f a (b - a) l ∙ ap (λ (j : ℕ). between a j f l) m)

  -- one place changed by `f`, as the code changes it
  pub change-set : (i : ℕ) (f : A → A) (l : List A) (d : A) → set l i (f (get_or l i d)) ≡ change i f l
  change-set i f [] d = refl
  change-set zero f (x ∷ l) d = refl
  change-set (suc i) f (x ∷ l) d = ap (λ (t : List A). x ∷ t) (change-set i f l d)
