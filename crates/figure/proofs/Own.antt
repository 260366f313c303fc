-- The items of one engine; lists with the same items of every engine are rearrangements of each other. Assumes nothing.
use Prim.Native.Nat.{ℕ}
use mathlib.Core.Path.{◌≡◌, refl, sym, ap, ◌∙◌}
use mathlib.Core.Bool.{Bool, true, false}
use mathlib.Core.List.Perm
use mathlib.Core.List.{List, [], ◌∷◌, ◌++◌, append-nil, cons≢nil, Perm, perm_middle}
use lib.Dec.{eqb}
use borrow.Author.Tests.{eqb-true, eqb-false, eq-eqb, ne_eqb}
use Rattle.figure.specs.Account.{Item}
use Rattle.figure.specs.Demand.{who, keep, own}
use Rattle.figure.proofs.Laws.{each}

keep_append : (t : Bool) (x : Item) (xs ys : List Item) → keep t x (xs ++ ys) ≡ keep t x xs ++ ys
keep_append true x xs ys = refl
keep_append false x xs ys = refl

pub own-append : (i : ℕ) (xs ys : List Item) → own i (xs ++ ys) ≡ own i xs ++ own i ys
own-append i [] ys = refl
own-append i (x ∷ xs) ys = rw (own-append i xs ys) (keep_append (eqb (who x) i) x (own i xs) (own i ys))

-- ---- an item, in front and at the end

pub own-mine : (x : Item) (i : ℕ) (xs : List Item) → who x ≡ i → own i (x ∷ xs) ≡ x ∷ own i xs
own-mine x i xs q = rw (eq-eqb (who x) i q)

pub own-other : (x : Item) (i : ℕ) (xs : List Item) → ¬ (who x ≡ i) → own i (x ∷ xs) ≡ own i xs
own-other x i xs q = rw (ne_eqb (who x) i q)

pub snoc-mine : (x : Item) (i : ℕ) (xs : List Item) → who x ≡ i → own i (xs ++ (x ∷ [])) ≡ own i xs ++ (x ∷ [])
snoc-mine x i xs q = own-append i xs (x ∷ []) ∙ ap (λ (l : List Item). own i xs ++ l) (own-mine x i [] q)

pub snoc-other : (x : Item) (i : ℕ) (xs : List Item) → ¬ (who x ≡ i) → own i (xs ++ (x ∷ [])) ≡ own i xs
snoc-other x i xs q = own-append i xs (x ∷ []) ∙ ap (λ (l : List Item). own i xs ++ l) (own-other x i [] q) ∙ append-nil (own i xs)

-- ---- rearrangements

-- where x stands, with no item of its engine before it
record Found (x : Item) (ys : List Item) : Type 0 where
  front : List Item
  back : List Item
  whole : ys ≡ front ++ (x ∷ back)
  clear : own (who x) front ≡ []

found : (x : Item) (xs ys : List Item) → x ∷ xs ≡ own (who x) ys → Found x ys
found x xs [] e = absurd (cons≢nil e)
found x xs (y ∷ ys) e = at (eqb (who y) (who x)) refl (found x xs ys)
  where
    at : (t : Bool) → eqb (who y) (who x) ≡ t → (x ∷ xs ≡ own (who x) ys → Found x ys) → Found x (y ∷ ys)
    at true q k = let w : y ≡ x = cc (own-mine y (who x) ys (eqb-true _ _ q)) in record { front = []; back = ys; whole = rw w; clear = refl }
    at false q k =
        let n = eqb-false (who y) (who x) q in
        let f = k (e ∙ own-other y (who x) ys n) in
        record { front = y ∷ f.front; back = f.back; whole = ap (λ (l : List Item). y ∷ l) f.whole; clear = own-other y (who x) f.front n ∙ f.clear }

-- without x the others stay the same
without : (x : Item) (xs front back : List Item) → own (who x) front ≡ [] → ((i : ℕ) → own i (x ∷ xs) ≡ own i (front ++ (x ∷ back))) → (i : ℕ) → own i xs ≡ own i (front ++ back)
without x xs front back c h = each (λ i. own i xs ≡ own i (front ++ back)) (who x) mine (λ i n. other i (λ q. n (sym q)))
  where
    mine : own (who x) xs ≡ own (who x) (front ++ back)
    mine =
        let e : x ∷ own (who x) xs ≡ x ∷ own (who x) back =
        sym (own-mine x (who x) xs refl) ∙ h (who x) ∙ own-append (who x) front (x ∷ back) ∙ rw (c) (own-mine x (who x) back refl) in
        rw (own-append, c) (cc)

    other : (i : ℕ) → ¬ (who x ≡ i) → own i xs ≡ own i (front ++ back)
    other i n = sym (own-other x i xs n) ∙ h i ∙ own-append i front (x ∷ back) ∙ rw (own-other x i back n) (sym (own-append i front back))

pub rearranged : (xs ys : List Item) → ((i : ℕ) → own i xs ≡ own i ys) → Perm xs ys
rearranged [] [] h = Perm.nil
rearranged [] (y ∷ ys) h = absurd (cons≢nil (sym (own-mine y (who y) ys refl) ∙ sym (h (who y))))
rearranged (x ∷ xs) ys h =
    let f = found x (own (who x) xs) ys (sym (own-mine x (who x) xs refl) ∙ h (who x)) in
    let k = rearranged xs (f.front ++ f.back) (without x xs f.front f.back f.clear (rw f.whole at h)) in
    rw f.whole (Perm.trans (Perm.cons x k) (Perm.symm (perm_middle f.front f.back)))
