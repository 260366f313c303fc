-- Laws of `upd`, of the slots, of items in the order they happened, and of the memory that a list of items leaves. Assumes nothing.
use Prim.Native.Nat.{ℕ, zero, suc, ◌≤◌}
use native.Mathlib.Omega.{arith}
use mathlib.Core.Path.{◌≡◌, refl, sym, ap}
use mathlib.Core.Bool.{Bool, true, false}
use mathlib.Core.List.{List, [], ◌∷◌, ◌++◌, append_assoc}
use lib.Dec.{eqb}
use lib.ListN.{length, get_or}
use borrow.Author.Tests.{eqb-true, eqb-false}
-- both sides of an "and"
pub use Rattle.std.specs.Cmp.{first_so as and_left, second_so as and_right}
use Rattle.figure.specs.Figure.{upd}
use Rattle.figure.specs.Account.{Item, reading, writing, join_slot, flat}
use Rattle.figure.specs.Demand.{Serial, place, Rises}

-- ---- a fact of each number, after a change at one

-- two functions change at i
module _ {A B : Type 0} (P : ℕ → A → B → Type 0) (f : ℕ → A) (g : ℕ → B) (i : ℕ) (x : A) (y : B) where
  pub upd-each : P i x y → ((j : ℕ) → ¬ (j ≡ i) → P j (f j) (g j)) → (j : ℕ) → P j (upd f i x j) (upd g i y j)
  upd-each h o j = at (eqb j i) refl
    where
      Q : Bool → Type 0
      Q t = P j (elim t [ true ↦ x | false ↦ f j ]) (elim t [ true ↦ y | false ↦ g j ])

      at : (t : Bool) → eqb j i ≡ t → Q t
      at true e = rw (eqb-true j i e) h
      at false e = o j (eqb-false j i e)

-- one function changes at i
module _ {A : Type 0} (P : ℕ → A → Type 0) (f : ℕ → A) (i : ℕ) (x : A) where
  pub upd-one : P i x → ((j : ℕ) → ¬ (j ≡ i) → P j (f j)) → (j : ℕ) → P j (upd f i x j)
  upd-one = upd-each (λ j (y : A) (k : ℕ). P j y) f (λ j. j) i x i

pub each : (P : ℕ → Type 0) (i : ℕ) → P i → ((j : ℕ) → ¬ (j ≡ i) → P j) → (j : ℕ) → P j
each P i = upd-one (λ j (k : ℕ). P j) (λ j. j) i i

-- ---- slots

pub flat_append : (ss ts : List (List Item)) → flat (ss ++ ts) ≡ flat ss ++ flat ts
flat_append [] ts = refl
flat_append (s ∷ ss) ts = rw (flat_append ss ts) (sym (append_assoc s (flat ss) (flat ts)))

pub length-put : (x : Item) (k : ℕ) (ss : List (List Item)) → length (join_slot k x ss) ≡ length ss
length-put x k [] = refl
length-put x zero (s ∷ ss) = refl
length-put x (suc k) (s ∷ ss) = ap suc (length-put x k ss)

-- ---- items in the order they happened: their places rise

pub rises-lower : (low lo hi : ℕ) (xs : List Item) → low ≤ lo → Rises lo hi xs → Rises low hi xs
rises-lower low lo hi [] l h = omega arith
rises-lower low lo hi (x ∷ xs) l h = (omega arith, h.1)

pub rises-higher : (lo hi high : ℕ) (xs : List Item) → hi ≤ high → Rises lo hi xs → Rises lo high xs
rises-higher lo hi high [] l h = omega arith
rises-higher lo hi high (x ∷ xs) l h = (h.0, rises-higher (suc (place x)) hi high xs l h.1)

pub rises-between : (lo hi : ℕ) (xs : List Item) → Rises lo hi xs → lo ≤ hi
rises-between lo hi [] h = h
rises-between lo hi (x ∷ xs) h = omega (arith, rises-between (suc (place x)) hi xs h.1)

-- what happens now comes last
pub rises-snoc : (lo t : ℕ) (xs : List Item) (x : Item) → place x ≡ t → Rises lo t xs → Rises lo (suc t) (xs ++ (x ∷ []))
rises-snoc lo t [] x e h = (omega arith, omega arith)
rises-snoc lo t (y ∷ xs) x e h = (h.0, rises-snoc (suc (place y)) t xs x e h.1)

-- within every slot
abbrev pub SlotsRise : ℕ → List (List Item) → Type 0
SlotsRise t ss = (k : ℕ) → Rises 0 t (get_or ss k [])

pub slots-higher : (t : ℕ) (ss : List (List Item)) → SlotsRise t ss → SlotsRise (suc t) ss
slots-higher t ss h k = rises-higher 0 t (suc t) (get_or ss k []) (omega arith) (h k)

-- an item joins a slot when it happens
pub slots-put : (t k : ℕ) (x : Item) (ss : List (List Item)) → place x ≡ t → SlotsRise t ss → SlotsRise (suc t) (join_slot k x ss)
slots-put t k x [] e h j = omega arith
slots-put t zero x (s ∷ ss) e h zero = rises-snoc 0 t s x e (h 0)
slots-put t zero x (s ∷ ss) e h (suc j) = slots-higher t ss (λ k. h (suc k)) j
slots-put t (suc k) x (s ∷ ss) e h zero = slots-higher t (s ∷ ss) h 0
slots-put t (suc k) x (s ∷ ss) e h (suc j) = slots-put t k x ss e (λ k. h (suc k)) j

-- a write opens a slot after it happened
pub slots-open : (t : ℕ) (x : Item) (ss : List (List Item)) → suc (place x) ≤ t → SlotsRise t ss → SlotsRise t (ss ++ ((x ∷ []) ∷ []))
slots-open t x [] e h zero = (omega arith, e)
slots-open t x [] e h (suc k) = omega arith
slots-open t x (s ∷ ss) e h zero = h 0
slots-open t x (s ∷ ss) e h (suc k) = slots-open t x ss e (λ k. h (suc k)) k

-- ---- the memory that items leave

abbrev pub leave : (ℕ → ℕ) → List Item → ℕ → ℕ
leave m [] = m
leave m (reading t i a d ∷ xs) = leave m xs
leave m (writing t i a d ∷ xs) = leave (upd m a d) xs

pub leave-append : (m : ℕ → ℕ) (xs ys : List Item) → leave m (xs ++ ys) ≡ leave (leave m xs) ys
leave-append m [] ys = refl
leave-append m (reading t i a d ∷ xs) ys = leave-append m xs ys
leave-append m (writing t i a d ∷ xs) ys = leave-append (upd m a d) xs ys

pub serial-join : (m : ℕ → ℕ) (xs ys : List Item) → Serial m xs → Serial (leave m xs) ys → Serial m (xs ++ ys)
serial-join m [] ys p q = q
serial-join m (reading t i a d ∷ xs) ys p q = (p.0, serial-join m xs ys p.1 q)
serial-join m (writing t i a d ∷ xs) ys p q = serial-join (upd m a d) xs ys p q

pub serial-split : (m : ℕ → ℕ) (xs ys : List Item) → Serial m (xs ++ ys) → Serial m xs × Serial (leave m xs) ys
serial-split m [] ys p = (tt, p)
serial-split m (reading t i a d ∷ xs) ys p = let r = serial-split m xs ys p.1 in ((p.0, r.0), r.1)
serial-split m (writing t i a d ∷ xs) ys p = serial-split (upd m a d) xs ys p
