-- Which refusal is the first that applies: the one at place k, where those before it do not apply and it does; none, where none does. Assumes nothing.
use mathlib.Core.Path.{◌≡◌, refl, ap, ◌∙◌}
use mathlib.Core.Bool.{Bool, true, false, not}
use mathlib.Core.List.{List, [], ◌∷◌, ◌++◌}
use Prim.Native.Nat.{ℕ, zero, suc}
use lib.Dec.{eqb}
use borrow.Author.Tests.{eq-eqb, ne_eqb, eqb-false, not-true}
use Rattle.figure.specs.Refusals.{Refusal, pick, first_of, NoneApplies, retired, numbered, sizes_refused}
use Rattle.figure.specs.declared.Sizes.{Sizes}
use Rattle.figure.proofs.Laws.{and_left, and_right}

-- the first k refusals do not apply; the test of the refusal at place k, and its number
abbrev pub Passed : ℕ → List Refusal → Type 0
Passed zero rs = Unit {0}
Passed (suc k) [] = Unit {0}
Passed (suc k) (r ∷ rs) = (r.applies ≡ false) × Passed k rs

abbrev pub test_at : ℕ → List Refusal → Bool
test_at k [] = true
test_at zero (r ∷ rs) = r.applies
test_at (suc k) (r ∷ rs) = test_at k rs

abbrev pub refusal_at : ℕ → List Refusal → ℕ
refusal_at k [] = 0
refusal_at zero (r ∷ rs) = r.number
refusal_at (suc k) (r ∷ rs) = refusal_at k rs

pub passed-more : (k : ℕ) (rs : List Refusal) → Passed k rs → test_at k rs ≡ false → Passed (suc k) rs
passed-more k [] h e = tt
passed-more zero (r ∷ rs) h e = (e, tt)
passed-more (suc k) (r ∷ rs) h e = (h.0, passed-more k rs h.1 e)

pub first-at : (k : ℕ) (rs : List Refusal) → Passed k rs → test_at k rs ≡ true → first_of rs ≡ refusal_at k rs
first-at k [] h e = refl
first-at zero (r ∷ rs) h e = ap (λ (b : Bool). pick b r.number (first_of rs)) e
first-at (suc k) (r ∷ rs) h e = ap (λ (b : Bool). pick b r.number (first_of rs)) h.0 ∙ first-at k rs h.1 e

-- ---- 0 exactly if none applies

pub first-none : (rs : List Refusal) → NoneApplies rs → first_of rs ≡ 0
first-none [] h = refl
first-none (r ∷ rs) h = rw h.0 (first-none rs h.1)

-- the first of a list of refusals with their numbers has one, and so have the others
not-zero : (r : Refusal) (rs : List Refusal) → numbered (r ∷ rs) ≡ true → ¬ (r.number ≡ 0)
not-zero r rs n = eqb-false r.number 0 (not-true _ (and_left (not (eqb r.number 0)) _ n))

rest-numbered : (r : Refusal) (rs : List Refusal) → numbered (r ∷ rs) ≡ true → numbered rs ≡ true
rest-numbered r rs n = and_right (not (retired r.number)) _ (and_right (not (eqb r.number 0)) _ n)

pub none_first : (rs : List Refusal) → numbered rs ≡ true → first_of rs ≡ 0 → NoneApplies rs
none_first [] n h = tt
none_first (r ∷ rs) n h = at r.applies refl h (none_first rs (rest-numbered r rs n))
  where
    at : (t : Bool) → r.applies ≡ t → pick t r.number (first_of rs) ≡ 0 → (first_of rs ≡ 0 → NoneApplies rs) → (r.applies ≡ false) × NoneApplies rs
    at true e h k = absurd (not-zero r rs n h)
    at false e h k = (e, k h)

pub sizes-numbered : (z : Sizes) → numbered (sizes_refused z) ≡ true
unfolding sizes_refused
sizes-numbered z = refl

-- ---- two lists of refusals, one after the other

pub none-append : (rs qs : List Refusal) → NoneApplies rs → NoneApplies qs → NoneApplies (rs ++ qs)
none-append [] qs h k = k
none-append (r ∷ rs) qs h k = (h.0, none-append rs qs h.1 k)

pub none-split : (rs qs : List Refusal) → NoneApplies (rs ++ qs) → NoneApplies rs × NoneApplies qs
none-split [] qs h = (tt, h)
none-split (r ∷ rs) qs h =
    let k = none-split rs qs h.1 in
    ((h.0, k.0), k.1)

pub first-append : (rs qs : List Refusal) → first_of rs ≡ 0 → numbered rs ≡ true → first_of (rs ++ qs) ≡ first_of qs
first-append [] qs h n = refl
first-append (r ∷ rs) qs h n =
    let k : NoneApplies (r ∷ rs) = none_first (r ∷ rs) n h in
    rw k.0 (first-append rs qs (first-none rs k.1) (rest-numbered r rs n))

pub first-front : (rs qs : List Refusal) → ¬ (first_of rs ≡ 0) → first_of (rs ++ qs) ≡ first_of rs
first-front [] qs h = absurd (h refl)
first-front (r ∷ rs) qs h = at r.applies h (first-front rs qs)
  where
    at : (t : Bool) → ¬ (pick t r.number (first_of rs) ≡ 0) → (¬ (first_of rs ≡ 0) → first_of (rs ++ qs) ≡ first_of rs) → pick t r.number (first_of (rs ++ qs)) ≡ pick t r.number (first_of rs)
    at true h k = refl
    at false h k = k h

-- ---- the tests `a ≠ b`

pub same_not : (a b : ℕ) → a ≡ b → not (eqb a b) ≡ false
same_not a b e = ap not (eq-eqb a b e)

pub other-not : (a b : ℕ) → ¬ (a ≡ b) → not (eqb a b) ≡ true
other-not a b e = ap not (ne_eqb a b e)
