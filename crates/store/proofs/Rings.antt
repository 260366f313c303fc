-- A queue in a ring of 32 places, at any type of entry: the list of its entries, after one joins and after the oldest leaves. Assumes nothing.
use Rattle.std.proofs.Common.{◌≡◌, ℕ, ◌+◌, ◌-◌, ◌%◌, ◌<◌, ◌≤◌, ◌⊎◌, List, [], ◌∷◌, ◌++◌, length, get_or, set, ap, sym, ◌∙◌, ap₂, inl, inr, mod-eq_of_lt, arith, length-append, length-drop, length-set, length-take-le, get_or-drop, get_or-take}
use mathlib.Core.List.{tail}
use native.Mathlib.Nat.{mod-eq-sub-mod, mod-add-mod}
use Rattle.std.proofs.lemmas.List.{same_lists, drop_more, get_or_append_left, get_or-append_right}
use Rattle.std.proofs.lemmas.Bool.{cases_lt}
use Rattle.std.proofs.lemmas.Grind.{common_steps}
use Rattle.store.specs.Pieces.{window}

-- a place below 64 goes around at most once
around_once : (j : ℕ) → j < 64 → ((j < 32) × (j % 32 ≡ j)) ⊎ ((32 ≤ j) × (j % 32 ≡ j - 32))
around_once j below = elim (cases_lt j 32) [
  | inl low ↦ inl (low, mod-eq_of_lt low)
  | inr high ↦ inr (high, mod-eq-sub-mod high ∙ mod-eq_of_lt (omega arith))
]

module _ {A : Type 0} (k n : ℕ) (xs : List A) (start : k < 32) (fits : n ≤ 32) (long : length xs ≡ 32) where
  -- as many entries as the ring says
  pub length-window : length (window k n xs) ≡ n
  length-window = length-take-le n _ (simp (length-append, length-drop) (omega (arith, length-take-le k xs (omega arith))))

  -- entry i stands at place (k + i) % 32
  get_or-window : (i : ℕ) (d : A) → i < n → get_or (window k n xs) i d ≡ get_or xs ((k + i) % 32) d
  get_or-window i d within =
      let length_tail = length-drop k xs in
      get_or-take n _ i d within ∙ elim (around_once (k + i) (omega arith)) [
        | inl straight ↦ get_or_append_left _ _ d i (omega arith) ∙ get_or-drop k xs i d ∙ ap (λ j. get_or xs j d) (omega arith)
        | inr around ↦ get_or-append_right _ _ (32 - k) i d (omega arith) (omega arith) ∙ get_or-take k xs _ d (omega arith) ∙ ap (λ j. get_or xs j d) (omega arith)
      ]

module _ {A : Type 0} (k n : ℕ) (xs : List A) (start : k < 32) (fits : n ≤ 32) (long : length xs ≡ 32) where
  pub window-joined : (x : A) → n < 32 → window k (n + 1) (set xs ((k + n) % 32) x) ≡ window k n xs ++ x ∷ []
  window-joined x room =
      let ys = set xs ((k + n) % 32) x in
      let length_ys = length-set xs ((k + n) % 32) x ∙ long in
      let length_old = length-window k n xs start fits long in
      let length_new = length-window k (n + 1) ys start (omega arith) length_ys in
      let written = around_once (k + n) (omega arith) in
      same_lists _ _ (grind (arith, common_steps)) (λ i d within. grind (
        arith,
        common_steps,
        around_once (k + i) (omega arith),
        get_or-window k n xs start fits long i d,
        get_or-window k (n + 1) ys start (omega arith) length_ys i d,
      ))

  -- the oldest, and then those from the next place on
  window-first : (e : A) → 0 < n → window k n xs ≡ get_or xs k e ∷ window ((k + 1) % 32) (n - 1) xs
  window-first e some =
      let next : (k + 1) % 32 < 32 = grind (arith, around_once (k + 1) (omega arith)) in
      let length_old = length-window k n xs start fits long in
      let length_new = length-window ((k + 1) % 32) (n - 1) xs next (omega arith) long in
      let old_item = get_or-window k n xs start fits long in
      drop_more _ 0 e (omega arith) ∙ ap₂ ◌∷◌ (grind (arith, old_item 0 e, around_once k)) (same_lists _ _ (simp length-drop (omega arith)) (λ i d within. grind (
        arith,
        length-drop 1 (window k n xs),
        get_or-drop 1 (window k n xs) i d,
        mod-add-mod (k + 1) 32 i,
        old_item (1 + i) d,
        get_or-window _ (n - 1) xs next (omega arith) long i d,
      )))

pub window-left : {A : Type 0} (k n : ℕ) (xs : List A) → k < 32 → n ≤ 32 → length xs ≡ 32 → 0 < n → window ((k + 1) % 32) (n - 1) xs ≡ tail (window k n xs)
window-left k n [] start fits long some = absurd (omega arith)
window-left k n (x ∷ l) start fits long some = sym (ap tail (window-first k n (x ∷ l) start fits long x some))
