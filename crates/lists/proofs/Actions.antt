-- The actions of a list: how many, which stands at a place, and what is handed out there. Assumes nothing.
use mathlib.Core.Path.{◌≡◌, refl, sym, ap, ◌∙◌}
use mathlib.Core.Bool.{Bool, true, false}
use mathlib.Core.List.{List, [], ◌∷◌}
use Prim.Native.Nat.{ℕ, ◌+◌, ◌*◌, ◌≤◌, ◌<◌}
use native.Mathlib.Omega.{arith}
use lib.ListN.{length, get_or, take, drop, drop_of_length-le}
use lib.Dec.{ltb}
use borrow.Author.Tests.{ltb-true, ltb-false}
use lib.Seq.{drop-cons}
use Rattle.figure.specs.declared.Record.{Record}
use Rattle.figure.specs.Record.{no_record}
use Rattle.figure.specs.Refusals.{most_actions}
use Rattle.lists.specs.Record.{record_width, record_at, record_codec}
use Rattle.lists.specs.Read.{Reading, read_of, actions_of}
use Rattle.lists.specs.Walk.{handed, Took}
use Rattle.std.specs.Prelude.{Option, Some, None}
use Rattle.lists.proofs.Things.{length-things, get_or-things}
use Rattle.lists.proofs.Sized.{held}

-- the first of what is left after k, as a list
pub one_left : {A : Type 0} (xs : List A) (k : ℕ) (d : A) → k < length xs → take 1 (drop k xs) ≡ get_or xs k d ∷ []
one_left xs k d h = rw (drop-cons xs k d h)

pub none_left : {A : Type 0} (xs : List A) (k : ℕ) → length xs ≤ k → take 1 (drop k xs) ≡ []
none_left xs k h = rw (drop_of_length-le xs h)

module _ (s : List ℕ) where
  pub length-actions : length (actions_of s) ≡ (read_of s).actions
  unfolding actions_of
  length-actions = length-things record_codec s (read_of s).actions_at (read_of s).actions

  pub few-actions : length (actions_of s) ≤ most_actions
  few-actions = omega (arith, length-actions, (held s (read_of s) refl).few)

  pub get_or-actions : (k : ℕ) (d : Record) → k < (read_of s).actions → get_or (actions_of s) k d ≡ record_at s ((read_of s).actions_at + record_width * k)
  unfolding actions_of
  get_or-actions k d h = get_or-things record_codec s (read_of s).actions_at (read_of s).actions k d h

  -- the same of what `read` returned
  module _ (l : Reading) (e : l ≡ read_of s) where
    pub action-here : (k : ℕ) → k < l.actions → record_at s (l.actions_at + record_width * k) ∷ [] ≡ take 1 (drop k (actions_of s))
    action-here k h =
        let h' : k < (read_of s).actions = rw (e) at h in
        sym (one_left (actions_of s) k no_record (rw (length-actions) h') ∙ rw (get_or-actions k no_record h', e))

    pub action-past : (k : ℕ) → l.actions ≤ k → [] ≡ take 1 (drop k (actions_of s))
    action-past k h = sym (none_left (actions_of s) k (rw (length-actions, ← e) h))

-- ---- a step, by its cases
pub is-left : {A : Type 0} {x : A} (xs : List A) (k : ℕ) → x ∷ [] ≡ take 1 (drop k xs) → k < length xs
is-left {A} {x} xs k e = at (ltb k (length xs)) refl
  where
    at : (t : Bool) → ltb k (length xs) ≡ t → k < length xs
    at true h = ltb-true k (length xs) h
    at false h =
        let z : x ∷ [] ≡ [] = e ∙ none_left xs k (ltb-false k (length xs) h) in
        let n : ◌≡◌ {A = ℕ} 1 0 = ap length z in
        absurd (omega arith)

pub action-before : (s : List ℕ) (k : ℕ) {found : Option Record} {r : Record} → found ≡ Some r → handed found ≡ take 1 (drop k (actions_of s)) → k < most_actions
action-before s k e h = omega (arith, is-left (actions_of s) k (ap handed (sym e) ∙ h), few-actions s)

pub took-action : (s : List ℕ) (k : ℕ) {found : Option Record} {r : Record} → found ≡ Some r → handed found ≡ take 1 (drop k (actions_of s)) → Took s k found (k + 1)
took-action s k e h = record { found_is = h; after_is = omega (arith, ap (λ (f : Option Record). length (handed f)) e) }

pub took-none : (s : List ℕ) (k : ℕ) {found : Option Record} → found ≡ None → handed found ≡ take 1 (drop k (actions_of s)) → Took s k found k
took-none s k e h = record { found_is = h; after_is = omega (arith, ap (λ (f : Option Record). length (handed f)) e) }
