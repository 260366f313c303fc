-- The number of an answer: "The first that applies, in the table's order, is the answer; 0 if none does." Assumes nothing.
use mathlib.Core.Path.{◌≡◌, refl, sym, ◌∙◌}
use mathlib.Core.Bool.{Bool, true, false}
use mathlib.Core.List.{List, [], ◌++◌}
use Prim.Native.Nat.{ℕ, zero, suc}
use native.Mathlib.Omega.{arith}
use lib.Dec.{eqb}
use borrow.Author.Tests.{eqb-true, eqb-false}
use Rattle.figure.specs.Refusals.{first_of}
use Rattle.figure.specs.declared.Record.{Record}
use Rattle.figure.specs.declared.Sizes.{Sizes}
use Rattle.figure.proofs.First.{first-append, first-front}
use Rattle.shape.proofs.Kept.{fresh-short, fresh_sound, zeros_unsound}
use Rattle.shape.proofs.Shaped.{fresh-shaped}
use Rattle.shape.specs.Shaped.{Shaped}
use Rattle.shape.proofs.Taken.{form-numbered}
use Rattle.shape.specs.Fresh.{fresh_of, zeros, fresh_refused, made, made_as}
use Rattle.shape.specs.Sound.{sound_of}
use Rattle.shape.specs.Step.{form_refused, turn_refused, step_refused, answered, stepped, action_of}
use Rattle.shape.specs.declared.Store.{Store}

-- ---- the step

answered-number : (n : ℕ) (s : Store) (x : Record) → (answered n s x).number ≡ n
answered-number zero s x = refl
answered-number (suc n) s x = refl

module _ (s : Store) (x : Record) where
  pub step-number : (stepped s x).number ≡ first_of (step_refused s x)
  unfolding stepped
  step-number = answered-number (first_of (step_refused s x)) s x

  -- 17 of an unsound state; of a sound one 11 to 14, then 21 to 28
  pub unsound-number : sound_of s ≡ false → (stepped s x).number ≡ 17
  unfolding step_refused
  unsound-number h = step-number ∙ rw (h)

  rest-number : sound_of s ≡ true → (stepped s x).number ≡ first_of (form_refused s.sizes x ++ turn_refused s (action_of x))
  unfolding step_refused
  rest-number h = step-number ∙ rw (h)

  pub form-number : sound_of s ≡ true → ¬ (first_of (form_refused s.sizes x) ≡ 0) → (stepped s x).number ≡ first_of (form_refused s.sizes x)
  form-number h n = rest-number h ∙ first-front (form_refused s.sizes x) (turn_refused s (action_of x)) n

  pub turn-number : sound_of s ≡ true → first_of (form_refused s.sizes x) ≡ 0 → (stepped s x).number ≡ first_of (turn_refused s (action_of x))
  turn-number h e = rest-number h ∙ first-append (form_refused s.sizes x) (turn_refused s (action_of x)) e (form-numbered s.sizes x)

-- ---- the fresh store

module _ (z : Sizes) (table : List ℕ) where
  -- "A refused fresh store comes back as a state of zeros"
  made-cases : (n : ℕ) → ((made_as n z table).number ≡ n) × (n ≡ 0 → (made_as n z table).store ≡ fresh_of z table) × (¬ (n ≡ 0) → (made_as n z table).store ≡ zeros)
  made-cases zero = (refl, λ e. refl, λ e. absurd (e refl))
  made-cases (suc n) = (refl, λ e. absurd (omega arith), λ e. refl)

  pub made-number : (made z table).number ≡ first_of (fresh_refused z table)
  unfolding made
  made-number = (made-cases (first_of (fresh_refused z table))).0

  pub made-store : (made z table).number ≡ 0 → (made z table).store ≡ fresh_of z table
  unfolding made
  made-store e = (made-cases (first_of (fresh_refused z table))).1 (sym made-number ∙ e)

  pub made-zeros : ¬ ((made z table).number ≡ 0) → (made z table).store ≡ zeros
  unfolding made
  made-zeros n = (made-cases (first_of (fresh_refused z table))).2 (λ e. n (made-number ∙ e))

  -- a fresh store that is not refused is sound, and a refused one unsound; both have the arrays' lengths
  pub made-sound : (made z table).number ≡ 0 → sound_of (made z table).store ≡ true
  made-sound e = rw (made-store e) (fresh_sound z table (sym made-number ∙ e))

  pub made-unsound : ¬ ((made z table).number ≡ 0) → sound_of (made z table).store ≡ false
  made-unsound n = rw (made-zeros n) zeros_unsound

  pub made_shaped : Shaped (made z table).store
  made_shaped = at (eqb (made z table).number 0) refl
    where
      at : (t : Bool) → eqb (made z table).number 0 ≡ t → Shaped (made z table).store
      at true e =
          let f : first_of (fresh_refused z table) ≡ 0 = sym made-number ∙ eqb-true _ 0 e in
          rw (made-store (eqb-true _ 0 e)) (fresh-shaped z table (fresh-short z table f))
      at false e = rw (made-zeros (eqb-false _ 0 e)) (fresh-shaped _ [] (omega arith))
