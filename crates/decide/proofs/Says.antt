-- Laws of an answer after a refusal and after none. Assumes nothing.
use mathlib.Core.Path.{◌≡◌, refl, sym, ◌∙◌}
use mathlib.Core.Bool.{Bool, true, false, not}
use mathlib.Core.List.{List, ◌∷◌, ◌++◌}
use Prim.Native.Nat.{ℕ, zero, suc}
use Rattle.figure.specs.Kind.{code_of}
use Rattle.figure.specs.Refusals.{Refusal, ◌when◌, first_of}
use Rattle.figure.specs.declared.Record.{Record}
use Rattle.figure.specs.declared.Sizes.{Sizes}
use Rattle.figure.specs.declared.kind.Kind.{Kind}
use Rattle.figure.specs.declared.kind.Kind.TheVariants.{Read, Write, Publish, Refresh, Update, Forget}
use Rattle.figure.proofs.First.{first-front, first-append}
use Rattle.shape.specs.Step.{form_refused, action_of}
use Rattle.shape.proofs.Taken.{form-numbered}
use Rattle.decide.specs.Move.{Turned, refusing, decided, step_of, look_refused, turned, move_of}
use Rattle.decide.specs.declared.Look.{Look}

-- a refusal in front that applies, and one that does not
pub first-hit : (n : ℕ) (rs : List Refusal) {b : Bool} → b ≡ true → first_of (n when b ∷ rs) ≡ n
first-hit n rs e = rw (e)

pub first-miss : (n : ℕ) (rs : List Refusal) {b : Bool} → b ≡ false → first_of (n when b ∷ rs) ≡ first_of rs
first-miss n rs e = rw (e)

decided-no : (n : ℕ) (m : Turned) → ¬ (n ≡ 0) → refusing n ≡ decided n m
decided-no zero m h = absurd (h refl)
decided-no (suc n) m h = refl

pub unsound-move : (z : Sizes) (x : Record) (l : Look) → not l.sound ≡ true → refusing 17 ≡ move_of z x l
unfolding move_of
unsound-move z x l h = rw (first-hit 17 (form_refused z x ++ look_refused z l (action_of x)) h)

-- the step of a kind is the one that its number asks for
asks-step : (k : Kind) (x : Record) → code_of k ≡ x.kind → action_of x ≡ step_of k x
asks-step Read x e = rw (← (e))
asks-step Write x e = rw (← (e))
asks-step Publish x e = rw (← (e))
asks-step Refresh x e = rw (← (e))
asks-step Update x e = rw (← (e))
asks-step Forget x e = rw (← (e))

-- n is the refusal of the record alone
module _ (z : Sizes) (x : Record) (l : Look) (h : not l.sound ≡ false) {n : ℕ} (e : n ≡ first_of (form_refused z x)) where
  abbrev rest : List Refusal
  rest = look_refused z l (action_of x)

  pub badly-formed : ¬ (n ≡ 0) → refusing n ≡ move_of z x l
  unfolding move_of
  badly-formed o = rw (first-miss 17 (form_refused z x ++ rest) h, first-front (form_refused z x) rest (λ p. o (e ∙ p)), ← (e)) (decided-no n _ o)

  pub well-formed : n ≡ 0 → (k : Kind) → code_of k ≡ x.kind → turned z x l (step_of k x) ≡ move_of z x l
  unfolding move_of
  well-formed o k a = rw (first-miss 17 (form_refused z x ++ rest) h, ← (asks-step k x a), first-append (form_refused z x) rest (sym e ∙ o) (form-numbered z x))
