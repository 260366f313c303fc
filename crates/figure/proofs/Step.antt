-- A step has exactly one outcome, and a refused one changes nothing. Assumes nothing.
use mathlib.Core.Path.{◌≡◌, refl}
use mathlib.Core.Bool.{Bool, true, false}
use mathlib.Core.List.{List, ◌∷◌}
use Rattle.figure.specs.declared.Sizes.{Sizes}
use Rattle.figure.specs.Refusals.{pick}
use Rattle.figure.specs.Figure.{State, Step, accepted, next, step}
use Rattle.figure.specs.Account.{Event, refused, event, happened, trace}

-- what may come of a step: the next state and the event where it is accepted, the state it was given and no event where it is refused
pub data Outcome (z : Sizes) (s : State) (x : Step) : State → Event → Type 0 where
  taken : {r : State} {e : Event} → accepted z s x ≡ true → r ≡ next s x → e ≡ event s x → Outcome z s x r e
  left : {r : State} {e : Event} → accepted z s x ≡ false → r ≡ s → e ≡ refused → Outcome z s x r e

pub step-accepted : (z : Sizes) (s : State) (x : Step) → accepted z s x ≡ true → step z s x ≡ next s x
step-accepted z s x y = rw (y)

pub step-refused : (z : Sizes) (s : State) (x : Step) → accepted z s x ≡ false → step z s x ≡ s
step-refused z s x y = rw (y)

pub trace-accepted : (z : Sizes) (s : State) (x : Step) (xs : List Step) → accepted z s x ≡ true → trace z s (x ∷ xs) ≡ event s x ∷ trace z (next s x) xs
trace-accepted z s x xs y = rw (y)

pub trace-refused : (z : Sizes) (s : State) (x : Step) (xs : List Step) → accepted z s x ≡ false → trace z s (x ∷ xs) ≡ refused ∷ trace z s xs
trace-refused z s x xs y = rw (y)

pub total : (z : Sizes) (s : State) (x : Step) → Outcome z s x (step z s x) (happened z s x)
total z s x = at (accepted z s x) refl
  where
    at : (t : Bool) → accepted z s x ≡ t → Outcome z s x (pick t (next s x) s) (pick t (event s x) refused)
    at true y = taken y refl refl
    at false y = left y refl refl

pub only : (z : Sizes) (s : State) (x : Step) {r : State} {e : Event} → Outcome z s x r e → (r ≡ step z s x) × (e ≡ happened z s x)
only z s x (taken y p q) = rw (y) (p, q)
only z s x (left y p q) = rw (y) (p, q)
