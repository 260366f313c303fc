-- What the functions over a lent store answer: contracts cite it; no promise does. Assumes nothing.
use Rattle.std.specs.Prelude.{true, ◌≡◌, ℕ, pred, ◌≤◌, ◌<◌}
use Rattle.figure.specs.Refusals.{first_of, most_engines, most_addresses}
use Rattle.figure.specs.declared.Record.{Record}
use Rattle.shape.specs.Sound.{sound_of}
use Rattle.shape.specs.Step.{form_refused}
use Rattle.shape.specs.declared.Store.{Store}
use Rattle.decide.specs.Effect.{Seen}
use Rattle.decide.specs.Move.{move_of}
use Rattle.decide.specs.declared.Look.{Look}
use Rattle.decide.specs.Turned.{Turned}

-- a place of the arrays; that of engine i where there is such an engine
pub record PlaceIn (i r : ℕ) : Type 0 where
  pub within : r < most_engines
  pub exact : i ≤ most_engines → r ≡ pred i

-- a word's place; that of address a where there is such an address
pub record WordIn (a r : ℕ) : Type 0 where
  pub within : r < most_addresses
  pub exact : a < most_addresses → r ≡ a

-- whether the store is sound, and what a well-formed action sees of a sound one
pub record Looked (s : Store) (x : Record) (l : Look) : Type 0 where
  pub sound : l.sound ≡ sound_of s
  pub seen : sound_of s ≡ true → first_of (form_refused s.sizes x) ≡ 0 → Seen s x (pred x.engine.0) l

-- a move that was decided by what the action sees of the store
pub record Decided (s : Store) (x : Record) (m : Turned) : Type 0 where
  pub look : Look
  pub sound : look.sound ≡ sound_of s
  pub seen : sound_of s ≡ true → first_of (form_refused s.sizes x) ≡ 0 → Seen s x (pred x.engine.0) look
  pub is : m ≡ move_of s.sizes x look
