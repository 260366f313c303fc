-- The walker: "hands out one action after another, then says that none is left, its place unchanged; over bytes the reader refuses it has none." Assumes nothing.
use Rattle.std.specs.Prelude.{◌≡◌, Option, Some, None, List, [], ◌∷◌, ℕ, ◌+◌, length, take, drop}
use Rattle.figure.specs.declared.Record.{Record}
use Rattle.lists.specs.Read.{actions_of}
use Rattle.lists.specs.declared.walker.Walker.{Walker}

-- what each case hands out: one action, or none, since none is left
abbrev pub handed : Option Record → List Record
handed (Some r) = r ∷ []
handed None = []

-- a step at a place ("the number of actions passed; at or above their number none is left"): the first action not passed is handed out, and the place counts it
pub record Took (s : List ℕ) (place : ℕ) (found : Option Record) (after : ℕ) : Type 0 where
  pub found_is : handed found ≡ take 1 (drop place (actions_of s))
  pub after_is : after ≡ place + length (handed found)

-- a step of a walker: over the same bytes
pub record WalkerTook (w : Walker) (found : Option Record) (w' : Walker) : Type 0 where
  pub list_is : w'.list ≡ w.list
  pub took : Took w.list.now w.place found w'.place

-- calls of `next`, one after another, with what each found
pub data Calls : Walker → List (Option Record) → Walker → Type 0 where
  none : {w : Walker} → Calls w [] w
  more : {w w' e : Walker} {found : Option Record} {fs : List (Option Record)} → WalkerTook w found w' → Calls w' fs e → Calls w (found ∷ fs) e

-- the actions that a walker has not passed
abbrev pub ahead : Walker → List Record
ahead w = drop w.place (actions_of w.list.now)

-- "at or above their number none is left .. its place unchanged"
pub record NoneLeft (w : Walker) (found : Option Record) (w' : Walker) : Type 0 where
  pub found_is : found ≡ None
  pub place_is : w'.place ≡ w.place
