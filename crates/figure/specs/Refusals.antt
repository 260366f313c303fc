-- Refusals in order, and the sizes. Assumes nothing.
use Rattle.std.specs.Prelude.{ℕ, zero, suc, Bool, true, false, not, ◌&&◌, ◌||◌, ◌≡◌, List, [], ◌∷◌, eqb, ltb}
use Rattle.figure.specs.declared.Sizes.{Sizes}

-- a number, and whether what it stands for applies
pub record Refusal : Type 0 where
  pub number : ℕ
  pub applies : Bool

abbrev pub ◌when◌ : ℕ → Bool → Refusal
n when b = record { number = n; applies = b }

infix 68 ◌when◌
-- a where the test holds, and else b
abbrev pub pick : {A : Type 0} → Bool → A → A → A
pick true a b = a
pick false a b = b

-- "The first that applies, in the table's order, is the answer; 0 if none does."
abbrev pub first_of : List Refusal → ℕ
first_of [] = 0
first_of (r ∷ rs) = pick r.applies r.number (first_of rs)

-- "0 if none does"
abbrev pub NoneApplies : List Refusal → Type 0
NoneApplies [] = Unit {0}
NoneApplies (r ∷ rs) = (r.applies ≡ false) × NoneApplies rs

-- "Numbers are not used again." (request [10]): 31 was the run's, "the account it built is not serial"
abbrev pub retired : ℕ → Bool
retired n = eqb n 31

-- no refusal has the number 0, which says that none applies, or one that is retired
abbrev pub numbered : List Refusal → Bool
numbered [] = true
numbered (r ∷ rs) = not (eqb r.number 0) && (not (retired r.number) && numbered rs)

-- a where nothing is refused, and else b
unfoldable pub unless : {A : Type 0} → ℕ → A → A → A
unless zero a b = a
unless (suc n) a b = b

-- below lo or above hi
abbrev pub outside : ℕ → ℕ → ℕ → Bool
outside lo hi x = ltb x lo || ltb hi x

-- document 01, Sizes: engines 1 to 8, addresses 1 to 64, depth of every queue 1 to 32, a list of 0 to 2,048 actions
abbrev pub most_engines : ℕ
most_engines = 8

abbrev pub most_addresses : ℕ
most_addresses = 64

abbrev pub most_depth : ℕ
most_depth = 32

abbrev pub most_actions : ℕ
most_actions = 2048

-- the refusals that reader, writer and fresh store share
unfoldable pub sizes_refused : Sizes → List Refusal
sizes_refused z =
    4 when outside 1 most_engines z.engines
    ∷ 5 when outside 1 most_addresses z.addresses
    ∷ 6 when outside 1 most_depth z.depth
    ∷ []
