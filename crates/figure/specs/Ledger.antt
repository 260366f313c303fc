-- The ledger as a struct, and what a trace record makes of it. Assumes nothing.
use Rattle.std.specs.Prelude.{Bool, not, ◌&&◌, List, [], ◌∷◌, ◌≡◌, ℕ, suc, pred, ◌≤◌, eqb, ltb, length, get_or, set, replicate}
use Rattle.figure.specs.Account as account
use Rattle.figure.specs.Refusals.{pick, outside, most_engines}
use Rattle.figure.specs.declared.Engine.{Engine}
use Rattle.figure.specs.declared.Record.{Record}
use Rattle.figure.specs.declared.WriteNumber.{WriteNumber}
use Rattle.figure.specs.declared.ledger.Ledger.{Ledger}

abbrev pub wn : ℕ → WriteNumber
wn k = record { 0 = k }

-- the highest number that a write can have: the next, FFFFFFFF, says that one has none
abbrev pub most_writes : ℕ
most_writes = 4294967294

-- a number that has reached the highest stays
abbrev pub one_more : ℕ → ℕ
one_more n = pick (ltb n most_writes) (suc n) n

-- no write is published, and none is taken
abbrev pub none_entered : Ledger
none_entered = record { published = wn 0; taken = replicate most_engines (wn 0); own = replicate most_engines (wn 0) }

-- how many engine i has taken
abbrev pub taken_at : Ledger → ℕ → ℕ
taken_at l i = (get_or l.taken (pred i) (wn 0)).0

-- an engine of some store; the event is a publication; it is a write that an engine takes
abbrev pub is_engine : Engine → Bool
is_engine i = not (outside 1 most_engines i.0)

abbrev pub is_publication : Record → Bool
is_publication e = eqb e.kind 3

abbrev pub is_taking : Record → Bool
is_taking e = eqb e.kind 5 && not (eqb e.origin.0 0)

-- the number of engine i becomes w; of no engine, none does
abbrev pub renumbered : List WriteNumber → Engine → WriteNumber → List WriteNumber
renumbered ws i w = pick (is_engine i) (set ws (pred i.0) w) ws

-- engine i publishes a write; it takes one
abbrev pub published_by : Ledger → Engine → Ledger
published_by l i =
    let n = wn (one_more l.published.0) in
    record { published = n; taken = l.taken; own = renumbered l.own i n }

abbrev pub taken_by : Ledger → Engine → Ledger
taken_by l i = record { published = l.published; taken = renumbered l.taken i (wn (one_more (taken_at l i.0))); own = l.own }

abbrev pub entered : Ledger → Record → Ledger
entered l e = pick (is_publication e) (published_by l e.engine) (pick (is_taking e) (taken_by l e.engine) l)

abbrev pub entered_all : List Record → Ledger → Ledger
entered_all [] l = l
entered_all (e ∷ es) l = entered_all es (entered l e)

-- no number of the ledger is above n
pub record Small (n : ℕ) (l : Ledger) : Type 0 where
  pub published : l.published.0 ≤ n
  pub taken : (k : ℕ) → (get_or l.taken k (wn 0)).0 ≤ n
  pub own : (k : ℕ) → (get_or l.own k (wn 0)).0 ≤ n

-- the numbers of the engines 1 to 8 stand in a list, and those of a ledger in the struct
pub record Filed (ws : List WriteNumber) (f : ℕ → ℕ) : Type 0 where
  pub long : length ws ≡ most_engines
  pub each : (i : ℕ) → 1 ≤ i → i ≤ most_engines → (get_or ws (pred i) (wn 0)).0 ≡ f i

pub record Mirrors (l : Ledger) (g : account.Ledger) : Type 0 where
  pub published : l.published.0 ≡ g.published
  pub taken : Filed l.taken g.taken
  pub own : Filed l.own g.own
