-- Many steps, one after another, and the trace they leave. Assumes nothing.
use Rattle.std.specs.Prelude.{◌≡◌, List, [], ◌∷◌, ◌++◌, ℕ, zero, suc, min, ◌*◌, ◌/◌, length}
use Rattle.figure.specs.declared.Record.{Record}
use Rattle.figure.specs.declared.Sizes.{Sizes}
use Rattle.figure.specs.Refusals.{first_of, unless}
use Rattle.lists.specs.Bytes.{laid, rows}
use Rattle.lists.specs.Record.{record_width, record_at, record_bytes}
use Rattle.shape.specs.Fresh.{fresh_of, fresh_refused}
use Rattle.shape.specs.Step.{stepped}
use Rattle.shape.specs.Trace.{traced}
use Rattle.shape.specs.declared.Store.{Store}

-- action k of a list's bytes
abbrev pub action_at : List ℕ → ℕ → Record
action_at bytes k = record_at bytes (record_width * k)

-- x k is action k, s the store before action 0
module _ (s : Store) (x : ℕ → Record) where
  -- the store that the first k actions leave
  unfoldable pub store_after : ℕ → Store
  store_after zero = s
  store_after (suc k) = (stepped (store_after k) (x k)).store

  -- the trace of the first k actions
  unfoldable pub trace_after : ℕ → List Record
  trace_after zero = []
  trace_after (suc k) = trace_after k ++ (traced (stepped (store_after k) (x k)) ∷ [])

abbrev pub bytes_of : List Record → List ℕ
bytes_of rs = rows record_bytes rs

-- how many actions are taken: as many as there are, and as the trace has room for
abbrev pub turns_of : List ℕ → List ℕ → ℕ
turns_of actions trace = min (length actions / record_width) (length trace / record_width)

-- what many steps from a fresh store answer, and leave in the lent buffer: the trace over its front, nothing where there is no such store; "Bytes past what is written stay."
pub record FreshTurned (z : Sizes) (table actions trace : List ℕ) (r : ℕ) (trace' : List ℕ) : Type 0 where
  pub number : r ≡ first_of (fresh_refused z table)
  pub trace_is : trace' ≡ laid (unless (first_of (fresh_refused z table)) (bytes_of (trace_after (fresh_of z table) (action_at actions) (turns_of actions trace))) []) trace
