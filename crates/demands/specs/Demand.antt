-- Demands 1 and 3 about a run: a list, the lent buffers before and after, and what the run answers. Assumes nothing.
use Rattle.std.specs.Prelude.{false, ◌≡◌, ℕ, ◌+◌, ◌*◌, ◌≤◌, ◌<◌, length, get_or, take}
use mathlib.Core.List.{List, [], ◌∷◌, ◌++◌, map, Perm}
use Rattle.figure.specs.Account.{Item, Book, blank, book, log, account, settled}
use Rattle.figure.specs.Demand.{Serial, own, Rises, Begins}
use Rattle.figure.specs.Event.{event_view}
use Rattle.figure.specs.Figure.{Step, engine?}
use Rattle.lists.specs.Line.{line_width}
use Rattle.lists.specs.Read.{read_of, memory_of, actions_of}
use Rattle.shape.specs.Turns.{trace_after}
use Rattle.shape.specs.View.{step_view}
use Rattle.demands.specs.Lines.{item_bytes, account_bytes, settled_bytes}
use Rattle.demands.specs.Run.{Answered, run_sizes, run_fresh, run_memory, run_action, run_trace, run_book, run_account}

-- ---- demand 1: "A refusal gives its number; the state and all lent buffers stay as they came."

pub record Untouched (r : Answered) (trace account trace' account' : List ℕ) : Type 0 where
  pub counts : r ≡ record { number = r.number; accepted = 0; refused = 0; events = 0; settled = 0 }
  pub trace_stays : trace' ≡ trace
  pub account_stays : account' ≡ account

-- ---- demand 3

-- the actions of a list, as the figure's steps
abbrev pub run_steps : List ℕ → List Step
run_steps list = map (step_view (run_sizes list)) (actions_of list)

-- the bytes begin with a line for each item, in their order, whatever its number
pub data Listed : List Item → List ℕ → Type 0 where
  none : {bytes : List ℕ} → Listed [] bytes
  more : (k : ℕ) (x : Item) (xs : List Item) (bytes : List ℕ) → Listed xs bytes → Listed (x ∷ xs) (item_bytes k x ++ bytes)

-- the book after the first k actions of a list
abbrev pub book_after : List ℕ → ℕ → Book
book_after list k = book 0 (map event_view (trace_after (run_fresh list) (run_action list) k)) blank

pub record Demand3 (list account' : List ℕ) (r : Answered) : Type 0 where
  -- what stands at the front of the account buffer is the account of what the trace says happened
  pub bytes : take (line_width * r.events) account' ≡ account_bytes (run_sizes list) (run_book list)
  -- one line for each item, in their order
  pub lines : Listed (run_account list) account'
  pub events : r.events ≡ length (run_account list)
  -- each action is accepted or refused
  pub counted : r.accepted + r.refused ≡ length (run_trace list)
  pub settled_count : r.settled ≡ length (settled (run_sizes list) (run_book list))
  -- and so many lines of the account buffer are what is settled
  pub settled_in_bytes : take (line_width * r.settled) account' ≡ settled_bytes (run_sizes list) (run_book list)
  -- "the account holds each accepted read and write exactly once"
  pub once : Perm (run_account list) (log 0 (map event_view (run_trace list)))
  pub tagged : Rises 0 (length (run_steps list)) (log 0 (map event_view (run_trace list)))
  -- "Within one slot, reads stand in the order they happened", whichever engines they are of
  pub in_slots : (k : ℕ) → Rises 0 (length (run_steps list)) (get_or (run_book list).slots k [])
  -- "each engine's events in its own order"
  pub ordered : (i : ℕ) → own i (run_account list) ≡ own i (log 0 (map event_view (run_trace list)))
  pub no_other : (i : ℕ) → engine? (run_sizes list) i ≡ false → own i (run_account list) ≡ []
  -- "and on one plain memory every read gets the value it got"
  pub serial : Serial (run_memory list) (run_account list)
  -- "What is settled at one moment begins what is settled, and the account, at every later moment.": event by event, and byte by byte, slot numbers included
  pub stays : (j k : ℕ) → j ≤ k → Begins (settled (run_sizes list) (book_after list j)) (settled (run_sizes list) (book_after list k))
  pub begins : (j k : ℕ) → j ≤ k → Begins (settled (run_sizes list) (book_after list j)) (account (run_sizes list) (book_after list k))
  pub bytes_stay : (j k : ℕ) → j ≤ k → Begins (settled_bytes (run_sizes list) (book_after list j)) (settled_bytes (run_sizes list) (book_after list k))
  pub bytes_begin : (j k : ℕ) → j ≤ k → Begins (settled_bytes (run_sizes list) (book_after list j)) (account_bytes (run_sizes list) (book_after list k))

-- the same of two lists of which one begins the other: equal sizes and memory, and the actions of the shorter are the first of the longer
pub record Shorter (list longer : List ℕ) : Type 0 where
  pub sizes : run_sizes list ≡ run_sizes longer
  pub memory : memory_of list ≡ memory_of longer
  pub fewer : (read_of list).actions ≤ (read_of longer).actions
  pub same : (k : ℕ) → k < (read_of list).actions → run_action list k ≡ run_action longer k
