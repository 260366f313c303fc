-- The run: what it answers and what it leaves in the two lent buffers. Assumes nothing.
use Rattle.std.specs.Prelude.{Bool, Result, Ok, Err, List, [], ◌∷◌, ◌++◌, map, ◌≡◌, ℕ, zero, suc, ◌*◌, eqb, ltb, length, get_or}
use Rattle.figure.specs.Account.{Item, Book, blank, book, account, settled}
use Rattle.figure.specs.Event.{event_view}
use Rattle.figure.specs.Demand.{Serial}
use Rattle.figure.specs.Record.{no_record}
use Rattle.figure.specs.Refusals.{Refusal, ◌when◌, pick, first_of, unless}
use Rattle.figure.specs.Refused.{number_of}
use Rattle.figure.specs.declared.Record.{Record}
use Rattle.figure.specs.declared.refused.Refused.{Refused}
use Rattle.figure.specs.declared.Sizes.{Sizes}
use Rattle.lists.specs.Bytes.{rows, laid}
use Rattle.lists.specs.Read.{read_refused, read_of, memory_of, actions_of}
use Rattle.lists.specs.Record.{record_width, record_bytes}
use Rattle.lists.specs.Line.{line_width}
use Rattle.shape.specs.Fresh.{fresh_of}
use Rattle.shape.specs.Turns.{trace_after}
use Rattle.shape.specs.declared.Store.{Store}
use Rattle.demands.specs.Lines.{account_bytes}
use Rattle.demands.specs.declared.Counts.{Counts}

-- ---- of a list that the reader takes

abbrev pub run_sizes : List ℕ → Sizes
run_sizes list = (read_of list).sizes

abbrev pub run_fresh : List ℕ → Store
run_fresh list = fresh_of (run_sizes list) (memory_of list)

-- its table, as the figure's memory
abbrev pub run_memory : List ℕ → ℕ → ℕ
run_memory list a = get_or (memory_of list) a 0

abbrev pub run_action : List ℕ → ℕ → Record
run_action list k = get_or (actions_of list) k no_record

-- each action in turn as the step takes it, from the store that the step before left, starting with fresh
unfoldable pub run_trace : List ℕ → List Record
run_trace list = trace_after (run_fresh list) (run_action list) (read_of list).actions

-- the book of what happened
unfoldable pub run_book : List ℕ → Book
run_book list = book 0 (map event_view (run_trace list)) blank

abbrev pub run_account : List ℕ → List Item
run_account list = account (run_sizes list) (run_book list)

-- ---- the counts: "accepted and refused actions, events in the account, settled events"

-- "Its trace record is kind 0"
abbrev pub is_refused : Record → Bool
is_refused r = eqb r.kind 0

unfoldable pub accepted_in : List Record → ℕ
accepted_in [] = 0
accepted_in (r ∷ rs) = pick (is_refused r) (accepted_in rs) (suc (accepted_in rs))

unfoldable pub refused_in : List Record → ℕ
refused_in [] = 0
refused_in (r ∷ rs) = pick (is_refused r) (suc (refused_in rs)) (refused_in rs)

-- what a run answers: the number of its refusal, 0 where it refuses nothing, and the four counts
pub record Answered : Type 0 where
  pub number : ℕ
  pub accepted : ℕ
  pub refused : ℕ
  pub events : ℕ
  pub settled : ℕ

-- "A refused run has all counts 0"
abbrev pub answered_none : ℕ → Answered
answered_none n = record { number = n; accepted = 0; refused = 0; events = 0; settled = 0 }

abbrev pub answered_by : Result Counts Refused → Answered
answered_by (Ok c) = record { number = 0; accepted = c.accepted; refused = c.refused; events = c.events; settled = c.settled }
answered_by (Err e) = answered_none (number_of e)

-- of the run of a list, by its number
abbrev pub counts_as : ℕ → List ℕ → Answered
counts_as zero list =
    record {
      number = 0;
      accepted = accepted_in (run_trace list);
      refused = refused_in (run_trace list);
      events = length (run_account list);
      settled = length (settled (run_sizes list) (run_book list));
    }
counts_as (suc n) list = answered_none (suc n)

-- ---- the refusals

-- "then 29, trace buffer shorter than 8 bytes an action; 30, account buffer shorter than 12 bytes an account event"
abbrev pub own_refused : List ℕ → ℕ → ℕ → List Refusal
own_refused list trace-room account-room =
    29 when ltb trace-room (record_width * (read_of list).actions)
    ∷ 30 when ltb account-room (line_width * length (run_account list))
    ∷ []

-- "It refuses with the reader's numbers", then its own
unfoldable pub run_refused : List ℕ → ℕ → ℕ → List Refusal
run_refused list trace-room account-room = read_refused list ++ own_refused list trace-room account-room

unfoldable pub run_number : List ℕ → List ℕ → List ℕ → ℕ
run_number list trace account = first_of (run_refused list (length trace) (length account))

-- ---- the answer; "both buffers are untouched" on a refusal; "Bytes past what is written stay."

pub record Ran (list trace account : List ℕ) (r : Answered) (trace' account' : List ℕ) : Type 0 where
  pub counts : r ≡ counts_as (run_number list trace account) list
  pub trace_is : trace' ≡ laid (unless (run_number list trace account) (rows record_bytes (run_trace list)) []) trace
  pub account_is : account' ≡ laid (unless (run_number list trace account) (account_bytes (run_sizes list) (run_book list)) []) account
  -- request [10], "let the run's promise say that the account is serial": the account whose bytes stand in the buffer, on the list's own memory
  pub serial : r.number ≡ 0 → Serial (run_memory list) (run_account list)
