-- A worked case in the run: what the table of B1 to B9 says of its counts and its account. Assumes nothing.
use Rattle.std.specs.Prelude.{List, ◌≡◌, ℕ, length}
use Rattle.lists.specs.Bytes.{rows, laid}
use Rattle.lists.specs.Line.{line_bytes}
use Rattle.shape.specs.Case.{Case, list_of, trace_in}
use Rattle.shape.specs.Turns.{bytes_of}
use Rattle.demands.specs.Lines.{account_bytes}
use Rattle.demands.specs.Run.{Answered, run_sizes, run_trace, run_book, counts_as}

abbrev pub counts_of : Case → Answered
counts_of c = record { number = 0; accepted = c.accepted; refused = c.refused; events = length c.lines; settled = c.settled }

abbrev pub lines_in : Case → List ℕ
lines_in c = rows line_bytes c.lines

-- the definitions that the run's contract cites say of the case's list what the table says
pub record Accounted (c : Case) : Type 0 where
  pub trace : run_trace (list_of c) ≡ trace_in c
  pub account : account_bytes (run_sizes (list_of c)) (run_book (list_of c)) ≡ lines_in c
  pub counts : counts_as 0 (list_of c) ≡ counts_of c

-- a run of the case's list has these counts, and leaves this trace and this account at the front of the lent buffers: "Bytes past what is written stay."
pub record CaseRan (c : Case) (trace account : List ℕ) (r : Answered) (trace' account' : List ℕ) : Type 0 where
  pub counts : r ≡ counts_of c
  pub trace_is : trace' ≡ laid (bytes_of (trace_in c)) trace
  pub account_is : account' ≡ laid (lines_in c) account
