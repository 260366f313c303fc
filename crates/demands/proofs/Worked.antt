-- Every result that the run's contract allows of a worked case, with buffers of every sufficient length, is the table's. Assumes nothing.
use mathlib.Core.List.{List}
use mathlib.Core.Path.{◌≡◌, ap, ◌∙◌}
use Prim.Native.Nat.{ℕ, ◌*◌, ◌≤◌}
use native.Mathlib.Omega.{arith}
use lib.ListN.{length}
use Rattle.figure.specs.Refusals.{unless}
use Rattle.lists.specs.Line.{line_width}
use Rattle.lists.specs.Read.{read_of}
use Rattle.lists.specs.Record.{record_width}
use Rattle.shape.specs.Case.{Case, list_of, Turned}
use Rattle.demands.proofs.Demands.{run-taken}
use Rattle.demands.specs.Bench.{Accounted, CaseRan}
use Rattle.demands.specs.Run.{Answered, run_account, run_number, Ran}

module _ (c : Case) (t : Turned c) (a : Accounted c) (trace account : List ℕ) (trace-room : record_width * length c.turns ≤ length trace) (account-room : line_width * length c.lines ≤ length account) where
  -- buffers that have room for the table's trace and account have room for the run's
  trace_fits : record_width * (read_of (list_of c)).actions ≤ length trace
  trace_fits = rw t.actions trace-room

  account-fits : line_width * length (run_account (list_of c)) ≤ length account
  account-fits = omega (arith, ap (λ (r : Answered). r.events) a.counts)

  taken : run_number (list_of c) trace account ≡ 0
  taken = run-taken (list_of c) t.reads.taken trace account trace_fits account-fits

  pub case-ran : {r : Answered} {trace' account' : List ℕ} → Ran (list_of c) trace account r trace' account' → CaseRan c trace account r trace' account'
  unfolding unless
  case-ran h =
      record {
        counts = h.counts ∙ rw (taken) a.counts;
        trace_is = h.trace_is ∙ rw (taken, a.trace);
        account_is = h.account_is ∙ rw (taken, a.account);
      }
