-- What is left of `Ran` for whoever runs a list: three equations. That the account is serial follows from them, whatever the list. Assumes nothing.
use mathlib.Core.List.{List, []}
use mathlib.Core.Path.{◌≡◌, sym, ap, ◌∙◌}
use Prim.Native.Nat.{ℕ}
use Rattle.figure.specs.Refusals.{unless}
use Rattle.lists.specs.Bytes.{rows, laid}
use Rattle.lists.specs.Record.{record_bytes}
use Rattle.demands.proofs.Account.{run-serial}
use Rattle.demands.proofs.Demands.{number_of, reader-takes}
use Rattle.demands.specs.Lines.{account_bytes}
use Rattle.demands.specs.Run.{Answered, run_sizes, run_trace, run_book, run_number, counts_as, Ran}

pub ran-by : {list trace account : List ℕ} {r : Answered} {trace' account' : List ℕ} → r ≡ counts_as (run_number list trace account) list → trace' ≡ laid (unless (run_number list trace account) (rows record_bytes (run_trace list)) []) trace
    → account' ≡ laid (unless (run_number list trace account) (account_bytes (run_sizes list) (run_book list)) []) account → Ran list trace account r trace' account'
ran-by {list} {trace} {account} c t a =
    record {
      counts = c;
      trace_is = t;
      account_is = a;
      serial = λ e. run-serial list (reader-takes list trace account (sym (ap (λ (r : Answered). r.number) c ∙ number_of (run_number list trace account) list) ∙ e));
    }
