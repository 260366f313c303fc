-- The account of a run: serial, as `Ran` promises, and that of Figure 2's run of the same steps. Assumes nothing.
use mathlib.Core.List.{List}
use mathlib.Core.Path.{◌≡◌, ap}
use Prim.Native.Nat.{ℕ}
use Rattle.figure.specs.Account.{Event, blank, book}
use Rattle.figure.specs.Demand.{Serial, book_of}
use Rattle.figure.proofs.Theorem.{right}
use Rattle.lists.specs.Read.{read_of}
use Rattle.demands.proofs.Runs.{run-events}
use Rattle.demands.specs.Demand.{run_steps}
use Rattle.demands.specs.Run.{run_sizes, run_memory, run_book, run_account}

module _ (list : List ℕ) (ok : (read_of list).number ≡ 0) where
  -- the line `serial` of `Ran`
  pub run-serial : Serial (run_memory list) (run_account list)
  unfolding run_book
  run-serial = rw (run-events list ok) (right (run_sizes list) (run_memory list) (run_steps list)).serial

  pub run-book : run_book list ≡ book_of (run_sizes list) (run_memory list) (run_steps list)
  unfolding run_book
  run-book = ap (λ (es : List Event). book 0 es blank) (run-events list ok)
