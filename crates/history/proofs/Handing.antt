-- Handing over: 30, or both buffers. Assumes nothing.
use mathlib.Core.List.{List}
use mathlib.Core.Path.{◌≡◌}
use Prim.Native.Nat.{ℕ, ◌*◌, ◌≤◌, ◌<◌}
use borrow.Author.Tests.{lt-ltb, le-ltb}
use lib.ListN.{length}
use Rattle.figure.specs.Refusals.{unless}
use Rattle.lists.specs.Bytes.{rows, laid}
use Rattle.lists.specs.Line.{line_width}
use Rattle.shape.specs.Turns.{action_at}
use Rattle.history.specs.Pieces.{placed_line, Handed}
use Rattle.std.specs.Prelude.{Ok, Err}
use Rattle.figure.specs.declared.refused.Refused.TheVariants.{OutputShort}
use Rattle.demands.specs.Run.{answered_by}
use Rattle.demands.specs.declared.Counts.{Counts}

module _ (events keys order : List ℕ) (c : Counts) (trace account : List ℕ) where
  pub hand-30 : length account < line_width * length order → Handed events keys order c trace account (answered_by (Err OutputShort)) trace account
  unfolding laid unless
  hand-30 l = let e = lt-ltb (length account) (line_width * length order) l in record { counts = rw e; trace_is = rw e; account_is = rw e }

  pub hand-both : line_width * length order ≤ length account → {trace' account' : List ℕ} → trace' ≡ laid events trace → account' ≡ laid (rows (placed_line (action_at events) keys) order) account
      → Handed events keys order c trace account (answered_by (Ok c)) trace' account'
  unfolding unless
  hand-both l p q = let e = le-ltb (length account) (line_width * length order) l in record { counts = rw e; trace_is = rw e p; account_is = rw e q }
