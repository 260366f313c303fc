-- Many steps of a store are a run over a list: its trace record by record, and actions that are alike leave one trace. Assumes nothing.
use mathlib.Core.Path.{◌≡◌, refl, sym, ap, ◌∙◌}
use mathlib.Core.List.{List, []}
use Prim.Native.Nat.{ℕ, zero, suc, ◌<◌}
use lib.ListN.{length, get_or}
use Rattle.figure.specs.Refusals.{first_of, unless}
use Rattle.figure.specs.declared.Record.{Record}
use Rattle.figure.specs.declared.Sizes.{Sizes}
use Rattle.figure.proofs.Machines.{runs, tape, below, below_alike, built-long, built-at, by_number}
use Rattle.lists.proofs.Put.{laid_none}
use Rattle.lists.specs.Bytes.{laid}
use Rattle.shape.specs.Fresh.{fresh_refused}
use Rattle.shape.specs.Step.{stepped}
use Rattle.shape.specs.Trace.{traced}
use Rattle.shape.specs.Turns.{store_after, trace_after, FreshTurned}
use Rattle.shape.specs.declared.Store.{Store}

-- the store as a machine
abbrev pub next_store : Store → Record → Store
next_store s x = (stepped s x).store

abbrev pub next_record : Store → Record → Record
next_record s x = traced (stepped s x)

module _ (s : Store) (x : ℕ → Record) (n : ℕ) where
  trail : (store_after s x n ≡ runs next_store s (below x n)) × (trace_after s x n ≡ tape next_store next_record s (below x n))
  unfolding store_after trace_after
  trail = by_number next_store next_record x (store_after s x) (trace_after s x) (λ k. refl) refl (λ k. refl) n

  pub store-trail : store_after s x n ≡ runs next_store s (below x n)
  store-trail = trail.0

  pub trace-trail : trace_after s x n ≡ tape next_store next_record s (below x n)
  trace-trail = trail.1

  -- every action has its record
  pub length-trace : length (trace_after s x n) ≡ n
  unfolding trace_after
  length-trace = built-long (λ k. next_record (store_after s x k) (x k)) (trace_after s x) refl (λ k. refl) n

  pub trace-at : (k : ℕ) (r : Record) → k < n → get_or (trace_after s x n) k r ≡ next_record (store_after s x k) (x k)
  unfolding trace_after
  trace-at = built-at (λ k. next_record (store_after s x k) (x k)) (trace_after s x) refl (λ k. refl) n

module _ (s : Store) (x y : ℕ → Record) (n : ℕ) (same : (k : ℕ) → k < n → x k ≡ y k) where
  pub trace-alike : trace_after s x n ≡ trace_after s y n
  trace-alike = trace-trail s x n ∙ (ap (tape next_store next_record s) (below_alike x y n same) ∙ sym (trace-trail s y n))

-- many turns that are refused, since there is no such store, leave the trace as it came
pub refused-turns : {z : Sizes} {table actions trace : List ℕ} {r : ℕ} {trace' : List ℕ} → FreshTurned z table actions trace r trace' → ¬ (r ≡ 0) → trace' ≡ trace
unfolding unless
refused-turns {z} {table} {actions} {trace} {r} {trace'} h n = at (first_of (fresh_refused z table)) h.number _ h.trace_is
  where
    at : (k : ℕ) → r ≡ k → (t : List ℕ) → trace' ≡ laid (unless k t []) trace → trace' ≡ trace
    at zero e t q = absurd (n e)
    at (suc k) e t q = q ∙ laid_none trace
