-- The run of a list is a run of Figure 2: the same events. Assumes nothing.
use mathlib.Core.List.{List, map}
use mathlib.Core.Path.{◌≡◌, refl, ap, ◌∙◌}
use Prim.Native.Nat.{ℕ, ◌*◌, ◌≤◌}
use native.Mathlib.Omega.{arith}
use lib.ListN.{length}
use borrow.Author.Tests.{eq-eqb}
use Rattle.figure.specs.Account.{trace}
use Rattle.figure.specs.Event.{event_view}
use Rattle.figure.specs.Demand.{trace_of}
use Rattle.figure.specs.Figure.{fresh}
use Rattle.figure.specs.Record.{no_record}
use Rattle.figure.specs.Refusals.{first_of, sizes_refused}
use Rattle.figure.proofs.First.{first-append, sizes-numbered}
use Rattle.figure.proofs.Machines.{below_all}
use Rattle.lists.specs.Bytes.{rows}
use Rattle.lists.specs.Read.{read_of, memory_of, actions_of}
use Rattle.lists.specs.Record.{record_width, record_bytes}
use Rattle.lists.proofs.Actions.{length-actions}
use Rattle.lists.proofs.Codecs.{record-lawful}
use Rattle.lists.proofs.Table.{length-memory}
use Rattle.lists.proofs.Things.{length-coded}
use Rattle.lists.proofs.Sized.{sized}
use Rattle.shape.specs.Fresh.{fresh_of, fresh_refused}
use Rattle.shape.specs.View.{step_view}
use Rattle.shape.proofs.Bridge.{fresh-agrees}
use Rattle.shape.proofs.Kept.{fresh_sound}
use Rattle.shape.proofs.Shaped.{fresh-shaped}
use Rattle.shape.proofs.Trails.{length-trace}
use Rattle.demands.proofs.Follows.{steps_below, Followed, follows}
use Rattle.demands.specs.Demand.{run_steps}
use Rattle.demands.specs.Run.{run_sizes, run_fresh, run_memory, run_action, run_trace}

-- the steps of all its actions
pub steps_all : (list : List ℕ) → steps_below (run_sizes list) (run_action list) (read_of list).actions ≡ run_steps list
steps_all list = rw (← (length-actions list)) (ap (map (step_view (run_sizes list))) (below_all (actions_of list) no_record))

-- every action has its record
pub length_run : (list : List ℕ) → length (run_trace list) ≡ (read_of list).actions
unfolding run_trace
length_run list = length-trace _ _ _

pub run-bytes-long : (list : List ℕ) → length (rows record_bytes (run_trace list)) ≡ record_width * (read_of list).actions
run-bytes-long list = length-coded record-lawful (run_trace list) ∙ ap (λ (n : ℕ). record_width * n) (length_run list)

module _ (list : List ℕ) (ok : (read_of list).number ≡ 0) where
  pub table-length : length (memory_of list) ≡ (run_sizes list).addresses
  table-length = length-memory list

  pub fresh-taken : first_of (fresh_refused (run_sizes list) (memory_of list)) ≡ 0
  unfolding fresh_refused
  fresh-taken = first-append (sizes_refused (run_sizes list)) _ (sized list (read_of list) refl ok).sizes_pass (sizes-numbered (run_sizes list)) ∙ rw (eq-eqb _ _ table-length)

  fresh-small : length (memory_of list) ≤ 64
  fresh-small = let h = (sized list (read_of list) refl ok).sizes_in.addresses_in.high in omega (arith, table-length)

  -- after k actions of the list
  pub followed : (k : ℕ) → Followed (run_fresh list) (fresh (run_memory list)) (run_action list) k
  unfolding fresh_of
  followed =
      follows (run_fresh list) (fresh (run_memory list)) (run_action list) (fresh_sound (run_sizes list) (memory_of list) fresh-taken) (fresh-shaped (run_sizes list) (memory_of list) fresh-small)
      (fresh-agrees (run_sizes list) (memory_of list) table-length)

  -- what happened is what Figure 2 says happens
  pub run-events : map event_view (run_trace list) ≡ trace_of (run_sizes list) (run_memory list) (run_steps list)
  unfolding run_trace fresh_of
  run-events = (followed (read_of list).actions).events ∙ ap (trace (run_sizes list) (fresh (run_memory list))) (steps_all list)
