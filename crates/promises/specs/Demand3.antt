-- Demand 3. "For any list the run accepts from a fresh store: the account holds each accepted read and write exactly once, each engine's events in its own order, and on one plain memory every read gets the
-- value it got. What is settled at one moment begins what is settled, and the account, at every later moment." Assumes nothing.
use Rattle.std.specs.Prelude.{◌≡◌, ◌*◌, take}
use Rattle.demands.specs.Demand.{Demand3, Shorter}
use Rattle.figure.specs.Demand.{Begins}
use Rattle.demands.specs.Run.{run_trace}
use Rattle.lists.specs.Bytes.{rows}
use Rattle.lists.specs.Line.{line_width}
use Rattle.lists.specs.Read.{read_of}
use Rattle.lists.specs.Record.{record_width, record_bytes}
use Rattle.promises.specs.Calls.{EveryRun}

pub record Demand3Kept : Type 0 where
  -- what happened, action by action, is what stands in the trace buffer
  pub traced : EveryRun (λ list trace account r trace' account'. r.number ≡ 0 → take (record_width * (read_of list).actions) trace' ≡ rows record_bytes (run_trace list))
  -- each sentence is a field of `Demand3`
  pub accepted : EveryRun (λ list trace account r trace' account'. r.number ≡ 0 → Demand3 list account' r)
  -- the last, of two runs: a list, and a longer one that begins with it
  pub settled_stays : EveryRun (λ list trace account r trace' account'. EveryRun (λ longer trace₂ account₂ q trace₂' account₂'.
      r.number ≡ 0 → q.number ≡ 0 → Shorter list longer → Begins (take (line_width * r.settled) account') (take (line_width * q.settled) account₂')))
  pub settled_begins : EveryRun (λ list trace account r trace' account'. EveryRun (λ longer trace₂ account₂ q trace₂' account₂'.
      r.number ≡ 0 → q.number ≡ 0 → Shorter list longer → Begins (take (line_width * r.settled) account') (take (line_width * q.events) account₂')))
