-- The invariant: the entry has joined the queues of the part before the index.
use Rattle.std.proofs.Common.{◌≡◌}
use Rattle.shape.specs.Parts.{firsts}
use Rattle.store.specs.Running.{with_update}
use Rattle.store.proofs.turns.Running.carry_out.Given as goal

abbrev pub invariant-loop-side : goal.invariant-loop-side
invariant-loop-side l = l.side-items ≡ firsts l.side-index (with_update l.fn.m.entry) l.initial.side-items
