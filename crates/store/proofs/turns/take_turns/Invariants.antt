-- The invariant: the run holds the store after i turns, and the trace of these lies over the buffer.
use Rattle.std.proofs.Common.{◌≡◌}
use Rattle.shape.specs.Fresh.{fresh_of}
use Rattle.shape.specs.Turns.{action_at, store_after}
use Rattle.store.specs.Running.{Holds}
use Rattle.store.proofs.Turning.{laid_after}
use Rattle.store.proofs.turns.take_turns.Given as goal

abbrev pub invariant-loop-i : goal.invariant-loop-i
invariant-loop-i l =
    let s = fresh_of l.fn.given.sizes l.fn.given.table.now in
    Holds (store_after s (action_at l.actions) l.i) l.running × (l.trace ≡ laid_after s l.actions l.fn.trace l.i)
