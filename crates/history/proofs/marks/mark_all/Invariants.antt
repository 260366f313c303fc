use Rattle.std.proofs.Common.{length}
use Rattle.shape.specs.Turns.{action_at}
use Rattle.history.proofs.Marking.{Marking}
use Rattle.history.proofs.marks.mark_all.Given as goal

abbrev pub invariant-loop-k : goal.invariant-loop-k
invariant-loop-k l = Marking (action_at l.events.bytes.now) (length l.initial.keys) l.k l.tally.ledger l.wrote.numbers l.tally.accepted l.keys
