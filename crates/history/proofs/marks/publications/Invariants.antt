use Rattle.std.proofs.Common.{◌≡◌}
use Rattle.shape.specs.Turns.{action_at}
use Rattle.history.specs.Pieces.{many_at}
use Rattle.history.proofs.marks.publications.Given as goal

abbrev pub invariant-loop-k : goal.invariant-loop-k
invariant-loop-k l = l.p.numbers ≡ many_at (action_at l.events.bytes.now) 3 l.k
