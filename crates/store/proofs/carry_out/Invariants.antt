-- The invariant: the entry has joined the queues of the part before the index.
use Rattle.std.proofs.Common.{◌≡◌}
use Rattle.shape.specs.Parts.{firsts, in_joined}
use Rattle.store.proofs.carry_out.Given as goal

abbrev pub invariant-loop-q : goal.invariant-loop-q
invariant-loop-q l = l.q-items ≡ firsts l.q-index (in_joined l.fn.m.entry) l.initial.q-items
