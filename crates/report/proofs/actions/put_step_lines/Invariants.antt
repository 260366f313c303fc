use Rattle.lists.specs.Walk.{ahead}
use Rattle.report.proofs.Walking.{Walking}
use Rattle.report.proofs.actions.put_step_lines.Given as goal

abbrev pub invariant-loop-k : goal.invariant-loop-k
invariant-loop-k l =
    (goal.iterator-loop-k).can_next l.k-iterator × (goal.iterator-loop-k).is_finite l.k-iterator
    × Walking l.list l.trace l.initial.to (ahead l.k-iterator.iter) l.k-iterator.count l.to
