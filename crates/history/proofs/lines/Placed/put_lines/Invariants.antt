use Rattle.lists.specs.Line.{line_width}
use Rattle.lists.proofs.Rows.{Putting}
use Rattle.shape.specs.Turns.{action_at}
use Rattle.history.specs.Pieces.{placed_line}
use Rattle.history.proofs.lines.Placed.put_lines.Given as goal

abbrev pub invariant-loop-p : goal.invariant-loop-p
invariant-loop-p l =
    let s = l.self in
    Putting (placed_line (action_at s.events.bytes.now) s.keys.now) line_width s.order.now l.initial.out 0 l.out l.p
