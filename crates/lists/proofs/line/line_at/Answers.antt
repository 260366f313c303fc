use Rattle.lists.proofs.Numbers.{line-drop}
use Rattle.lists.proofs.line.line_at.Goals as goal

pub returns : goal.returns
returns c = rw (line-drop c.args.s.now c.args.at, ← c.from_place-line.ensures) cc
