use Rattle.std.proofs.Common.{rules}
use Rattle.history.proofs.Bounds.{least-is}
use Rattle.history.proofs.marks.least.Goals as goal

pub returns : goal.returns
returns c = least-is c.copied.result (search rules) (search rules)
