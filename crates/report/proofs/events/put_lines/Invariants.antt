use Rattle.std.proofs.Common.{◌≡◌}
use Rattle.report.specs.Text.{series}
use Rattle.report.specs.Cursor.{appended}
use Rattle.report.specs.Events.{account_line}
use Rattle.report.proofs.events.put_lines.Given as goal

abbrev pub invariant-loop-k : goal.invariant-loop-k
invariant-loop-k l = l.to ≡ appended (series (account_line l.account) l.k) l.initial.to
