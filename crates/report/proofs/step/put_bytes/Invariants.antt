use Rattle.std.proofs.Common.{◌≡◌}
use Rattle.report.specs.Text.{series}
use Rattle.report.specs.Cursor.{appended}
use Rattle.report.specs.Actions.{byte_field}
use Rattle.report.proofs.step.put_bytes.Given as goal

abbrev pub invariant-loop-b : goal.invariant-loop-b
invariant-loop-b l = l.to ≡ appended (series (byte_field l.b-items 0) l.b-index) l.initial.to
