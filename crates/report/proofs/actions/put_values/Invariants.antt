use Rattle.std.proofs.Common.{◌≡◌}
use Rattle.report.specs.Text.{series}
use Rattle.report.specs.Cursor.{appended}
use Rattle.report.specs.Actions.{value_field}
use Rattle.report.proofs.actions.put_values.Given as goal

abbrev pub invariant-loop-value : goal.invariant-loop-value
invariant-loop-value l = l.to ≡ appended (series (value_field l.values) l.value-index) l.initial.to
