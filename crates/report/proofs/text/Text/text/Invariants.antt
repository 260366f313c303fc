use Rattle.std.proofs.Common.{◌≡◌, take}
use Rattle.report.specs.Cursor.{appended}
use Rattle.report.proofs.text.Text.text.Given as goal

abbrev pub invariant-loop-b : goal.invariant-loop-b
invariant-loop-b l = l.self ≡ appended (take l.b-index l.text) l.initial.self
