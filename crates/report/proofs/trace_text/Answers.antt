use Rattle.std.proofs.Common.{rules, arith}
use Rattle.report.specs.Hex.{trace_text}
use Rattle.report.proofs.Bounds.{length-trace-text}
use Rattle.report.proofs.Cursor.{ends, printed}
use Rattle.report.proofs.trace_text.Goals as goal

pub returns-clause-printed : goal.returns-clause-printed
returns-clause-printed c =
    let long = length-trace-text c.args.hash in
    rw c.length.ensures (printed _ c.args.out _ c.new-text.result c.put_trace.new.to (omega (arith, long)) c.new-text.ensures c.put_trace.ensures _ (search rules))

pub returns-clause-upper_bound : goal.returns-clause-upper_bound
returns-clause-upper_bound c =
    let long = length-trace-text c.args.hash in
    omega (arith, long, c.length.ensures, ends (trace_text c.args.hash) c.args.out _ c.new-text.result c.put_trace.new.to (omega (arith, long)) c.new-text.ensures c.put_trace.ensures)
