use Rattle.std.proofs.Common.{◌≡◌, ◌∙◌, arith}
use Rattle.lists.specs.Record.{record_width}
use Rattle.report.proofs.Forms.{record-alone, bytes-parts}
use Rattle.report.proofs.step.put_bytes.Goals as goal

pub returns : goal.returns
returns c =
    let all : c.loop-b.b-index ≡ record_width = omega (arith, c.loop-b-test.false) in
    rw (bytes-parts c.args.a c.args.to.now, ← (c.put_record.ensures ∙ record-alone c.args.a), ← c.text.ensures, ← all) c.loop-b.invariant
