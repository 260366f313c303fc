use Rattle.report.proofs.Bounds.{length-refused}
use Rattle.report.proofs.events.put_refused.Goals as goal

pub returns-clause-short : goal.returns-clause-short
returns-clause-short c = length-refused c.args.number c.ranges.number.fits
