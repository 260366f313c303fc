use Rattle.std.proofs.Common.{arith}
use Rattle.demands.specs.Run.{answered_by}
use Rattle.std.specs.Prelude.{Ok}
use Rattle.report.proofs.Bounds.{length-account-text}
use Rattle.report.proofs.events.put_taken.Goals as goal

pub returns-clause-short : goal.returns-clause-short
returns-clause-short c =
    length-account-text (answered_by (Ok c.args.c)) c.args.account.now
    (record { number_small = omega arith; accepted_fits = omega arith; refused_fits = omega arith; events_fits = omega arith; settled_fits = omega arith })
    (λ i. (c.type_inv.account i).fits)
