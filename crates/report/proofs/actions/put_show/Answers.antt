use Rattle.std.proofs.Common.{arith}
use Rattle.std.specs.Prelude.{Ok}
use Rattle.demands.specs.Run.{answered_by}
use Rattle.report.specs.Actions.{show_said}
use Rattle.report.proofs.ShowBounds.{length-show}
use Rattle.report.proofs.actions.put_show.Goals as goal

pub returns-in-Ok-clause-short : goal.returns-in-Ok-clause-short
unfolding show_said
returns-in-Ok-clause-short c =
    rw c.in-Ok.is
    (length-show c.args.list.now (answered_by (Ok c.in-Ok.c)) c.args.trace.now c.args.account.now (omega arith) c.put_taken.ensures.short (λ i. (c.type_inv.list i).fits) (λ i. (c.type_inv.trace i).fits))
