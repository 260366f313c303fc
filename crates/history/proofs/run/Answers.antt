use Rattle.std.proofs.Common.{arith, []}
use Rattle.std.proofs.lemmas.Result.{err_from_is_err_and}
use Rattle.history.proofs.Answers.{ran-reader, ran-29, actions-few}
use Rattle.history.proofs.run.Goals as goal

pub returns-in_err-l : goal.returns-in_err-l
returns-in_err-l c =
    let e = c.in_err-l.field-0.0 in
    let p = err_from_is_err_and c.from_residual.result c.from_residual.ensures.1 in
    rw (p.1, p.2) (ran-reader c.args.list.now c.args.trace.now c.args.account.now e c.in_err-l.ensures)

pub overflow_mul-l : goal.overflow_mul-l
overflow_mul-l c = omega (arith, actions-few c.args.list.now [] [] c.in_ok-l.l c.in_ok-l.ensures)

pub returns-then-trace-l : goal.returns-then-trace-l
returns-then-trace-l c = ran-29 c.args.list.now c.args.trace.now c.args.account.now c.in_ok-l.l c.in_ok-l.ensures c.if-trace-l.true

pub run_in-requires-in_default-clause-fits : goal.run_in-requires-in_default-clause-fits
run_in-requires-in_default-clause-fits c = actions-few c.args.list.now [] [] c.in_ok-l.l c.in_ok-l.ensures
