use Rattle.std.proofs.Common.{◌≡◌, inl, arith}
use Rattle.lists.proofs.Actions.{few-actions}
use Rattle.report.proofs.Walking.{walking-none, walking-few, walking-before, walking-more, walking-all}
use Rattle.report.proofs.actions.put_step_lines.Goals as goal

pub loop-k-init : goal.loop-k-init
loop-k-init c =
    rw (c.into_iter-k-iterator.ensures.into_iter_gives, c.enumerate-k-items.ensures.source, c.enumerate-k-items.ensures.count, c.start.ensures.0, c.start.ensures.1)
    ((tt, tt, inl (omega (arith, few-actions c.args.list.now))), tt, walking-none)

pub overflow_mul-k : goal.overflow_mul-k
overflow_mul-k c = record { fits = omega (arith, walking-before c.loop-k.invariant.2 c.in-Some.ensures.steps.0, c.in-Some.ensures.steps.1, few-actions c.args.list.now) }

pub loop-k-preserved : goal.loop-k-preserved
loop-k-preserved c =
    let at : c.in-Some.k ≡ c.loop-k.k-iterator.count = c.in-Some.ensures.steps.1 in
    let printed = rw (c.put_step.ensures, c.record_at.ensures, c.decimal.ensures, at) at c.byte.ensures in
    let more = walking-more c.loop-k.invariant.2 c.in-Some.ensures.steps.0 (λ i. (c.type_inv.list i).fits) printed in
    let before = walking-before c.loop-k.invariant.2 c.in-Some.ensures.steps.0 in
    rw c.in-Some.ensures.steps.2
    ((tt, tt, inl (omega (arith, before, walking-few more, few-actions c.args.list.now))), tt, more)

pub returns : goal.returns
returns c = walking-all (rw c.in-None.ensures.steps.0.0 at c.loop-k.invariant.2)
