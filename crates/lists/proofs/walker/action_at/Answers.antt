use Rattle.std.proofs.Common.{arith, Ok}
use Rattle.figure.specs.Refused.{number_of}
use Rattle.lists.specs.Read.{refused_as, reading}
use Rattle.lists.proofs.Sized.{held}
use Rattle.lists.proofs.Actions.{action-here, action-past}
use Rattle.lists.proofs.walker.action_at.Goals as goal

pub returns-in_default : goal.returns-in_default
returns-in_default c = action-past c.args.list.now (refused_as (number_of c.in_default.field-0)) c.in_default.ensures c.args.place (omega arith)

-- the action's bytes stand inside the list
pub overflow_mul-place : goal.overflow_mul-place
overflow_mul-place c = omega (arith, held c.args.list.now (reading (Ok c.in-Ok.l)) c.in-Ok.ensures)

pub overflow_add-l : goal.overflow_add-l
overflow_add-l c = omega (arith, held c.args.list.now (reading (Ok c.in-Ok.l)) c.in-Ok.ensures)

pub returns-then-place-l : goal.returns-then-place-l
returns-then-place-l c =
    rw c.record_at.ensures (action-here c.args.list.now (reading (Ok c.in-Ok.l)) c.in-Ok.ensures c.args.place c.if-place-l.true)

pub returns-else-place-l : goal.returns-else-place-l
returns-else-place-l c = action-past c.args.list.now (reading (Ok c.in-Ok.l)) c.in-Ok.ensures c.args.place c.if-place-l.false
