use Rattle.std.proofs.Common.{arith}
use Rattle.lists.proofs.Actions.{action-before}
use Rattle.lists.proofs.walker.taken_at.Goals as goal

-- an action stands before the most that a list holds
pub overflow_add-result : goal.overflow_add-result
overflow_add-result c = omega (arith, action-before c.args.list.now c.args.place c.in-Some.is c.action_at.ensures)
