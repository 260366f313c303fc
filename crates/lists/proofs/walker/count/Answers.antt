use Rattle.std.proofs.Common.{arith, inl}
use Rattle.lists.proofs.Walks.{few-ahead}
use Rattle.lists.proofs.walker.count.Goals as goal

-- no list has more actions than a list may hold
pub count-requires-clause-fits : goal.count-requires-clause-fits
count-requires-clause-fits c = inl (omega (arith, few-ahead c.start.result))
