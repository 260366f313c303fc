use Rattle.lists.proofs.Walks.{yields-first}
use Rattle.lists.proofs.walker.WalkerIterator.next.Goals as goal

pub returns-clause-steps : goal.returns-clause-steps
returns-clause-steps c = yields-first c.args.self.now c.taken_at-found.ensures
