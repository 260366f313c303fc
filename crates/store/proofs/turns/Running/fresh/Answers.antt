use Rattle.std.proofs.Common.{refl}
use Rattle.shape.proofs.Kept.{fresh-short}
use Rattle.store.proofs.Running.{holds-fresh}
use Rattle.store.proofs.turns.Running.fresh.Goals as goal

pub memory_of-requires : goal.memory_of-requires
memory_of-requires c = fresh-short _ _ c.args.given.right

pub returns : goal.returns
returns c = holds-fresh _ _ c.args.given.right refl c.memory_of.ensures c.fresh_sides.ensures
