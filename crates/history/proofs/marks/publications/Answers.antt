use Rattle.std.proofs.Common.{arith}
use Rattle.shape.specs.Turns.{action_at}
use Rattle.history.proofs.Marking.{counting-none, counting-few, counting_more}
use Rattle.history.proofs.marks.publications.Goals as goal

pub loop-k-init : goal.loop-k-init
loop-k-init c = counting-none (action_at c.args.events.now.bytes.now) 3 c.none-p.ensures

pub add-requires : goal.add-requires
add-requires c = counting-few (action_at c.args.events.now.bytes.now) 3 c.loop-k.k c.loop-k.invariant (omega (arith, c.args.events.now.few))

pub loop-k-preserved : goal.loop-k-preserved
loop-k-preserved c = counting_more (action_at c.args.events.now.bytes.now) 3 c.loop-k.k c.loop-k.invariant c.at.ensures c.add.ensures
