use Rattle.std.proofs.Common.{arith, refl}
use Rattle.shape.specs.Turns.{action_at}
use Rattle.history.proofs.Marking.{marking-none, marking-small, marking-more, accepted-le, counting-few}
use Rattle.history.proofs.marks.mark_all.Goals as goal

pub loop-k-init : goal.loop-k-init
loop-k-init c = marking-none c.none_entered.ensures c.none-wrote.ensures refl

pub key_of-requires : goal.key_of-requires
key_of-requires c = marking-small c.loop-k.invariant (omega (arith, c.requires, c.args.events.now.few))

pub counted-requires : goal.counted-requires
counted-requires c = omega (arith, c.requires, c.args.events.now.few, accepted-le c.loop-k.invariant)

pub add-requires : goal.add-requires
add-requires c = counting-few (action_at c.args.events.now.bytes.now) 2 c.loop-k.k c.loop-k.invariant.writes (omega (arith, c.requires, c.args.events.now.few))

pub loop-k-preserved : goal.loop-k-preserved
loop-k-preserved c =
    marking-more c.loop-k.invariant c.loop-k-test.true c.at-e.ensures (rw c.requires c.publications-published.ensures) c.passed_by-waits.ensures (rw c.requires c.key_of.ensures) c.entered-tally.ensures c.add.ensures c.counted.ensures
