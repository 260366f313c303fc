use Rattle.std.proofs.Common.{arith}
use Rattle.history.proofs.Composing.{accepted-most, low_small, arranged}
use Rattle.history.proofs.arrange.Goals as goal

pub overflow_sub-result : goal.overflow_sub-result
overflow_sub-result c = accepted-most c.args.events.now.bytes.now c.args.events.now.few c.requires c.mark_all-tally.ensures

pub bounds-table-low : goal.bounds-table-low
bounds-table-low c =
    omega (arith, low_small c.args.events.now.bytes.now c.args.events.now.few c.requires c.mark_all-tally.ensures c.lowest_floor-low.result c.lowest_floor-low.ensures, c.order-placed.ensures.long)

pub returns : goal.returns
returns c = arranged c.args.events.now.bytes.now c.args.events.now.few c.requires c.mark_all-tally.ensures c.order-placed.ensures c.order-placed.auto.out c.lowest_floor-low.ensures
