use Rattle.std.proofs.Common.{arith}
use Rattle.lists.proofs.Table.{filling-none, filling-more, filling-all}
use Rattle.lists.proofs.memory.read_words.Goals as goal

pub loop-k-init : goal.loop-k-init
loop-k-init c = filling-none

pub loop-k-preserved : goal.loop-k-preserved
loop-k-preserved c = filling-more c.loop-k.invariant c.loop-k-test.true c.get_u32.ensures

pub returns : goal.returns
returns c = filling-all c.loop-k.invariant (omega arith)
