use Rattle.std.proofs.Common.{refl}
use Rattle.lists.proofs.Rows.{putting-none, putting-more}
use Rattle.lists.proofs.writer.put_words.Goals as goal

pub loop-k-init : goal.loop-k-init
loop-k-init c = putting-none c.requires

pub loop-k-preserved : goal.loop-k-preserved
loop-k-preserved c = putting-more (λ x. refl) 0 c.loop-k.invariant c.loop-k-test.true c.put_u32.ensures
