use Rattle.lists.specs.Bytes.{laid}
use Rattle.history.proofs.Handing.{hand-30, hand-both}
use Rattle.history.proofs.hand_over.Goals as goal

pub returns-then-account-p : goal.returns-then-account-p
returns-then-account-p c = hand-30 _ _ _ c.args.c _ _ c.if-account-p.true

pub returns : goal.returns
unfolding laid
returns c = hand-both _ _ _ c.args.c _ _ c.if-account-p.false (rw c.copy_from_slice.ensures.after) c.put_lines.ensures
