use Rattle.lists.proofs.Numbers.{record-drop}
use Rattle.lists.proofs.bytes.record_at.Goals as goal

pub returns : goal.returns
returns c = rw (record-drop c.args.s.now c.args.at, ← c.from_place-record.ensures) cc
