use Rattle.lists.specs.Bytes.{u32_bytes}
use Rattle.lists.proofs.Rows.{Putting}
use Rattle.lists.proofs.writer.put_words.Given as goal

abbrev pub invariant-loop-k : goal.invariant-loop-k
invariant-loop-k l = Putting u32_bytes 4 l.words l.initial.out l.at l.out l.k
