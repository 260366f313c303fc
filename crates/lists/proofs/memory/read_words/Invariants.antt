use Rattle.std.proofs.Common.{ℕ, ◌-◌, length}
use Rattle.lists.proofs.Table.{Filling}
use Rattle.lists.proofs.memory.read_words.Given as goal

abbrev pub invariant-loop-k : goal.invariant-loop-k
invariant-loop-k l = Filling l.s l.at l.initial.words l.words l.k

-- for the edit never_ends: of the same loop by a counter, which it makes stand still
abbrev pub decreases-loop-k : goal.Live-loop-k → ℕ
decreases-loop-k l = length l.words - l.k
