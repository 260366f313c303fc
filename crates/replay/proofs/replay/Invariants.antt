-- The buffer stays as long as it was.
use Rattle.std.proofs.Common.{◌≡◌, length}
use Rattle.replay.proofs.replay.Given as goal

abbrev pub invariant-loop : goal.invariant-loop
invariant-loop g l = length l.input.buffer.now ≡ length l.initial.input.buffer.now
