-- The buffer stays as long as it was, and fewer bytes are left to drop.
use Rattle.std.proofs.Common.{◌≡◌, length}
use Rattle.stream.proofs.window.Input.drop_bytes.Given as goal

abbrev pub invariant-loop-missing : goal.invariant-loop-missing
invariant-loop-missing g l = length l.self.buffer.now ≡ length l.initial.self.buffer.now

abbrev pub decreases-loop-missing : goal.decreases-loop-missing
decreases-loop-missing g l = l.missing
