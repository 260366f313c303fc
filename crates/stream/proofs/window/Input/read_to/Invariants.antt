-- Each turn reads a byte or more, within the buffer, which stays as long as it was.
use Rattle.std.proofs.Common.{◌-◌, ◌≡◌, length}
use Rattle.stream.proofs.window.Input.read_to.Given as goal

abbrev pub invariant-loop-self : goal.invariant-loop-self
invariant-loop-self g l = (length l.self.buffer.now ≡ length l.initial.self.buffer.now) × (l.self.window.from ≡ l.initial.self.window.from)

abbrev pub decreases-loop-self : goal.decreases-loop-self
decreases-loop-self g l = l.end - l.self.window.to
