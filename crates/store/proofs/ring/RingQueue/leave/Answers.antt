use Rattle.std.proofs.Common.{◌<◌, length, ap, ◌∙◌, arith}
use mathlib.Core.List.{tail}
use Rattle.store.proofs.Rings.{length-window, window-left}
use Rattle.store.proofs.ring.RingQueue.leave.Goals as goal

pub returns : goal.returns
returns g c =
    let q = c.self.inside in
    let v = c.self.invariant in
    let many = length-window q.oldest q.len q.entries v.0 v.1 v.2 in
    let same = ap length c.self.view_is in
    let some : 0 < q.len = omega arith in
    window-left q.oldest q.len q.entries v.0 v.1 v.2 some ∙ ap tail c.self.view_is
