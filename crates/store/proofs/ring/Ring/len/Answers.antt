use Rattle.std.proofs.Common.{ap, sym, ◌∙◌}
use Rattle.std.proofs.Common.{length}
use Rattle.store.proofs.Rings.{length-window}
use Rattle.store.proofs.ring.Ring.len.Goals as goal

pub returns : goal.returns
returns g c =
    let q = c.self.inside in
    let v = c.self.invariant in
    (sym (length-window q.oldest q.len q.entries v.0 v.1 v.2) ∙ ap length c.self.view_is, v.1)
