-- the entry is written just past the youngest, since there is room
use Rattle.std.proofs.Common.{◌<◌, [], ◌∷◌, ◌++◌, length, ap, ◌∙◌, arith}
use Rattle.store.proofs.Rings.{length-window, window-joined}
use Rattle.store.proofs.ring.RingQueue.join.Goals as goal

pub returns : goal.returns
returns g c =
    let q = c.self.inside in
    let v = c.self.invariant in
    let many = length-window q.oldest q.len q.entries v.0 v.1 v.2 in
    let same = ap length c.self.view_is in
    let room : q.len < 32 = omega arith in
    rw (c.from.ensures)
    (window-joined q.oldest q.len q.entries v.0 v.1 v.2 c.args.x room ∙ ap (λ xs. xs ++ c.args.x ∷ []) c.self.view_is)
