-- The entry stands just past the last one.
use Rattle.std.proofs.Common.{arith, rules, ◌≡◌, length}
use Rattle.store.proofs.Laws.{join-over}
use Rattle.store.proofs.queue.join.Goals as goal

pub returns-clause-joined : goal.returns-clause-joined
returns-clause-joined g c =
    let es = c.args.entries.now in
    let h : length es ≡ 32 = search rules in
    rw c.from.ensures (join-over c.args.len.now es c.args.x (omega arith))
