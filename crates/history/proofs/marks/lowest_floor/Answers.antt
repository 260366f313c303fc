use Rattle.std.proofs.Common.{◌≤◌, ◌≡◌, length, arith, rules, Some}
use Rattle.figure.specs.Ledger.{wn}
use Rattle.history.specs.Pieces.{lowest_floor}
use Rattle.history.proofs.Bounds.{lowest-reduced}
use Rattle.history.proofs.marks.lowest_floor.Goals as goal

pub returns : goal.returns
returns c =
    let long : length c.args.l.taken ≡ 8 = search rules in
    let few : c.args.n ≤ length c.args.l.taken = omega (arith, long, c.requires.1) in
    let e : c.least.result ≡ Some (wn (lowest_floor c.args.l c.args.n)) = rw (c.least.ensures, c.from.ensures) (lowest-reduced c.args.l.taken c.args.n c.requires.0 few) in
    rw e at c.unwrap_or_default.ensures
