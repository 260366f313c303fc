-- Where the length is no more than the depth, the test of the entries is what is left.
use Rattle.std.proofs.Common.{take, rules, tests}
use borrow.Author.Tests.{le-leb}
use Rattle.shape.specs.Sound.{sound_in_entry}
use Rattle.scan.proofs.Laws.{all-slice}
use Rattle.scan.proofs.in_sound.Goals as goal

pub returns-then-ins-z : goal.returns-then-ins-z
returns-then-ins-z c =
    let z = c.args.z in
    let q = c.args.ins.now in
    rw (le-leb q.len z.depth c.if-ins-z.true) (all-slice (sound_in_entry z) (take q.len q.entries) (cc) (λ x b q k. search (rules, tests)) _ c.all.ensures.ran)
