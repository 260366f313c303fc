use Rattle.std.proofs.Common.{take, rules, tests}
use Rattle.shape.specs.Parts.{is_from}
use Rattle.scan.proofs.Laws.{any-slice}
use Rattle.scan.proofs.own_waits.Goals as goal

pub returns : goal.returns
returns c = any-slice (is_from c.args.i) (take c.args.ins.now.len c.args.ins.now.entries) (cc) (λ x b q k. search (rules, tests)) _ c.any.ensures.ran
