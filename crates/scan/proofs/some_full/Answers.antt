use Rattle.std.proofs.Common.{rules, tests}
use Rattle.shape.specs.Parts.{full}
use Rattle.scan.proofs.Laws.{any-firsts}
use Rattle.scan.proofs.some_full.Goals as goal

pub returns : goal.returns
returns c =
    let s = c.args.s.now in
    any-firsts (λ q. full s.sizes.depth q.len) s.sizes.engines s.ins c.take.ensures.source (cc) (cc) (λ x b q k. search (rules, tests)) _ c.any.ensures.ran
