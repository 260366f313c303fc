use Rattle.std.proofs.Common.{rules, tests, length}
use Rattle.shape.specs.Parts.{full}
use Rattle.scan.proofs.Laws.{any-firsts}
use Rattle.store.proofs.turns.Running.some_full.Goals as goal

pub returns : goal.returns
returns c =
    let r = c.args.self.now in
    any-firsts (λ side. full r.sizes.depth (length side.updates)) r.sizes.engines r.sides c.take.ensures.source (cc) (cc) (λ x b q k. search (rules, tests)) _ c.any.ensures.ran
