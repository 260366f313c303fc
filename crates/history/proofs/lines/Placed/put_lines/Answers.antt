use Rattle.std.proofs.Common.{arith, refl, ◌∙◌, zero-add}
use Rattle.shape.specs.Turns.{action_at}
use Rattle.history.specs.Pieces.{placed_line}
use Rattle.lists.specs.Bytes.{rows}
use Rattle.lists.specs.Line.{line_width}
use Rattle.lists.proofs.Rows.{putting-none, putting-more, putting-all, length-rows}
use Rattle.lists.proofs.Put.{put_front}
use Rattle.history.proofs.lines.Placed.put_lines.Goals as goal

pub loop-p-init : goal.loop-p-init
loop-p-init c = putting-none (omega (arith, c.requires))

pub loop-p-preserved : goal.loop-p-preserved
loop-p-preserved c =
    putting-more (λ j. refl) 0 c.loop-p.invariant c.loop-p-test.true
    (c.put_line.ensures ∙ rw (c.number_in-number.ensures, c.at-e.ensures, zero-add))

pub returns : goal.returns
returns c =
    let s = c.args.self.now in
    let f = placed_line (action_at s.events.bytes.now) s.keys.now in
    putting-all c.loop-p.invariant (omega arith)
    ∙ put_front c.args.out.now (rows f s.order.now) (omega (arith, length-rows f line_width (λ j. refl) s.order.now, c.requires))
