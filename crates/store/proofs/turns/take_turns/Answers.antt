use Rattle.std.proofs.Common.{arith, ◌≡◌, ap, ◌∙◌}
use Rattle.shape.specs.Fresh.{fresh_of}
use Rattle.shape.specs.Turns.{action_at, turns_of}
use Rattle.store.proofs.Turning.{turns_fit, laid_after, laid-first, laid-next, store-first, store-next, fresh-turned}
use Rattle.store.proofs.turns.take_turns.Goals as goal

pub loop-i-init : goal.loop-i-init
loop-i-init c = (rw (store-first (fresh_of c.args.given.sizes c.args.given.table.now) (action_at c.args.actions.now)) c.fresh-running.ensures, laid-first _ c.args.actions.now c.args.trace.now)

pub turn-requires : goal.turn-requires
turn-requires c = (_, c.loop-i.invariant.0)

pub loop-i-preserved : goal.loop-i-preserved
loop-i-preserved c =
    let a = c.args in
    let s = fresh_of a.given.sizes a.given.table.now in
    let i = c.loop-i.i in
    let h = c.loop-i.invariant in
    let fit = turns_fit a.actions.now a.trace.now c.min-i-end.ensures in
    let t = rw c.record_at-x.ensures at c.turn.ensures _ h.0 in (
      rw (store-next s (action_at a.actions.now) i) t.1,
      c.put_record.ensures ∙ rw (c.traced.ensures, c.into.ensures, h.1) (laid-next s a.actions.now a.trace.now i (omega (arith, fit.1, c.loop-i-test.true)) t.0),
    )

pub returns : goal.returns
returns c =
    let n : c.loop-i.i ≡ turns_of c.args.actions.now c.args.trace.now = omega (arith, c.min-i-end.ensures, c.loop-i-test.false) in
    fresh-turned c.args.given.right (c.loop-i.invariant.1 ∙ ap (laid_after (fresh_of c.args.given.sizes c.args.given.table.now) c.args.actions.now c.args.trace.now) n)
