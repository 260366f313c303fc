use Rattle.std.proofs.Common.{arith, refl, ◌+◌, ◌-◌, ◌≤◌, ◌<◌, length, slice_set}
use Rattle.std.proofs.Math.ListN.{length-set}
use Rattle.store.specs.Running.{with_update}
use Rattle.store.proofs.Deciding.{move-carries}
use Rattle.store.proofs.Laws.{firsts_more, firsts_at, firsts-part, part-place}
use Rattle.store.proofs.Running.{moves, updates-room, holds-moved}
use Rattle.store.proofs.turns.Running.carry_out.Goals as goal

pub moved-requires : goal.moved-requires
moved-requires c = moves c.requires.1.0 c.requires.1.1 c.place_in-k.ensures _

-- the part of the sides whose in queues the entry joins
pub offset_bounds-sides-m : goal.offset_bounds-sides-m
offset_bounds-sides-m c =
    let d = move-carries c.requires.1.1 c.place_in-k.ensures in
    let b : c.args.m.from ≤ 8 = omega (arith, d.ordered, d.range) in
    record { fits = omega arith }

pub slice_bounds-side-items-count : goal.slice_bounds-side-items-count
slice_bounds-side-items-count c = (move-carries c.requires.1.1 c.place_in-k.ensures).ordered

pub slice_bounds-side-items-start : goal.slice_bounds-side-items-start
slice_bounds-side-items-start c = (move-carries c.requires.1.1 c.place_in-k.ensures).ordered

pub slice_bounds-side-items-end : goal.slice_bounds-side-items-end
slice_bounds-side-items-end c =
    let sides = c.args.self.now.sides in
    let k = c.place_in-k.result in
    let b : c.args.m.to ≤ length (slice_set sides k c.moved.new.self) = omega (arith, (move-carries c.requires.1.1 c.place_in-k.ensures).range, length-set sides k c.moved.new.self, c.requires.1.0.long) in
    b

pub loop-side-init : goal.loop-side-init
loop-side-init c = refl

pub join-requires : goal.join-requires
join-requires c =
    let a = c.args in
    let i = c.loop-side.side-index in
    let d = c.side-item.result in
    let p = part-place a.m.from (a.m.to - a.m.from) i (slice_set a.self.now.sides c.place_in-k.result c.moved.new.self) d c.loop-side-test.true in
    let wide : 260 < 9223372036854775808 = omega arith in
    let low : a.m.from ≤ a.m.from + i = omega arith in
    let high : a.m.from + i < a.m.to = omega (arith, p.0) in
    let h = updates-room c.requires.1.0 c.requires.1.1 c.place_in-k.ensures _ d c.moved.ensures low high in
    (wide, rw (c.loop-side.invariant, firsts_at (with_update a.m.entry) i _ d, p.1) h)

pub loop-side-preserved : goal.loop-side-preserved
loop-side-preserved c = rw (c.join.ensures, c.loop-side.invariant) (firsts_more (with_update c.args.m.entry) c.loop-side.side-index _ c.side-item.result)

pub returns : goal.returns
returns c s h d =
    let a = c.args in
    let sides = slice_set a.self.now.sides c.place_in-k.result c.moved.new.self in
    let low = (move-carries d c.place_in-k.ensures).ordered in
    holds-moved h d c.place_in-k.ensures _ refl c.word_in-b.ensures c.stored.ensures refl c.moved.ensures
    (firsts-part (with_update a.m.entry) a.m.from a.m.to c.loop-side.side-index sides c.loop-side.side-items low c.loop-side.invariant c.loop-side-test.false)
