use Rattle.std.proofs.Common.{arith, refl, ◌+◌, ◌-◌, ◌≤◌, ◌<◌, ap, slice_set, ◌∙◌}
use Rattle.std.specs.Int.{from_bool}
use Rattle.shape.specs.Parts.{no_in, in_joined}
use Rattle.shape.specs.Step.{Stepped}
use Rattle.decide.specs.Effect.{left_in}
use Rattle.decide.specs.Turned.{turned_of}
use Rattle.store.proofs.Laws.{change-set, firsts_more, firsts_at, part-place}
use Rattle.store.proofs.Deciding.{move-carries, move-steps}
use Rattle.store.proofs.Steps.{carried}
use Rattle.store.proofs.carry_out.Goals as goal

pub out_moved-requires-clause-leaving : goal.out_moved-requires-clause-leaving
out_moved-requires-clause-leaving c = λ e. (move-carries c.requires c.place_in-k.ensures).out_leaves (ap from_bool e)

pub out_moved-requires-clause-joining : goal.out_moved-requires-clause-joining
out_moved-requires-clause-joining c = λ e. ((move-carries c.requires c.place_in-k.ensures).out_joins (ap from_bool e)).1

pub in_left-requires : goal.in_left-requires
in_left-requires c = λ e. (move-carries c.requires c.place_in-k.ensures).in_leaves (ap from_bool e)

pub cache_moved-requires : goal.cache_moved-requires
cache_moved-requires c = (move-carries c.requires c.place_in-k.ensures).address

-- the part of the in queues that the entry joins
pub offset_bounds-s-m : goal.offset_bounds-s-m
offset_bounds-s-m c =
    let d = move-carries c.requires c.place_in-k.ensures in
    let b : c.args.m.from ≤ 8 = omega (arith, d.ordered, d.range) in
    record { fits = omega arith }

pub slice_bounds-q-items-count : goal.slice_bounds-q-items-count
slice_bounds-q-items-count c = (move-carries c.requires c.place_in-k.ensures).ordered

pub slice_bounds-q-items-start : goal.slice_bounds-q-items-start
slice_bounds-q-items-start c = (move-carries c.requires c.place_in-k.ensures).ordered

pub slice_bounds-q-items-end : goal.slice_bounds-q-items-end
slice_bounds-q-items-end c = (move-carries c.requires c.place_in-k.ensures).range

pub loop-q-init : goal.loop-q-init
loop-q-init c = refl

pub offset_bounds-q-items-q-index : goal.offset_bounds-q-items-q-index
offset_bounds-q-items-q-index c =
    let p = part-place c.args.m.from (c.args.m.to - c.args.m.from) c.loop-q.q-index _ no_in c.loop-q-test.true in
    let b : c.loop-q.q-index < 8 = omega (arith, p.0, (move-carries c.requires c.place_in-k.ensures).range) in
    record { fits = omega arith }

pub join-requires : goal.join-requires
join-requires c =
    let a = c.args in
    let i = c.loop-q.q-index in
    let k = c.place_in-k.result in
    let p = part-place a.m.from (a.m.to - a.m.from) i (slice_set a.s.now.ins k c.in_left.new.q) no_in c.loop-q-test.true in
    let h = ((move-carries c.requires c.place_in-k.ensures).in_joins (a.m.from + i) (omega arith) (omega (arith, p.0))).1 in
    rw (c.loop-q.invariant, firsts_at (in_joined a.m.entry) i _ no_in, p.1, c.in_left.ensures, change-set k (left_in (turned_of a.m)) a.s.now.ins no_in) h

pub loop-q-preserved : goal.loop-q-preserved
loop-q-preserved c = rw (c.join.ensures, c.loop-q.invariant) (firsts_more (in_joined c.args.m.entry) c.loop-q.q-index _ no_in)

pub returns : goal.returns
returns c =
    let d = move-carries c.requires c.place_in-k.ensures in
    carried c.args.s.now (turned_of c.args.m) c.place_in-k.result (c.word_in-b.ensures.exact d.address) c.out_moved.ensures c.in_left.ensures c.cache_moved.ensures c.stored.ensures d.ordered c.loop-q.invariant c.loop-q-test.false
    ∙ ap (λ (r : Stepped). r.store) (move-steps c.requires c.place_in-k.ensures)
