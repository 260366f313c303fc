use Rattle.std.proofs.Common.{ℕ, List, ◌≤◌, length, refl, length-take, arith}
use Rattle.lists.specs.Read.{read_of, memory_table}
use Rattle.lists.proofs.Sized.{held}
use Rattle.lists.proofs.Table.{length-table}
use Rattle.report.proofs.Head.{front-values, head-parts}
use Rattle.report.proofs.actions.put_head.Goals as goal

-- the list has no more values than the table
within : (list : List ℕ) → (read_of list).sizes.addresses ≤ length (memory_table list)
within list = omega (arith, length-table list, (held list (read_of list) refl).addresses_most)

pub slice_bounds-table-end : goal.slice_bounds-table-end
slice_bounds-table-end c = rw (c.from.ensures, c.sizes_of-z.ensures, c.memory_of-table.ensures) (within c.args.list.now)

pub slice_bounds-put_values-end : goal.slice_bounds-put_values-end
slice_bounds-put_values-end c =
    let few : c.from.result ≤ length c.memory_of-table.result = rw (c.from.ensures, c.sizes_of-z.ensures, c.memory_of-table.ensures) (within c.args.list.now) in
    omega (arith, length-take c.from.result c.memory_of-table.result, few)

pub returns : goal.returns
returns c =
    let values = front-values c.memory_of-table.result c.from.result (rw (c.from.ensures, c.sizes_of-z.ensures, c.memory_of-table.ensures) (within c.args.list.now)) in
    rw (
      head-parts c.args.list.now c.args.to.now,
      ← c.memory_of-table.ensures,
      ← c.sizes_of-z.ensures,
      ← c.put_sizes.ensures,
      ← c.from.ensures,
      ← values,
      ← c.put_values.ensures,
    ) c.byte.ensures
