-- The table's part is the list's memory, and the part of the list that is handed on holds the list's actions. Assumes nothing.
use Rattle.std.proofs.Common.{sym, rules, ◌≤◌, length}
use lib.Seq.{length-take-le}
use Rattle.history.proofs.Traces.{table-in, actions_within, none-refused, turns-accepted, turned-traced}
use Rattle.history.proofs.write_trace.Goals as goal

pub slice_bounds-table-end : goal.slice_bounds-table-end
slice_bounds-table-end c = table-in c.requires c.memory_of-table.ensures

pub slice_bounds-turns_from_fresh-end : goal.slice_bounds-turns_from_fresh-end
slice_bounds-turns_from_fresh-end c = sym (length-take-le _ _ (table-in c.requires c.memory_of-table.ensures))

pub slice_bounds-turns_from_fresh-count : goal.slice_bounds-turns_from_fresh-count
slice_bounds-turns_from_fresh-count c = actions_within c.requires c.memory_of-table.ensures

pub slice_bounds-turns_from_fresh-start : goal.slice_bounds-turns_from_fresh-start
slice_bounds-turns_from_fresh-start c =
    let h : c.args.l.actions_at ≤ length c.args.list.now = actions_within c.requires c.memory_of-table.ensures in
    search rules

-- so nothing is refused
pub unwrap-requires : goal.unwrap-requires
unwrap-requires c = none-refused _ (turns-accepted c.requires c.memory_of-table.ensures c.turns_from_fresh.ensures)

pub returns : goal.returns
returns c = turned-traced c.requires c.memory_of-table.ensures c.turns_from_fresh.ensures
