-- How long the buffers are that a run is handed and lent. Assumes nothing.
use Rattle.std.specs.Prelude.{ℕ, ◌+◌, ◌*◌}
use Rattle.figure.specs.Refusals.{most_actions}
use Rattle.lists.specs.Line.{line_width}
use Rattle.lists.specs.Record.{record_width}
use Rattle.lists.proofs.Largest.{largest}

-- the largest list, and one byte more
abbrev pub most_held : ℕ
most_held = largest + 1

-- 8 bytes of the trace an action, and 12 of the account an event
abbrev pub most_trace : ℕ
most_trace = record_width * most_actions

abbrev pub most_account : ℕ
most_account = line_width * most_actions
