-- How much the program prints of a chunk. Assumes nothing.
use Rattle.std.specs.Prelude.{ℕ, ◌+◌}
use Rattle.report.specs.Events.{most_account_text}
use Rattle.report.specs.Hex.{trace_text_length}

-- what one chunk prints at most: an account's text and a trace's line
abbrev pub most_printed : ℕ
most_printed = most_account_text + trace_text_length
