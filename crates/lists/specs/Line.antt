-- "An account record is 12 bytes: an 8-byte event of kind 1 or 2, then big-endian the slot or write number, or FFFFFFFF if unpublished." Assumes nothing.
use Rattle.std.specs.Prelude.{List, ◌++◌, ℕ, ◌+◌}
use Rattle.lists.specs.Bytes.{u32_at, u32_bytes}
use Rattle.lists.specs.Codec.{Codec}
use Rattle.lists.specs.Record.{record_width, record_at, record_bytes}
use Rattle.lists.specs.declared.line.Line.{Line}

-- how many bytes a line of the account has
abbrev pub line_width : ℕ
line_width = 12

abbrev pub line_bytes : Line → List ℕ
line_bytes l = record_bytes l.event ++ u32_bytes l.number.0

-- the line whose bytes stand at place i
abbrev pub line_at : List ℕ → ℕ → Line
line_at s i = record { event = record_at s i; number = record { 0 = u32_at s (i + record_width) } }

abbrev pub line_codec : Codec Line
line_codec = record { width = line_width; bytes = line_bytes; reads = line_at }

-- the number of a write that is not published
abbrev pub no_number : ℕ
no_number = 0xFFFFFFFF
