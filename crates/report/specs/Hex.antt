-- Bytes in lowercase hexadecimal digits, and the line of a trace. Assumes nothing.
use Rattle.std.specs.Prelude.{List, [], ◌∷◌, ◌++◌, ℕ, ◌+◌, ◌/◌, ◌%◌, ◌^◌, ltb}
use Rattle.figure.specs.Refusals.{pick}
use Rattle.report.specs.Text.{ascii, newline}

-- `0` to `9`, then `a` to `f`
abbrev pub hex_digit : ℕ → ℕ
hex_digit d = pick (ltb d 10) (48 + d) (87 + d)

unfoldable pub hex_byte : ℕ → List ℕ
hex_byte b = hex_digit (b / 16) ∷ hex_digit (b % 16) ∷ []

-- the four bytes of x
unfoldable pub hex_word : ℕ → List ℕ
hex_word x = hex_byte (x / 16777216) ++ hex_byte (x / 65536 % 256) ++ hex_byte (x / 256 % 256) ++ hex_byte (x % 256)

-- the 16 digits of a trace's hash
unfoldable pub trace_text : ℕ → List ℕ
trace_text hash = ascii "trace " ++ hex_word (hash / 2 ^ 32) ++ hex_word (hash % 2 ^ 32) ++ newline

-- `trace `, 16 digits and the end of the line
abbrev pub trace_text_length : ℕ
trace_text_length = 23
