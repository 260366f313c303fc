-- What program `account` prints of a worked case. Assumes nothing.
use Rattle.std.specs.Prelude.{◌≡◌, List, ◌++◌, ℕ}
use Prim.Native.String.{String}
use Rattle.lists.specs.Bytes.{rows}
use Rattle.shape.specs.Case.{Case}
use Rattle.demands.specs.Bench.{counts_of, lines_in}
use Rattle.report.specs.Text.{ascii, newline}
use Rattle.report.specs.Events.{account_text}

-- a line of the table, and its end
abbrev pub line_text : String → List ℕ
line_text s = ascii s ++ newline

abbrev pub printed_text : Case → List ℕ
printed_text c = rows line_text c.printed

-- the text of the case's counts and account is the table's, to the byte, whatever stands in the buffer past the account
pub record Prints (c : Case) : Type 0 where
  pub text : (rest : List ℕ) → account_text (counts_of c) (lines_in c ++ rest) ≡ printed_text c
