-- What program `account` prints of a run. Assumes nothing.
use Rattle.std.specs.Prelude.{Result, Ok, Err, List, ◌++◌, ℕ, ◌+◌, ◌*◌, min, eqb}
use Rattle.figure.specs.declared.Record.{Record}
use Rattle.figure.specs.Refusals.{pick, most_actions}
use Rattle.figure.specs.Refused.{number_of}
use Rattle.figure.specs.declared.refused.Refused.{Refused}
use Rattle.lists.specs.Line.{line_width, line_at, no_number}
use Rattle.demands.specs.Run.{Answered, answered_by}
use Rattle.demands.specs.declared.Counts.{Counts}
use Rattle.report.specs.Text.{ascii, newline, series}
use Rattle.report.specs.Decimal.{decimal, field, labelled}

-- "slot or write number or `-`"
unfoldable pub mark_field : ℕ → List ℕ
mark_field mark = pick (eqb mark no_number) (ascii " -") (field mark)

-- "R or W"
unfoldable pub kind_field : ℕ → List ℕ
kind_field kind = pick (eqb kind 1) (ascii " R") (ascii " W")

-- "R or W, engine, address, data"
unfoldable pub event_fields : Record → List ℕ
event_fields e = kind_field e.kind ++ field e.engine.0 ++ field e.address.0 ++ field e.«data» ++ newline

-- "Fields of a line: place from 1, slot or write number or `-`, R or W, engine, address, data."
unfoldable pub account_line : List ℕ → ℕ → List ℕ
account_line account k =
    let l = line_at account (line_width * k) in
    decimal (k + 1) ++ mark_field l.number.0 ++ event_fields l.event

-- "the counts", as in `accepted 14 refused 2 events 6 settled 1`
unfoldable pub counts_line : Answered → List ℕ
counts_line c =
    labelled (ascii "accepted ") c.accepted
    ++ labelled (ascii " refused ") c.refused
    ++ labelled (ascii " events ") c.events
    ++ labelled (ascii " settled ") c.settled
    ++ newline

unfoldable pub refused_line : ℕ → List ℕ
refused_line number = labelled (ascii "refused ") number ++ newline

-- an account has no more events than a list has actions
abbrev pub shown : Answered → ℕ
shown c = min c.events most_actions

-- "prints either `refused N` or the counts and the account"
unfoldable pub account_text : Answered → List ℕ → List ℕ
account_text c account =
    pick (eqb c.number 0) (counts_line c ++ series (account_line account) (shown c)) (refused_line c.number)

-- a run's answer, its refusal by number
abbrev pub numbered : Result Counts Refused → Result Counts ℕ
numbered (Ok c) = Ok c
numbered (Err e) = Err (number_of e)

-- of such an answer, whatever number is given as a refusal
unfoldable pub account_said : Result Counts ℕ → List ℕ → List ℕ
account_said (Ok c) account = account_text (answered_by (Ok c)) account
account_said (Err n) account = refused_line n

-- how long it can be: 116 bytes of counts, and lines of 37 bytes
abbrev pub most_account_text : ℕ
most_account_text = 116 + 37 * most_actions
